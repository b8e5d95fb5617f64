use Rattle.std.proofs.Common.{◌&&◌, ◌∙◌, get_or, sym, ap}
use Rattle.symbol_bind.specs.AddressSets.{contains}
use Rattle.symbol_bind.specs.Open.{use_by_instr}
use Rattle.symbol_bind.proofs.Narrowed.{open_more, place_wraps}
use Rattle.symbol_bind.proofs.uses.note_instr.Goals as goal

pub returns-then-k-sets-clause-open : goal.returns-then-k-sets-clause-open
returns-then-k-sets-clause-open c = λ us old.
    open_more c.args.layout.now us (use_by_instr c.args.key c.args.at c.args.plain.now c.args.word) c.args.sets.now c.in-Some.k
    c.index-sets-k.result _ c.in-Some.is c.if-k-sets.true
    (λ t fits. c.by_plain.ensures t fits ∙ ap (λ b. contains (get_or c.args.sets.now c.in-Some.k c.index-sets-k.result) t && b)
    (sym (place_wraps c.args.layout.now t c.args.at c.args.word c.args.plain.now))) old
