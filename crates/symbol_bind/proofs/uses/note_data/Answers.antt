use Rattle.std.proofs.Common.{◌≡◌, rules}
use Rattle.std.proofs.Common.{w32, to_z, of_z}
use Rattle.std.proofs.lemmas.Int.{to_z-of_z}
use Rattle.symbol_bind.specs.Open.{use_by_data}
use Rattle.symbol_bind.proofs.Narrowed.{open_more}
use Rattle.symbol_bind.proofs.uses.note_data.Goals as goal

pub returns-then-k-sets-clause-open : goal.returns-then-k-sets-clause-open
returns-then-k-sets-clause-open c = λ us old.
    let same_offset : to_z w32 (of_z w32 c.args.offset) ≡ c.args.offset = search (rules, to_z-of_z) in
    open_more c.args.layout.now us (use_by_data c.args.key c.args.at c.args.offset c.args.word) c.args.sets.now c.in-Some.k
    c.index-sets-k.result _ c.in-Some.is c.if-k-sets.true
    (λ t fits. rw same_offset at (c.by_data.ensures c.args.layout.now t c.args.at fits)) old
