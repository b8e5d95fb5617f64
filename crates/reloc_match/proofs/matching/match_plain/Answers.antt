use Rattle.std.proofs.Common.{sym, ◌∙◌, ap}
use Rattle.std.specs.Prelude.{is_none}
use Rattle.code_model.specs.Forms.{plain_form}
use Rattle.reloc_match.proofs.Spelt.{spelt_exactly}
use Rattle.reloc_match.proofs.matching.match_plain.Goals as goal

pub returns-in-None-clause-spelt : goal.returns-in-None-clause-spelt
returns-in-None-clause-spelt c = λ l.
    ap is_none (sym c.in-None.is ∙ c.plain_fault.ensures l)
    ∙ spelt_exactly l 0 c.args.at (plain_form c.args.target c.args.instr.now) c.args.word

pub returns-in-Some-clause-spelt : goal.returns-in-Some-clause-spelt
returns-in-Some-clause-spelt c = λ l.
    ap is_none (sym c.in-Some.is ∙ c.plain_fault.ensures l)
    ∙ spelt_exactly l 0 c.args.at (plain_form c.args.target c.args.instr.now) c.args.word
