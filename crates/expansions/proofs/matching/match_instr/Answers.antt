use Rattle.std.proofs.Common.{sym, ◌∙◌, ap}
use Rattle.std.specs.Prelude.{is_none}
use Rattle.expansions.proofs.Spellings.{instr_exactly}
use Rattle.expansions.proofs.matching.match_instr.Goals as goal

pub returns-in-Some-clause-spelt : goal.returns-in-Some-clause-spelt
returns-in-Some-clause-spelt c =
    ap is_none (sym c.in-Some.is ∙ c.instr_fault.ensures)
    ∙ instr_exactly c.args.layout.now c.args.at c.args.target c.args.instr.now c.args.words.now c.requires.all

pub returns-in-None-clause-spelt : goal.returns-in-None-clause-spelt
returns-in-None-clause-spelt c =
    ap is_none (sym c.in-None.is ∙ c.instr_fault.ensures)
    ∙ instr_exactly c.args.layout.now c.args.at c.args.target c.args.instr.now c.args.words.now c.requires.all
