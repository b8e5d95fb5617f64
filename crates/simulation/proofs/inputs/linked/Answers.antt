use Rattle.asm_program.specs.Faults as faults
use Rattle.simulation.proofs.Refusals.{linked_refuses}
use Rattle.simulation.proofs.inputs.linked.Goals as goal

pub returns-in-Err-clause-linked : goal.returns-in-Err-clause-linked
returns-in-Err-clause-linked c =
    linked_refuses _ (faults.told c.in-Err.error) c.args.units.now c.args.entry.now c.refusal_of.result
    c.in-Err.ensures.answer c.refusal_of.ensures.told c.refusal_of.ensures.memory
