use Rattle.step_laws.proofs.Instructions.{each_followed}
use Rattle.step_laws.proofs.laws.steps_are_followed.Goals as goal

pub returns : goal.returns
returns c = each_followed
