use Rattle.call_laws.proofs.CallSteps.{stop_step}
use Rattle.call_laws.proofs.laws.ends_agree.Goals as goal

pub returns : goal.returns
returns c = stop_step
