use Rattle.call_laws.proofs.CallSteps.{call_step}
use Rattle.call_laws.proofs.laws.calls_agree.Goals as goal

pub returns : goal.returns
returns c = λ w ok s t r key o sig place is reply. call_step w ok s t r key o sig place is reply
