use Rattle.file_laws.proofs.Plains.{plain_alike}
use Rattle.file_laws.proofs.laws.actions_agree.Goals as goal

pub returns : goal.returns
returns c = plain_alike
