use Rattle.value_laws.proofs.Lookups.{homes_agree}
use Rattle.value_laws.proofs.laws.homes_agree.Goals as goal

pub returns : goal.returns
returns c = homes_agree
