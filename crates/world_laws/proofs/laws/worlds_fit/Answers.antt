use Rattle.world_laws.proofs.WorldFacts.{worlds_fit}
use Rattle.world_laws.proofs.laws.worlds_fit.Goals as goal

pub returns : goal.returns
returns c = worlds_fit
