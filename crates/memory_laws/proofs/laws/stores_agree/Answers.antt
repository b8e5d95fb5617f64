use Rattle.memory_laws.proofs.AccessLaws.{store_law}
use Rattle.memory_laws.proofs.laws.stores_agree.Goals as goal

pub returns : goal.returns
returns c = λ w ok live next mem g. store_law w ok live next mem g
