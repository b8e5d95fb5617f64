use Rattle.memory_laws.proofs.AccessLaws.{load_law}
use Rattle.memory_laws.proofs.laws.loads_agree.Goals as goal

pub returns : goal.returns
returns c = λ w ok live next mem g. load_law w ok live next mem g
