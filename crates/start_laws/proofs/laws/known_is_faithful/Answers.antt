use Rattle.start_laws.proofs.Starts.{known_is_faithful}
use Rattle.start_laws.proofs.laws.known_is_faithful.Goals as goal

pub returns : goal.returns
returns c = known_is_faithful
