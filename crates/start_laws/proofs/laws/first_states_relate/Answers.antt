use Rattle.start_laws.proofs.Starts.{first_states_relate}
use Rattle.start_laws.proofs.laws.first_states_relate.Goals as goal

pub returns : goal.returns
returns c = first_states_relate
