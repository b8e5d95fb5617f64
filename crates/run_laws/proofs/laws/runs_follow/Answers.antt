use Rattle.run_laws.proofs.Runs.{simulates}
use Rattle.run_laws.proofs.laws.runs_follow.Goals as goal

pub returns : goal.returns
returns c = simulates
