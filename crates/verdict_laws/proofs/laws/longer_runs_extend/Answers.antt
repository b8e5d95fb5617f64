use Rattle.verdict_laws.proofs.Longer.{longer_runs_extend}
use Rattle.verdict_laws.proofs.laws.longer_runs_extend.Goals as goal

pub returns : goal.returns
returns c = longer_runs_extend
