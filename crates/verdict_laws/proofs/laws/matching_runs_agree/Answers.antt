use Rattle.verdict_laws.proofs.Longer.{faithful_agree}
use Rattle.verdict_laws.proofs.laws.matching_runs_agree.Goals as goal

pub returns : goal.returns
returns c = λ g loadable layout linked match. faithful_agree g (c.matches_are_faithful.ensures g loadable layout linked match)
