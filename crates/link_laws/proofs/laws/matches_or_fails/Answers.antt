use Rattle.link_laws.proofs.Proofs.{matches_or_fails}
use Rattle.link_laws.proofs.laws.matches_or_fails.Goals as goal

pub returns : goal.returns
returns c = matches_or_fails
