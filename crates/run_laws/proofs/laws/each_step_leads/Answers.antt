use Rattle.run_laws.proofs.StepLaw.{step_law}
use Rattle.run_laws.proofs.laws.each_step_leads.Goals as goal

pub returns : goal.returns
returns c = step_law
