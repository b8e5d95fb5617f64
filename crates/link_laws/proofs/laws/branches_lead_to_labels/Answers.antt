use Rattle.link_laws.proofs.Proofs.{labels_stand}
use Rattle.link_laws.proofs.laws.branches_lead_to_labels.Goals as goal

pub returns-clause-labels : goal.returns-clause-labels
returns-clause-labels c = labels_stand
