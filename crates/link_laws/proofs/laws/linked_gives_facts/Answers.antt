use Rattle.link_laws.proofs.Proofs.{linked_gives_facts}
use Rattle.link_laws.proofs.laws.linked_gives_facts.Goals as goal

pub returns : goal.returns
returns c = linked_gives_facts
