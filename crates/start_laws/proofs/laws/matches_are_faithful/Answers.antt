use Rattle.link_model.specs.Binding.{addresses}
use Rattle.start_laws.proofs.laws.matches_are_faithful.Goals as goal

pub returns : goal.returns
returns c = λ g loadable layout linked match. c.known_is_faithful.ensures g (record {
  loadable = loadable;
  layout = layout;
  linked = c.linked_gives_facts.ensures g.program linked;
  facts = c.matches_give_facts.ensures g (addresses g) layout linked match;
})
