use Rattle.std.proofs.Common.{◌∙◌, ap}
use Rattle.link_model.specs.Sets.{set_of}
use Rattle.symbol_bind.proofs.Neighbours.{same_candidates}
use Rattle.symbol_bind.proofs.candidates.candidates.Goals as goal

pub returns : goal.returns
returns c = c.make_set.ensures ∙ (ap set_of c.in_ok-values.ensures ∙ same_candidates _ _ _ c.places-count.ensures.index)
