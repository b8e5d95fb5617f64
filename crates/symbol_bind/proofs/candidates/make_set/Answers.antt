use Rattle.std.proofs.Common.{◌∙◌}
use Rattle.std.proofs.lemmas.List.Filters.{dedup_is}
use Rattle.symbol_bind.proofs.SetLemmas.{sorted_set}
use Rattle.symbol_bind.proofs.candidates.make_set.Goals as goal

pub returns : goal.returns
returns c = dedup_is _ _ _ c.dedup.ensures.filtered ∙ sorted_set _ _ c.sort_unstable.ensures.permutation c.sort_unstable.ensures.sorted
