use Rattle.std.proofs.Common.{rules}
use Rattle.std.proofs.lemmas.List.Sorted.{answers_always, IsNonDecreasingBy-from_sort}
use Rattle.elf_view.specs.ByAddress.{begin}
use Rattle.elf_view.proofs.loaded_segments.sort.Goals as goal

pub returns-clause-sorted : goal.returns-clause-sorted
returns-clause-sorted c =
    IsNonDecreasingBy-from_sort begin _ (c.sort_unstable_by_key.ensures.sorted begin (answers_always _ _ _ (λ f a r g h. search rules)))
