-- The order of symbols: by the start of the name, then by number.
use Rattle.std.specs.Prelude.{ℕ, Bool, List, length}
use Rattle.std.specs.declared.cmp.Ordering.{Ordering}
use Rattle.std.specs.Ordering.{nat_cmp, ordering_then, is_lt}
use Rattle.std.specs.Cmp.Lexicographic.{slice_cmp}
use Rattle.std.specs.List.{range_with_len}
use Rattle.std.specs.List.Sorted.{IsPermutation, IsSortedBy}
use Rattle.image_model.specs.Image.{Symbol}
use Rattle.image_model.specs.Names.{name_start_at}

-- of the symbols with the numbers i and j
abbrev pub order : List Symbol → ℕ → ℕ → Ordering
order symbols i j = ordering_then (slice_cmp nat_cmp (name_start_at symbols i) (name_start_at symbols j)) (nat_cmp i j)

abbrev pub comes_before : List Symbol → ℕ → ℕ → Bool
comes_before symbols i j = is_lt (order symbols i j)

-- each symbol's number once, in order
pub record IsIndex (symbols : List Symbol) (places : List ℕ) : Type 0 where
  pub each : IsPermutation (range_with_len 0 (length symbols)) places
  pub ordered : IsSortedBy (comes_before symbols) places
