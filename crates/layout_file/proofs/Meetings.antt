-- Ranges that are tested pair by pair.
use Rattle.std.proofs.Common.{◌≡◌, ℕ, ◌+◌, ◌<◌, Bool, true, false, List, [], length, get_or, map, Some, None, Ok, refl, sym, ap, subst, ◌∙◌}
use Rattle.std.specs.Prelude.{not}
use Rattle.std.proofs.lemmas.Bool.{not-true}
use Rattle.std.proofs.lemmas.List.{get_or-map}
use Rattle.word_ops.specs.Ranges.{Extent, extent, meets}
use Rattle.word_ops.specs.Seen.{extent_of}
use Rattle.word_ops.specs.declared.range.Range.{Range}
use Rattle.ordered_tests.specs.Checks.{check, first_fault, each_check, from_to}
use Rattle.ordered_tests.proofs.Faults.{number_passes, head_passes, each_number_passes, each_number_fails}
use Rattle.ordered_tests.proofs.Answers.{no_fault}
use Rattle.ordered_tests.proofs.Lists.{pairs_by_place}
use Rattle.ordered_tests.specs.Steps.{all_pass}
use Rattle.layout_model.specs.Layouts.{Layout, ranges}
use Rattle.layout_model.specs.Facts.{AreApart, ArePairwiseApart, AreParts, IsLayout}
use Rattle.layout_file.specs.LayoutFile.{Meet, range_at, pair_test, earlier_tests, apart_tests}

pub apart_from_tests : (ranges : List Extent) → first_fault (apart_tests ranges) ≡ None → ArePairwiseApart ranges
apart_from_tests ranges h = pairs_by_place AreApart ranges (extent 0 0) (λ i j before below.
    let later = number_passes (earlier_tests ranges) (length ranges) j h below in
    let pair = number_passes (pair_test ranges j) j i later before in
    not-true (meets (range_at ranges i) (range_at ranges j)) (
    head_passes (check (not (meets (range_at ranges i) (range_at ranges j))) (Meet i j)) [] pair))

-- ---- the ranges as the code has them

seen_at : (ranges : List Range) (i : ℕ) (range : Range) → i < length ranges → range ≡ get_or ranges i range
    → range_at (map extent_of ranges) i ≡ extent_of range
seen_at ranges i range below is = get_or-map extent_of ranges i range (extent 0 0) below ∙ ap extent_of (sym is)

module _ (ranges : List Range) (i j : ℕ) (earlier later : Range) (before : i < j) (below : j < length ranges) (some : i < length ranges)
    (is_earlier : earlier ≡ get_or ranges i earlier) (is_later : later ≡ get_or ranges j later) where
  met : meets (range_at (map extent_of ranges) i) (range_at (map extent_of ranges) j) ≡ meets (extent_of earlier) (extent_of later)
  met = rw (seen_at ranges i earlier some is_earlier, seen_at ranges j later below is_later) refl

  pub pair_passes : meets (extent_of earlier) (extent_of later) ≡ false
      → first_fault (each_check (pair_test (map extent_of ranges) j) (from_to i j))
      ≡ first_fault (each_check (pair_test (map extent_of ranges) j) (from_to (i + 1) j))
  pair_passes h = each_number_passes (pair_test (map extent_of ranges) j) i j before (rw (met, h) refl)

  pub pair_fails : meets (extent_of earlier) (extent_of later) ≡ true
      → first_fault (each_check (pair_test (map extent_of ranges) j) (from_to i j)) ≡ Some (Meet i j)
  pair_fails h = each_number_fails (pair_test (map extent_of ranges) j) i j (Meet i j) before (rw (met, h) refl)

-- ---- the whole

pub layout_is : (layout : Layout) (found : List Extent) → found ≡ ranges layout → AreParts layout → all_pass (apart_tests found) ≡ Ok tt
    → IsLayout layout
layout_is layout found same parts h =
    record { parts = parts; apart = subst ArePairwiseApart same (apart_from_tests found (no_fault (first_fault (apart_tests found)) h)) }
