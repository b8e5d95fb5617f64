-- The loaded segments of an image, sorted by their addresses.
use Rattle.std.specs.Prelude.{◌≡◌, ℕ, List, IsPermutation, All, Some, map, slice_get}
use Rattle.std.specs.List.Sorted.{IsNonDecreasingBy}
use Rattle.image_model.specs.Image.{Image, Segment}
use Rattle.image_model.specs.Segments.{IsLoadable}
use Rattle.elf_view.specs.Views.{segment_seen}
use Rattle.elf_view.specs.declared.loaded_segments.NumberedSegment.{NumberedSegment}

pub record AreByAddress (v : Image) (segments : List Segment) : Type 0 where
  pub loadable : IsLoadable v
  pub all : IsPermutation v.segments segments
  pub sorted : IsNonDecreasingBy (λ (s : Segment). s.vaddr) segments

abbrev pub numbered_seen : NumberedSegment → Segment
numbered_seen s = segment_seen s.segment

abbrev pub begin : NumberedSegment → ℕ
begin s = s.segment.vaddr

abbrev pub IsNumbered : List Segment → NumberedSegment → Type 0
IsNumbered segments s = slice_get segments s.number ≡ Some (numbered_seen s)

pub record AreSorted (v : Image) (segments : List NumberedSegment) : Type 0 where
  pub seen : AreByAddress v (map numbered_seen segments)
  pub sorted : IsNonDecreasingBy begin segments
  pub numbers : All (IsNumbered v.segments) segments
