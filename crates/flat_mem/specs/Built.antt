-- The memory of an image and a stack.
use Rattle.std.specs.Prelude.{◌≡◌, ◌≤◌, ℕ, ◌+◌, ◌-◌, ◌^◌, true, false, if◌then◌else◌, List, ◌∷◌, ◌++◌, map, replicate, length, slice_get}
use Rattle.std.specs.Prelude.{Some}
use Rattle.word_ops.specs.Ranges.{Extent, extent, holds}
use Rattle.image_model.specs.Image.{Image, Segment}
use Rattle.image_model.specs.Loaded.{is_writable, byte_at, flags_at}
use Rattle.image_model.specs.Segments.{IsLoadable}
use Rattle.flat_mem.specs.Memory.{byte_in, flags_in}

-- a segment with all its bytes
abbrev pub filled : Segment → Segment
filled s = record s { held = s.held ++ replicate (s.memsz - length s.held) 0 }

-- what is kept of a segment: one that can be stored to has all its bytes
abbrev pub kept : Segment → Segment
kept s = if is_writable s.flags then filled s else s

-- the stack, writable and not executable
abbrev pub stack_segment : ℕ → List ℕ → Segment
stack_segment from bytes = record { vaddr = from; held = bytes; memsz = length bytes; flags = 2 }

abbrev pub built : Image → ℕ → List ℕ → List Segment
built v from stack = stack_segment from stack ∷ map kept v.segments

-- the stack's bytes stand in its range, which can be stored to and not run, and all else is what the image loads
pub record HoldsImage (v : Image) (range : Extent) (stack : List ℕ) (m : List Segment) : Type 0 where
  pub stack_bytes : (a : ℕ) → holds a range ≡ true → byte_in m a ≡ slice_get stack (a - range.lo)
  pub stack_flags : (a : ℕ) → holds a range ≡ true → flags_in m a ≡ Some 2
  pub image_bytes : (a : ℕ) → holds a range ≡ false → byte_in m a ≡ byte_at v a
  pub image_flags : (a : ℕ) → holds a range ≡ false → flags_in m a ≡ flags_at v a

-- ---- what memory is made of

-- what is owned has all its bytes, and what is lent no more than the region
pub record IsRegion (from size flags : ℕ) (lent owned : List ℕ) : Type 0 where
  pub below : from + size ≤ 2 ^ 32
  pub lends : length lent ≤ size
  pub owns : is_writable flags ≡ true → length owned ≡ size

abbrev pub segment_extent : Segment → Extent
segment_extent s = extent s.vaddr (s.vaddr + s.memsz)

-- the regions stand where the segments of the image do
pub record AreRegionsOf (v : Image) (regions : List Segment) : Type 0 where
  pub loadable : IsLoadable v
  pub extents : map segment_extent regions ≡ map segment_extent v.segments
