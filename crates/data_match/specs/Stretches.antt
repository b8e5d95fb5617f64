-- The first fault of some neighbouring bytes of a variable, and what a segment has of them.
use Rattle.std.specs.Prelude.{◌≡◌, ◌≤◌, ℕ, ◌+◌, List, map, Option, Some}
use Rattle.std.specs.List.{enumerate_from}
use Rattle.ordered_tests.specs.Checks.{first_fault}
use Rattle.image_model.specs.Image.{Image, Segment}
use Rattle.image_model.specs.Loaded.{segment_of}
use Rattle.image_model.specs.Segments.{IsLoadable}
use Rattle.code_model.specs.declared.spot.Spot.{Spot}
use Rattle.code_model.specs.Variables.{data_check}

-- of the bytes from an offset on, of the variable at a
unfoldable pub bytes_fault : Image → ℕ → ℕ → List ℕ → Option Spot
bytes_fault v a offset bytes = first_fault (map (data_check v a) (enumerate_from offset bytes))

-- the segment has the addresses from lo on that are below hi
pub record HasAll (v : Image) (s : Segment) (lo hi : ℕ) : Type 0 where
  pub loadable : IsLoadable v
  pub home : ℕ
  pub found : segment_of v home ≡ Some s
  pub low : s.vaddr ≤ lo
  pub high : hi ≤ s.vaddr + s.memsz
