-- What holds of the segments that an executable loads. System V gABI, "Program Header", "Program Loading".
use Rattle.std.specs.Prelude.{◌≡◌, ◌≤◌, ℕ, true, length}
use Rattle.std.specs.List.{sum_by}
use Rattle.limits.specs.declared.TheConstants.{MOST_PROGRAM_HEADERS, MOST_LOADED_BYTES}
use Rattle.image_model.specs.Bytes.{AreBytes}
use Rattle.ordered_tests.specs.Lists.{EachOf, Pairwise}
use Rattle.image_model.specs.Image.{Image, Segment}
use Rattle.image_model.specs.Loaded.{HasRange, covers}

-- no address is in both
abbrev pub AreSeparate : Segment → Segment → Type 0
AreSeparate s t = (a : ℕ) → covers a s ≡ true → covers a t ≡ true → ⊥

pub record IsLoadable (v : Image) : Type 0 where
  pub most : length v.segments ≤ MOST_PROGRAM_HEADERS
  pub ranges : EachOf HasRange v.segments
  pub separate : Pairwise AreSeparate v.segments
  pub total : sum_by (λ (s : Segment). s.memsz) v.segments ≤ MOST_LOADED_BYTES
  pub bytes : EachOf (λ (s : Segment). AreBytes s.held) v.segments
