-- The segment in which reading begins.
use Rattle.std.specs.Prelude.{◌≡◌, ℕ, Option, option_map}
use Rattle.image_model.specs.Image.{Image}
use Rattle.image_model.specs.Loaded.{segment_of}
use Rattle.image_model.specs.Segments.{IsLoadable}
use Rattle.elf_view.specs.Views.{segment_seen}
use Rattle.elf_view.specs.declared.segment.SegView.{SegView}

-- the segment that holds an address of the image, if one does
pub record IsNear (v : Image) (home : ℕ) (near : Option SegView) : Type 0 where
  pub loadable : IsLoadable v
  pub found : option_map segment_seen near ≡ segment_of v home
