-- Executables whose file is cut off.
use Rattle.std.specs.Prelude.{◌⊎◌, ◌<◌, ℕ, ◌+◌, ◌*◌, List, take}
use Rattle.image_model.specs.FileHeader.{e_phoff, e_phnum, e_shoff, e_shnum}
use Rattle.image_model.specs.Image.{Image}
use Rattle.image_model.specs.Tests.{IsElf}

-- the first n bytes end before the end of the file header, of the section headers, or of the program headers, if there are any
abbrev pub EndsInHeaders : List ℕ → ℕ → Type 0
EndsInHeaders b n =
    (n < 52) ⊎ ((n < e_shoff b + 40 * e_shnum b) ⊎ ((0 < e_phnum b) × (n < e_phoff b + 32 * e_phnum b)))

abbrev pub CutImagesAreNone : Type 0
CutImagesAreNone = (b : List ℕ) (v w : Image) (n : ℕ) → IsElf b v → EndsInHeaders b n → ¬ IsElf (take n b) w
