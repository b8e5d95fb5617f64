-- Where in the file lent bytes stand. Each of these speaks of every file that stands for the image.
use Rattle.std.specs.Prelude.{◌≡◌, ◌≤◌, ℕ, ◌+◌, ◌-◌, List, length, slice_index, Contains}
use Rattle.image_model.specs.Bytes.{part}
use Rattle.image_model.specs.ProgramHeader.{p_offset, p_vaddr, p_filesz, loaded_headers}
use Rattle.image_model.specs.SectionHeader.{sh_offset, strtab}
use Rattle.image_model.specs.SymbolTable.{symbol_place, st_name}
use Rattle.image_model.specs.Image.{Image}
use Rattle.image_model.specs.Tests.{IsElf}

-- the p_filesz bytes at p_offset of loaded header i
abbrev pub IsPartOfSegment : Image → ℕ → List ℕ → Type 0
IsPartOfSegment v i bytes =
    (b : List ℕ) → IsElf b v → bytes ≡ part b (p_offset b (slice_index (loaded_headers b) i)) (p_filesz b (slice_index
    (loaded_headers b) i))

-- bytes at st_name of symbol i in the string table
abbrev pub IsPartOfTexts : Image → ℕ → List ℕ → Type 0
IsPartOfTexts v i name =
    (b : List ℕ) → IsElf b v → name ≡ part b (sh_offset b (strtab b) + st_name b (symbol_place b i)) (length name)

-- the bytes at the addresses from lo on that are below hi of a loaded header that has them in the file
pub record StandsAt (b : List ℕ) (lo hi : ℕ) (bytes : List ℕ) (at : ℕ) : Type 0 where
  pub header : Contains (loaded_headers b) at
  pub start : p_vaddr b at ≤ lo
  pub end : hi ≤ p_vaddr b at + p_filesz b at
  pub same : bytes ≡ part b (p_offset b at + (lo - p_vaddr b at)) (hi - lo)

abbrev pub IsPartOfRange : Image → ℕ → ℕ → List ℕ → Type 0
IsPartOfRange v lo hi bytes = (b : List ℕ) → IsElf b v → (at : ℕ) × StandsAt b lo hi bytes at
