-- The smallest executable with one segment of two words, one symbol and its string table, and what the definitions make of it.
use Rattle.std.specs.Prelude.{◌≡◌, ℕ, List, [], ◌∷◌, ◌++◌, take, drop, true, false, Some, None, refl}
use Rattle.ordered_tests.specs.Checks.{first_fault}
use Rattle.image_model.specs.declared.error.ElfError.TheVariants.{Short, SegRange, NameEnd}
use Rattle.image_model.specs.Bytes.{half, word}
use Rattle.image_model.specs.Image.{Image, image_of}
use Rattle.image_model.specs.Tests.{elf_tests}
use Rattle.image_model.specs.Loaded.{word_at, byte_at, flags_at, held_bytes, is_executable, is_writable}
use Rattle.image_model.specs.Names.{name_start_at}

abbrev pub example_bytes : List ℕ
example_bytes =
    127 ∷ 69 ∷ 76 ∷ 70 ∷ 1 ∷ 2 ∷ 1 ∷ 0 ∷ 0 ∷ 0 ∷ 0 ∷ 0 ∷ 0 ∷ 0 ∷ 0 ∷ 0 ∷
    0 ∷ 2 ∷ 0 ∷ 20 ∷ 0 ∷ 0 ∷ 0 ∷ 1 ∷ 16 ∷ 1 ∷ 0 ∷ 0 ∷ 0 ∷ 0 ∷ 0 ∷ 52 ∷
    0 ∷ 0 ∷ 0 ∷ 132 ∷ 0 ∷ 0 ∷ 0 ∷ 0 ∷ 0 ∷ 52 ∷ 0 ∷ 32 ∷ 0 ∷ 1 ∷ 0 ∷ 40 ∷
    0 ∷ 3 ∷ 0 ∷ 0 ∷ 0 ∷ 0 ∷ 0 ∷ 1 ∷ 0 ∷ 0 ∷ 0 ∷ 84 ∷ 16 ∷ 1 ∷ 0 ∷ 0 ∷
    16 ∷ 1 ∷ 0 ∷ 0 ∷ 0 ∷ 0 ∷ 0 ∷ 8 ∷ 0 ∷ 0 ∷ 0 ∷ 8 ∷ 0 ∷ 0 ∷ 0 ∷ 5 ∷
    0 ∷ 0 ∷ 0 ∷ 4 ∷ 56 ∷ 96 ∷ 0 ∷ 7 ∷ 78 ∷ 128 ∷ 0 ∷ 32 ∷ 0 ∷ 109 ∷ 97 ∷ 105 ∷
    110 ∷ 0 ∷ 0 ∷ 0 ∷ 0 ∷ 0 ∷ 0 ∷ 0 ∷ 0 ∷ 0 ∷ 0 ∷ 0 ∷ 0 ∷ 0 ∷ 0 ∷ 0 ∷
    0 ∷ 0 ∷ 0 ∷ 0 ∷ 0 ∷ 0 ∷ 0 ∷ 1 ∷ 16 ∷ 1 ∷ 0 ∷ 0 ∷ 0 ∷ 0 ∷ 0 ∷ 8 ∷
    18 ∷ 0 ∷ 255 ∷ 241 ∷ 0 ∷ 0 ∷ 0 ∷ 0 ∷ 0 ∷ 0 ∷ 0 ∷ 0 ∷ 0 ∷ 0 ∷ 0 ∷ 0 ∷
    0 ∷ 0 ∷ 0 ∷ 0 ∷ 0 ∷ 0 ∷ 0 ∷ 0 ∷ 0 ∷ 0 ∷ 0 ∷ 0 ∷ 0 ∷ 0 ∷ 0 ∷ 0 ∷
    0 ∷ 0 ∷ 0 ∷ 0 ∷ 0 ∷ 0 ∷ 0 ∷ 0 ∷ 0 ∷ 0 ∷ 0 ∷ 0 ∷ 0 ∷ 0 ∷ 0 ∷ 0 ∷
    0 ∷ 0 ∷ 0 ∷ 2 ∷ 0 ∷ 0 ∷ 0 ∷ 0 ∷ 0 ∷ 0 ∷ 0 ∷ 0 ∷ 0 ∷ 0 ∷ 0 ∷ 100 ∷
    0 ∷ 0 ∷ 0 ∷ 32 ∷ 0 ∷ 0 ∷ 0 ∷ 2 ∷ 0 ∷ 0 ∷ 0 ∷ 1 ∷ 0 ∷ 0 ∷ 0 ∷ 4 ∷
    0 ∷ 0 ∷ 0 ∷ 16 ∷ 0 ∷ 0 ∷ 0 ∷ 0 ∷ 0 ∷ 0 ∷ 0 ∷ 3 ∷ 0 ∷ 0 ∷ 0 ∷ 0 ∷
    0 ∷ 0 ∷ 0 ∷ 0 ∷ 0 ∷ 0 ∷ 0 ∷ 92 ∷ 0 ∷ 0 ∷ 0 ∷ 6 ∷ 0 ∷ 0 ∷ 0 ∷ 0 ∷
    0 ∷ 0 ∷ 0 ∷ 0 ∷ 0 ∷ 0 ∷ 0 ∷ 1 ∷ 0 ∷ 0 ∷ 0 ∷ 0 ∷ []

abbrev pub example_image : Image
example_image = record {
  entry = 0x10010000;
  segments = record { vaddr = 0x10010000; held = 56 ∷ 96 ∷ 0 ∷ 7 ∷ 78 ∷ 128 ∷ 0 ∷ 32 ∷ []; memsz = 8; flags = 5 } ∷ [];
  symbols =
      record { name = []; value = 0; size = 0; binding = 0; kind = 0; shndx = 0 }
      ∷ record { name = 109 ∷ 97 ∷ 105 ∷ 110 ∷ []; value = 0x10010000; size = 8; binding = 1; kind = 2; shndx = 65521 }
      ∷ [];
}

pub example_stands_for : image_of example_bytes ≡ example_image
unfolding image_of half word
example_stands_for = refl

pub example_passes : first_fault (elf_tests example_bytes) ≡ None
unfolding elf_tests half word
example_passes = refl

pub cut_example_is_short : first_fault (elf_tests (take 51 example_bytes)) ≡ Some (Short 51)
unfolding elf_tests half word
cut_example_is_short = refl

-- the size in memory is changed to 7, one less than in the file
pub small_memory_fails : first_fault (elf_tests (take 75 example_bytes ++ 7 ∷ drop 76 example_bytes)) ≡ Some (SegRange 52)
unfolding elf_tests half word
small_memory_fails = refl

-- the second symbol's name is behind the string table
pub far_name_fails : first_fault (elf_tests (take 119 example_bytes ++ 6 ∷ drop 120 example_bytes)) ≡ Some (NameEnd 116)
unfolding elf_tests half word
far_name_fails = refl

pub example_word : word_at example_image 0x10010004 ≡ Some 0x4e800020
example_word = refl

-- one of its bytes is not loaded
pub example_no_word : word_at example_image 0x10010005 ≡ None
example_no_word = refl

pub example_flags : flags_at example_image 0x10010007 ≡ Some 5
example_flags = refl

pub example_end : byte_at example_image 0x10010008 ≡ None
example_end = refl

pub example_held : held_bytes example_image 0x10010003 0x10010005 ≡ Some (7 ∷ 78 ∷ [])
example_held = refl

-- the second symbol has a name, and there is no third
pub example_starts : name_start_at example_image.symbols 1 ≡ 109 ∷ 97 ∷ 105 ∷ 110 ∷ []
example_starts = refl

pub example_no_start : (let none : List ℕ = [] in name_start_at example_image.symbols 2 ≡ none)
example_no_start = refl

-- flags 5 and 6
pub code_flags : is_executable 5 ≡ true
code_flags = refl

pub code_is_closed : is_writable 5 ≡ false
code_is_closed = refl

pub data_flags : is_writable 6 ≡ true
data_flags = refl

pub data_is_no_code : is_executable 6 ≡ false
data_is_no_code = refl
