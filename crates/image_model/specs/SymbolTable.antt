-- Symbols: the fields of one at its place, and the list of places. System V gABI, "Symbol Table", "String Table".
use Rattle.std.specs.Prelude.{ℕ, ◌+◌, ◌*◌, ◌/◌, ◌%◌, not, ◌==◌, List, map, drop, slice_index}
use Rattle.std.specs.List.{take_while}
use Rattle.ordered_tests.specs.Checks.{from_to}
use Rattle.image_model.specs.Bytes.{half, word}
use Rattle.image_model.specs.SectionHeader.{symtab, sh_offset, sh_size}

abbrev pub symbol_count : List ℕ → ℕ
symbol_count b = sh_size b (symtab b) / 16

-- the place of symbol i
abbrev pub symbol_place : List ℕ → ℕ → ℕ
symbol_place b i = sh_offset b (symtab b) + 16 * i

abbrev pub symbol_places : List ℕ → List ℕ
symbol_places b = map (symbol_place b) (from_to 0 (symbol_count b))

abbrev pub st_name : List ℕ → ℕ → ℕ
st_name b at = word b at

abbrev pub st_value : List ℕ → ℕ → ℕ
st_value b at = word b (at + 4)

abbrev pub st_size : List ℕ → ℕ → ℕ
st_size b at = word b (at + 8)

-- the two halves of st_info
abbrev pub st_bind : List ℕ → ℕ → ℕ
st_bind b at = slice_index b (at + 12) / 16

abbrev pub st_type : List ℕ → ℕ → ℕ
st_type b at = slice_index b (at + 12) % 16

abbrev pub st_shndx : List ℕ → ℕ → ℕ
st_shndx b at = half b (at + 14)

-- the text at a place of a string table: the bytes up to a zero byte
abbrev pub text_at : List ℕ → ℕ → List ℕ
text_at strings at = take_while (λ c. not (c == 0)) (drop at strings)
