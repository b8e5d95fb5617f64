-- When a variable stands in an image, and its tests in their order, each with its fault: its bytes, then its place.
-- `symbol_at` is the address of the symbol that a name means.
use Rattle.std.specs.Prelude.{◌≡◌, ℕ, ◌+◌, ◌/◌, ◌%◌, ◌<◌, Bool, true, false, ◌==◌, List, [], ◌∷◌, ◌++◌, map, flat_map, replicate, Some}
use Rattle.std.specs.Prelude.{slice_get, unwrap_or, if◌then◌else◌}
use Rattle.std.specs.List.{list_all, enumerate_from}
use Rattle.std.specs.Option.{option_map_or}
use Rattle.ordered_tests.specs.Checks.{Check, check, from_to}
use Rattle.word_ops.specs.Ranges.{Extent, extent}
use Rattle.image_model.specs.Image.{Image}
use Rattle.image_model.specs.Loaded.{byte_at}
use Rattle.layout_model.specs.Layouts.{Layout}
use Rattle.asm_syntax.specs.declared.rule.Rule.TheVariants as rules
use Rattle.asm_syntax.specs.declared.unit.Variable.{Variable}
use Rattle.asm_syntax.specs.declared.unit.Init.{Init}
use Rattle.asm_syntax.specs.declared.unit.Init.TheVariants.{Int8, Int16, Int32, Bytes, Space, Addr}
use Rattle.asm_syntax.specs.Sizes.{variable_size}
use Rattle.code_model.specs.declared.spot.Spot.{Spot}
use Rattle.code_model.specs.Fields.{address_plus}
use Rattle.code_model.specs.WordChecks.{spot}
use Rattle.code_model.specs.Addresses.{is_writable_at}
use Rattle.code_model.specs.Areas.{is_data_kind, is_in_one_area}

-- ---- what its bytes are

-- the bytes of a word, the highest first
abbrev pub word_bytes : ℕ → List ℕ
word_bytes w = w / 16777216 % 256 ∷ w / 65536 % 256 ∷ w / 256 % 256 ∷ w % 256 ∷ []

abbrev pub init_bytes : (List ℕ → ℕ) → Init → List ℕ
init_bytes symbol_at (Int8 n) = n ∷ []
init_bytes symbol_at (Int16 n) = n / 256 ∷ n % 256 ∷ []
init_bytes symbol_at (Int32 n) = word_bytes n
init_bytes symbol_at (Bytes bytes) = bytes
init_bytes symbol_at (Space n) = replicate n 0
init_bytes symbol_at (Addr name offset) = word_bytes (address_plus (symbol_at name) offset)

-- the bytes of all items, joined
abbrev pub data_bytes : (List ℕ → ℕ) → Variable → List ℕ
data_bytes symbol_at x = flat_map (init_bytes symbol_at) x.init

-- the bytes of the variable at a are loaded
abbrev pub DataIs : Image → (List ℕ → ℕ) → ℕ → Variable → Type 0
DataIs v symbol_at a x = (o byte : ℕ) → slice_get (data_bytes symbol_at x) o ≡ Some byte → byte_at v (a + o) ≡ Some byte

-- ---- where it is

abbrev pub data_range : ℕ → Variable → Extent
data_range a x = extent a (a + variable_size x.init)

-- the variable at a is aligned, in one area of a right kind, and writable where it has to be
pub record IsDataPlaced (v : Image) (l : Layout) (alignment a : ℕ) (x : Variable) : Type 0 where
  pub aligned : a % alignment ≡ 0
  pub inside : is_in_one_area l (is_data_kind x.writable) (data_range a x) ≡ true
  pub writable : x.writable ≡ true → (o : ℕ) → o < variable_size x.init → is_writable_at v (a + o) ≡ true

-- ---- the tests

-- stands for a byte that is not loaded
abbrev pub no_byte : ℕ
no_byte = 0x100

-- a byte with its offset
abbrev pub data_check : Image → ℕ → ℕ × ℕ → Check Spot
data_check v a byte =
    check (option_map_or (λ found. found == byte.1) (byte_at v (a + byte.0)) false)
    (spot rules.DataBytes byte.0 0 byte.1 (unwrap_or (byte_at v (a + byte.0)) no_byte))

unfoldable pub data_checks : Image → (List ℕ → ℕ) → ℕ → Variable → List (Check Spot)
data_checks v symbol_at a x = map (data_check v a) (enumerate_from 0 (data_bytes symbol_at x))

-- a variable that the program writes is in segments with PF_W
abbrev pub is_written_where_it_may : Image → ℕ → Variable → Bool
is_written_where_it_may v a x = if x.writable then list_all (is_writable_at v) (from_to a (a + variable_size x.init)) else true

unfoldable pub data_place_checks : Image → Layout → ℕ → ℕ → Variable → List (Check Spot)
data_place_checks v l alignment a x =
    check (a % alignment == 0) (spot rules.DataPlace 0 2 0 a)
    ∷ check (is_in_one_area l (is_data_kind x.writable) (data_range a x)) (spot rules.DataPlace 0 3 0 a)
    ∷ check (is_written_where_it_may v a x) (spot rules.DataPlace 0 4 0 a)
    ∷ []

abbrev pub variable_checks : Image → Layout → (List ℕ → ℕ) → ℕ → ℕ → Variable → List (Check Spot)
variable_checks v l symbol_at alignment a x = data_checks v symbol_at a x ++ data_place_checks v l alignment a x
