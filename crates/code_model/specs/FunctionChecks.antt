-- The tests of a function in their order, each with its fault: its place, then each instruction's words and its table.
-- `symbol_at` is the address of the symbol that a name means, `label_at` that of a label.
use Rattle.std.specs.Prelude.{ℕ, ◌+◌, ◌-◌, ◌*◌, ◌%◌, Bool, ◌&&◌, ◌==◌, List, [], ◌∷◌, ◌++◌, length, map}
use Rattle.ordered_tests.specs.Checks.{Check, check, from_to}
use Rattle.word_ops.specs.Ranges.{extent}
use Rattle.image_model.specs.Image.{Image}
use Rattle.layout_model.specs.Layouts.{Layout}
use Rattle.asm_syntax.specs.declared.rule.Rule.TheVariants as rules
use Rattle.asm_syntax.specs.declared.instr.Instr.{Instr}
use Rattle.asm_syntax.specs.declared.instr.Instr.TheVariants as instrs
use Rattle.code_model.specs.declared.spot.Spot.{Spot}
use Rattle.code_model.specs.Forms.{forms, instr_length}
use Rattle.code_model.specs.Spelling.{first_word}
use Rattle.code_model.specs.WordChecks.{spot, words_checks}
use Rattle.code_model.specs.Addresses.{is_executable_at, loaded_word, words_from, are_loaded, address_after, code_end, label_address}
use Rattle.code_model.specs.Areas.{is_code_kind, is_table_kind, is_in_one_area}
use Rattle.code_model.specs.Code.{target, table_address}

-- ---- the place of a function from `base` up to `end`

abbrev pub byte_check : Image → ℕ → ℕ → Check Spot
byte_check v base a = check (is_executable_at v a) (spot rules.Place (a - base) 3 0 base)

unfoldable pub byte_checks : Image → ℕ → List ℕ → List (Check Spot)
byte_checks v base addresses = map (byte_check v base) addresses

unfoldable pub place_checks : Image → Layout → ℕ → ℕ → List (Check Spot)
place_checks v l base end =
    check (base % 4 == 0) (spot rules.Place 0 1 0 base)
    ∷ check (is_in_one_area l is_code_kind (extent base end)) (spot rules.Place 0 2 0 base)
    ∷ byte_checks v base (from_to base end)

-- ---- the table at t of the jump that stands so far from the function's address

-- its words from the number j on
abbrev pub table_word_checks : Image → (ℕ → ℕ) → ℕ → ℕ → ℕ → List ℕ → List (Check Spot)
table_word_checks v label_at offset t j [] = []
table_word_checks v label_at offset t j (n ∷ ns) =
    check (loaded_word v t == label_at n) (spot rules.TableWord offset j (label_at n) (loaded_word v t))
    ∷ table_word_checks v label_at offset (t + 4) (j + 1) ns

-- so many words may stand at t as a table
abbrev pub is_table_place : Image → Layout → ℕ → ℕ → Bool
is_table_place v l t n = t % 4 == 0 && are_loaded v t n && is_in_one_area l is_table_kind (extent t (t + 4 * n))

unfoldable pub table_checks : Image → Layout → (ℕ → ℕ) → ℕ → ℕ → List ℕ → List (Check Spot)
table_checks v l label_at offset t labels =
    check (is_table_place v l t (length labels)) (spot rules.TablePlace offset 0 0 t) ∷ table_word_checks v label_at offset t 0 labels

abbrev pub jump_checks : Image → Layout → (ℕ → ℕ) → ℕ → ℕ → Instr → List (Check Spot)
jump_checks v l label_at offset a (instrs.Btbl r labels) = table_checks v l label_at offset (table_address v a) labels
jump_checks v l label_at offset a _ = []

-- ---- instructions

-- an instruction at an address
unfoldable pub instr_checks : Image → Layout → (List ℕ → ℕ) → (ℕ → ℕ) → ℕ → ℕ → Instr → List (Check Spot)
instr_checks v l symbol_at label_at offset a x =
    let words = words_from v a (instr_length x (loaded_word v a)) in
    words_checks l offset a (forms (target symbol_at label_at x) x (first_word words)) words ++ jump_checks v l label_at offset a x

-- the instructions from an address on
abbrev pub code_checks : Image → Layout → (List ℕ → ℕ) → (ℕ → ℕ) → ℕ → ℕ → List Instr → List (Check Spot)
code_checks v l symbol_at label_at base a [] = []
code_checks v l symbol_at label_at base a (x ∷ xs) =
    instr_checks v l symbol_at label_at (a - base) a x ++ code_checks v l symbol_at label_at base (address_after v a x) xs

-- ---- the whole

unfoldable pub function_checks : Image → Layout → (List ℕ → ℕ) → ℕ → List Instr → List (Check Spot)
function_checks v l symbol_at base code =
    place_checks v l base (code_end v base code) ++ code_checks v l symbol_at (label_address v base code) base base code
