-- When the code and the tables of a function stand in an image.
use Rattle.std.specs.Prelude.{◌≡◌, ℕ, ◌+◌, ◌*◌, ◌%◌, Bool, true, ◌&&◌, List, [], ◌∷◌, length, Some, slice_get}
use Rattle.std.specs.Option.{option_map_or}
use Rattle.isa_model.specs.Word.{lo, joined}
use Rattle.word_ops.specs.Ranges.{Extent, extent}
use Rattle.image_model.specs.Image.{Image}
use Rattle.image_model.specs.Loaded.{word_at}
use Rattle.layout_model.specs.Layouts.{Layout}
use Rattle.asm_syntax.specs.declared.instr.Instr.{Instr}
use Rattle.asm_syntax.specs.declared.instr.Instr.TheVariants as instrs
use Rattle.asm_syntax.specs.Instructions.{instr_symbol, labels_named}
use Rattle.code_model.specs.Forms.{instr_length}
use Rattle.code_model.specs.Spelling.{spells}
use Rattle.code_model.specs.Addresses.{loaded_word, words_from, are_loaded, instr_address, label_address}
use Rattle.code_model.specs.Areas.{is_table_kind, is_in_one_area}

-- ---- what an instruction names

abbrev pub first_label : (ℕ → ℕ) → List ℕ → ℕ
first_label label_at [] = 0
first_label label_at (n ∷ ns) = label_at n

-- the address of the symbol or of the label that an instruction names, by those of all symbols and of all labels
abbrev pub target : (List ℕ → ℕ) → (ℕ → ℕ) → Instr → ℕ
target symbol_at label_at x = option_map_or (λ r. symbol_at r.name) (instr_symbol x) (first_label label_at (labels_named x))

-- ---- code

-- the words of an instruction at an address are loaded and spell it
abbrev pub is_spelt_at : Image → Layout → ℕ → ℕ → Instr → Bool
is_spelt_at v l a t x =
    let n = instr_length x (loaded_word v a) in
    are_loaded v a n && spells l a t x (words_from v a n)

-- each instruction of the code that begins at `base` is spelt at its address
abbrev pub CodeIs : Image → Layout → (List ℕ → ℕ) → ℕ → List Instr → Type 0
CodeIs v l symbol_at base code = (i : ℕ) (x : Instr) → slice_get code i ≡ Some x →
    is_spelt_at v l (instr_address v base code i) (target symbol_at (label_address v base code) x) x ≡ true

-- ---- tables

-- the address of a table, by the halves of the second and the third word of the jump that stands at an address
abbrev pub table_address : Image → ℕ → ℕ
table_address v a = joined (lo (loaded_word v (a + 4))) (loaded_word v (a + 8))

abbrev pub table_range : Image → ℕ → List ℕ → Extent
table_range v a labels = extent (table_address v a) (table_address v a + 4 * length labels)

-- the table of the jump that stands at an address: each word is the address of its label
pub record IsTable (v : Image) (l : Layout) (base : ℕ) (code : List Instr) (a : ℕ) (labels : List ℕ) : Type 0 where
  pub aligned : table_address v a % 4 ≡ 0
  pub placed : is_in_one_area l is_table_kind (table_range v a labels) ≡ true
  pub words : (j n : ℕ) → slice_get labels j ≡ Some n → word_at v (table_address v a + 4 * j) ≡ Some (label_address v base code n)

-- each jump by a table of the code that begins at `base` has its table
abbrev pub TableIs : Image → Layout → ℕ → List Instr → Type 0
TableIs v l base code = (i r : ℕ) (labels : List ℕ) →
    slice_get code i ≡ Some (instrs.Btbl r labels) → IsTable v l base code (instr_address v base code i) labels
