-- Where the instructions and the labels of a function stand, and what an image has there.
use Rattle.std.specs.Prelude.{ℕ, zero, suc, ◌+◌, ◌*◌, Bool, true, false, ◌&&◌, List, [], ◌∷◌, length, unwrap_or, is_some}
use Rattle.std.specs.Option.{option_map_or}
use Rattle.image_model.specs.Image.{Image}
use Rattle.image_model.specs.Loaded.{word_at, flags_at, is_executable, is_writable}
use Rattle.asm_syntax.specs.Instructions.{label_place}
use Rattle.asm_syntax.specs.declared.instr.Instr.{Instr}
use Rattle.code_model.specs.Forms.{instr_length}

-- ---- loaded words

-- the word at an address, or 0 where one of its bytes is not loaded
abbrev pub loaded_word : Image → ℕ → ℕ
loaded_word v a = unwrap_or (word_at v a) 0

-- so many words from an address on
abbrev pub words_from : Image → ℕ → ℕ → List ℕ
words_from v a zero = []
words_from v a (suc n) = loaded_word v a ∷ words_from v (a + 4) n

abbrev pub are_loaded : Image → ℕ → ℕ → Bool
are_loaded v a zero = true
are_loaded v a (suc n) = is_some (word_at v a) && are_loaded v (a + 4) n

-- ---- flags of loaded addresses

abbrev pub is_executable_at : Image → ℕ → Bool
is_executable_at v a = option_map_or is_executable (flags_at v a) false

abbrev pub is_writable_at : Image → ℕ → Bool
is_writable_at v a = option_map_or is_writable (flags_at v a) false

-- ---- addresses

-- the address behind an instruction, whose length depends on its first word
unfoldable pub address_after : Image → ℕ → Instr → ℕ
address_after v a instr = a + 4 * instr_length instr (loaded_word v a)

-- the address of instruction i of the code that begins at a
abbrev pub instr_address : Image → ℕ → List Instr → ℕ → ℕ
instr_address v a [] i = a
instr_address v a (x ∷ code) zero = a
instr_address v a (x ∷ code) (suc i) = instr_address v (address_after v a x) code i

-- the address behind the last instruction
abbrev pub code_end : Image → ℕ → List Instr → ℕ
code_end v a code = instr_address v a code (length code)

-- the address of a label of the code, 0 where the code lacks it
abbrev pub label_address : Image → ℕ → List Instr → ℕ → ℕ
label_address v a code label = option_map_or (instr_address v a code) (label_place code label) 0
