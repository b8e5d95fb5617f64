-- When words are an instruction at an address.
use Rattle.std.specs.Prelude.{ℕ, ◌+◌, ℤ, Bool, true, false, ◌&&◌, ◌==◌, List, [], ◌∷◌}
use Rattle.isa_model.specs.Word.{wrapped, lo}
use Rattle.isa_model.specs.Forms.{displacement_in}
use Rattle.ppc_decode.specs.declared.machine.Machine.{Machine}
use Rattle.ppc_decode.specs.Word.{is_word}
use Rattle.layout_model.specs.Layouts.{Layout}
use Rattle.asm_syntax.specs.declared.instr.Instr.{Instr}
use Rattle.code_model.specs.declared.gap.Gap.{Gap}
use Rattle.code_model.specs.declared.gap.Gap.TheVariants.{Closed, Half, SmallData, Near, Far, Free}
use Rattle.code_model.specs.Fields.{base_field, half_field, address_plus}
use Rattle.code_model.specs.SmallData.{reaches, is_in_small_data}
use Rattle.code_model.specs.Forms.{Form, forms}

-- the number that a word has in a gap
abbrev pub number_field : Gap → ℕ → ℤ
number_field (Near t) w = displacement_in 16 w
number_field (Far t) w = displacement_in 26 w
number_field _ w = half_field w

-- what a word has in a gap is what belongs there, whatever its other fields are
abbrev pub agrees : Layout → ℕ → Gap → ℕ → Bool
agrees l at Closed w = true
agrees l at (Half half) w = lo w == half
agrees l at (SmallData a) w = reaches l (base_field w) (lo w) a
agrees l at (Near t) w = address_plus at (displacement_in 16 w) == wrapped t
agrees l at (Far t) w = address_plus at (displacement_in 26 w) == wrapped t
agrees l at Free w = true

-- small data is reached by the register of its area
abbrev pub is_right_base : Layout → Gap → ℕ → Bool
is_right_base l (SmallData a) w = is_in_small_data l (base_field w) a
is_right_base l _ w = true

-- the instruction of a form, with what a word has in the gap
abbrev pub found_instruction : Form → ℕ → Machine
found_instruction form w = form.made (base_field w) (number_field form.gap w)

-- the word at an address is of the form
unfoldable pub word_spells : Layout → ℕ → Form → ℕ → Bool
word_spells l at form w = is_word w (found_instruction form w) && agrees l at form.gap w && is_right_base l form.gap w

-- the words from an address on are of the forms, one of each
abbrev pub words_spell : Layout → ℕ → List Form → List ℕ → Bool
words_spell l at [] [] = true
words_spell l at (form ∷ rest) (w ∷ ws) = word_spells l at form w && words_spell l (at + 4) rest ws
words_spell l at _ _ = false

abbrev pub first_word : List ℕ → ℕ
first_word [] = 0
first_word (w ∷ ws) = w

-- the words from an address on spell the instruction, whose symbol or label has the address t
abbrev pub spells : Layout → ℕ → ℕ → Instr → List ℕ → Bool
spells l at t instr words = words_spell l at (forms t instr (first_word words)) words
