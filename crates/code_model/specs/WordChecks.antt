-- The tests of one word of an instruction in their order, each with its fault: the opcode, the other fields, and what stands in
-- the gap.
use Rattle.std.specs.Prelude.{ℕ, ◌+◌, ℤ, pos, ◌==◌, List, [], ◌∷◌, ◌++◌, is_some, unwrap_or}
use Rattle.ordered_tests.specs.Checks.{Check, check}
use Rattle.isa_model.specs.Word.{wrapped, lo}
use Rattle.isa_model.specs.Forms.{displacement_in, displacement_between}
use Rattle.ppc_decode.specs.declared.machine.Machine.{Machine}
use Rattle.ppc_decode.specs.Word.{is_word, word_or_zero}
use Rattle.ppc_decode.specs.Text.{has_mnemonic_of}
use Rattle.layout_model.specs.Layouts.{Layout}
use Rattle.asm_syntax.specs.declared.rule.Rule.{Rule}
use Rattle.asm_syntax.specs.declared.rule.Rule.TheVariants as rules
use Rattle.code_model.specs.declared.gap.Gap.{Gap}
use Rattle.code_model.specs.declared.gap.Gap.TheVariants.{Closed, Half, SmallData, Near, Far, Free}
use Rattle.code_model.specs.declared.gap.Shape.{Shape}
use Rattle.code_model.specs.declared.spot.Spot.{Spot}
use Rattle.code_model.specs.Fields.{base_field, short, address_plus}
use Rattle.code_model.specs.SmallData.{small_data_base, small_data_address, reaches, is_in_small_data, register_at}
use Rattle.code_model.specs.Forms.{Form}
use Rattle.code_model.specs.Spelling.{found_instruction}

abbrev pub spot : Rule → ℕ → ℕ → ℕ → ℕ → Spot
spot rule offset item wanted found = record { rule = rule; offset = offset; item = item; wanted = wanted; found = found }

-- ---- the word that is wanted

-- the number that belongs in a gap
abbrev pub right_number : ℕ → Gap → ℤ
right_number at (Half half) = short half
right_number at (Near t) = displacement_between 16 at t
right_number at (Far t) = displacement_between 26 at t
right_number at _ = pos 0

-- the instruction of a form at an address, with what belongs in the gap. Small data and free halves are 0
abbrev pub right_instruction : ℕ → Form → Machine
right_instruction at form = form.made 0 (right_number at form.gap)

-- the same where the mnemonic is right: small data and free halves are as found
abbrev pub mended_instruction : Gap → Machine → Machine → Machine
mended_instruction (SmallData a) found right = found
mended_instruction Free found right = found
mended_instruction _ found right = right

-- ---- the tests

-- a branch that leads to an address has to lead to t
abbrev pub branch_check : ℕ → ℕ → ℕ → Check Spot
branch_check offset t reached = check (reached == t) (spot rules.Branch offset 0 t reached)

abbrev pub small_data_checks : Layout → ℕ → ℕ → ℕ → ℕ → List (Check Spot)
small_data_checks l offset a r half =
    check (is_some (small_data_base l r)) (spot rules.Sda offset 1 13 r)
    ∷ check (reaches l r half a) (spot rules.Sda offset 2 a (unwrap_or (small_data_address l r half) 0))
    ∷ check (is_in_small_data l r a) (spot rules.Sda offset 3 r (register_at l a))
    ∷ []

-- what stands in the gap of a word at an address
abbrev pub gap_checks : Layout → ℕ → ℕ → Gap → Machine → ℕ → List (Check Spot)
gap_checks l offset at Closed right w = []
gap_checks l offset at Free right w = []
gap_checks l offset at (Half half) right w = check (lo w == half) (spot rules.Half offset 0 (word_or_zero right) w) ∷ []
gap_checks l offset at (Near t) right w = branch_check offset (wrapped t) (address_plus at (displacement_in 16 w)) ∷ []
gap_checks l offset at (Far t) right w = branch_check offset (wrapped t) (address_plus at (displacement_in 26 w)) ∷ []
gap_checks l offset at (SmallData a) right w = small_data_checks l offset a (base_field w) (lo w)

-- a word at an address, which stands so far from the function's address
unfoldable pub shape_checks : Layout → ℕ → ℕ → Shape → ℕ → List (Check Spot)
shape_checks l offset at s w =
    check (has_mnemonic_of s.found w) (spot rules.Opcode offset 0 (word_or_zero s.right) w)
    ∷ check (is_word w s.found) (spot rules.Field offset 0 (word_or_zero (mended_instruction s.gap s.found s.right)) w)
    ∷ gap_checks l offset at s.gap s.right w

-- the shape by which a word at an address is judged
abbrev pub shape_of : ℕ → Form → ℕ → Shape
shape_of at form w = record { gap = form.gap; found = found_instruction form w; right = right_instruction at form }

-- the shapes of words, one after the other
abbrev pub shapes_of : ℕ → List Form → List ℕ → List Shape
shapes_of at (form ∷ rest) (w ∷ ws) = shape_of at form w ∷ shapes_of (at + 4) rest ws
shapes_of at _ _ = []

abbrev pub shapes_checks : Layout → ℕ → ℕ → List Shape → List ℕ → List (Check Spot)
shapes_checks l offset at (s ∷ rest) (w ∷ ws) = shape_checks l offset at s w ++ shapes_checks l (offset + 4) (at + 4) rest ws
shapes_checks l offset at _ _ = []

-- the words of an instruction, one after the other
abbrev pub words_checks : Layout → ℕ → ℕ → List Form → List ℕ → List (Check Spot)
words_checks l offset at fs ws = shapes_checks l offset at (shapes_of at fs ws) ws
