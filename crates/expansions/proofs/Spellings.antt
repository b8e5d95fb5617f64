-- The words of an instruction, one word further; and the words have no fault exactly where they spell it.
use Rattle.std.proofs.Common.{◌≡◌, ℕ, ◌+◌, ◌*◌, ◌<◌, ◌&&◌, List, [], ◌∷◌, length, drop, get_or, Option, Some, None, refl, sym, ◌∙◌, ap}
use Rattle.std.proofs.Common.{arith, inl, inr}
use Rattle.std.specs.Prelude.{is_none, nat_le, ◌==◌}
use Rattle.std.specs.Option.{option_or}
use Rattle.std.proofs.lemmas.Bool.{cases_Bool}
use Rattle.std.proofs.lemmas.List.{at_drop_more}
use Rattle.isa_model.specs.Word.{wrapped, lo, signed_word}
use Rattle.isa_model.specs.Operands.{is_s16}
use Rattle.ordered_tests.specs.Checks.{first_fault}
use Rattle.ordered_tests.proofs.Faults.{first_fault_append}
use Rattle.layout_model.specs.Layouts.{Layout}
use Rattle.asm_syntax.specs.declared.instr.Instr.{Instr}
use Rattle.asm_syntax.specs.declared.instr.Instr.TheVariants as instrs
use Rattle.code_model.specs.declared.gap.Shape.{Shape}
use Rattle.code_model.specs.declared.spot.Spot.{Spot}
use Rattle.code_model.specs.Forms.{Form, forms, instr_length, is_addi, is_bc}
use Rattle.code_model.specs.Spelling.{first_word, word_spells, words_spell, spells}
use Rattle.code_model.specs.WordChecks.{shape_of, shape_checks, shapes_checks, words_checks}
use Rattle.reloc_match.proofs.Spelt.{spelt_exactly}

-- ---- a loop over shapes and words

shapes_more : (l : Layout) (offset at i : ℕ) (d : Shape) (ss : List Shape) (ws : List ℕ) → i < length ss → i < length ws →
    first_fault (shapes_checks l (offset + 4 * i) (at + 4 * i) (drop i ss) (drop i ws))
    ≡ option_or (first_fault (shape_checks l (offset + 4 * i) (at + 4 * i) (get_or ss i d) (get_or ws i 0)))
    (first_fault (shapes_checks l (offset + 4 * (i + 1)) (at + 4 * (i + 1)) (drop (i + 1) ss) (drop (i + 1) ws)))
shapes_more l offset at i d ss ws lt lw =
    let o : offset + 4 * i + 4 ≡ offset + 4 * (i + 1) = omega arith in
    let a : at + 4 * i + 4 ≡ at + 4 * (i + 1) = omega arith in
    let here = shape_checks l (offset + 4 * i) (at + 4 * i) (get_or ss i d) (get_or ws i 0) in
    at_drop_more (λ xs. first_fault (shapes_checks l (offset + 4 * i) (at + 4 * i) xs (drop i ws))) ss i d lt
    ∙ at_drop_more (λ ys. first_fault (shapes_checks l (offset + 4 * i) (at + 4 * i) (get_or ss i d ∷ drop (i + 1) ss) ys)) ws i 0 lw
    ∙ first_fault_append here (shapes_checks l (offset + 4 * i + 4) (at + 4 * i + 4) (drop (i + 1) ss) (drop (i + 1) ws))
    ∙ rw (o, a) refl

pub shapes_hit : (l : Layout) (offset at i : ℕ) (d : Shape) (ss : List Shape) (ws : List ℕ) (f : Spot) (whole : Option Spot) →
    i < length ss → i < length ws →
    first_fault (shape_checks l (offset + 4 * i) (at + 4 * i) (get_or ss i d) (get_or ws i 0)) ≡ Some f →
    first_fault (shapes_checks l (offset + 4 * i) (at + 4 * i) (drop i ss) (drop i ws)) ≡ whole → Some f ≡ whole
shapes_hit l offset at i d ss ws f whole lt lw hit e = sym (shapes_more l offset at i d ss ws lt lw ∙ rw hit refl) ∙ e

pub shapes_miss : (l : Layout) (offset at i : ℕ) (d : Shape) (ss : List Shape) (ws : List ℕ) (whole : Option Spot) →
    i < length ss → i < length ws →
    first_fault (shape_checks l (offset + 4 * i) (at + 4 * i) (get_or ss i d) (get_or ws i 0)) ≡ None →
    first_fault (shapes_checks l (offset + 4 * i) (at + 4 * i) (drop i ss) (drop i ws)) ≡ whole →
    first_fault (shapes_checks l (offset + 4 * (i + 1)) (at + 4 * (i + 1)) (drop (i + 1) ss) (drop (i + 1) ws)) ≡ whole
shapes_miss l offset at i d ss ws whole lt lw miss e = sym (shapes_more l offset at i d ss ws lt lw ∙ rw miss refl) ∙ e

-- ---- spelt

none_of_two : (a b : Option Spot) → is_none (option_or a b) ≡ (is_none a && is_none b)
none_of_two None b = refl
none_of_two (Some x) b = refl

words_exactly : (l : Layout) (offset at : ℕ) (fs : List Form) (ws : List ℕ) → length fs ≡ length ws →
    is_none (first_fault (words_checks l offset at fs ws)) ≡ words_spell l at fs ws
words_exactly l offset at [] [] n = refl
words_exactly l offset at [] (w ∷ ws) n = absurd (omega arith)
words_exactly l offset at (form ∷ fs) [] n = absurd (omega arith)
words_exactly l offset at (form ∷ fs) (w ∷ ws) n =
    let here = shape_checks l offset at (shape_of at form w) w in
    let rest = words_checks l (offset + 4) (at + 4) fs ws in
    ap is_none (first_fault_append here rest)
    ∙ none_of_two (first_fault here) (first_fault rest)
    ∙ ap (λ b. b && is_none (first_fault rest)) (spelt_exactly l offset at form w)
    ∙ ap (λ b. word_spells l at form w && b) (words_exactly l (offset + 4) (at + 4) fs ws (omega arith))

-- an instruction has as many forms as words
forms_length : (t w : ℕ) (x : Instr) → length (forms t x w) ≡ instr_length x w
unfolding forms instr_length
forms_length t w (instrs.Plain plain) = refl
forms_length t w (instrs.AllocFrame n) = elim (cases_Bool (nat_le n 32768)) [ inl t ↦ rw t refl | inr f ↦ rw f refl ]
forms_length t w (instrs.FreeFrame n) =
    elim (cases_Bool (is_addi w && nat_le n 32767)) [ inl t ↦ rw t refl | inr f ↦ rw f refl ]
forms_length t w (instrs.Imm r n) = elim (cases_Bool (is_s16 (signed_word (wrapped n)))) [
  | inl t ↦ rw t refl
  | inr f ↦ rw f (elim (cases_Bool (lo (wrapped n) == 0)) [ inl t ↦ rw t refl | inr g ↦ rw g refl ])
]
forms_length t w (instrs.Bt bit label) = elim (cases_Bool (is_bc 4 w)) [ inl t ↦ rw t refl | inr f ↦ rw f refl ]
forms_length t w (instrs.Bf bit label) = elim (cases_Bool (is_bc 12 w)) [ inl t ↦ rw t refl | inr f ↦ rw f refl ]
forms_length t w (instrs.Btbl r labels) = refl
forms_length t w (instrs.MfcrBit r bit) = refl
forms_length t w (instrs.Label label) = refl
forms_length t w instrs.Cfi = refl
forms_length t w instrs.Annot = refl

pub instr_exactly : (l : Layout) (at t : ℕ) (x : Instr) (ws : List ℕ) → length ws ≡ instr_length x (first_word ws) →
    is_none (first_fault (words_checks l 0 at (forms t x (first_word ws)) ws)) ≡ spells l at t x ws
instr_exactly l at t x ws n =
    words_exactly l 0 at (forms t x (first_word ws)) ws (forms_length t (first_word ws) x ∙ sym n)
