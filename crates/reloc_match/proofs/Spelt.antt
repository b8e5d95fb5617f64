-- A word has no fault exactly where it spells its form.
use Rattle.std.proofs.Common.{◌≡◌, ℕ, ◌+◌, Bool, true, false, ◌&&◌, Option, Some, None, refl, ◌∙◌, ap}
use Rattle.std.specs.Prelude.{◌==◌, if◌then◌else◌, is_some, is_none, option_map}
use Rattle.std.specs.Option.{option_map_or}
use Rattle.isa_model.specs.Word.{wrapped, lo, sext16}
use Rattle.ordered_tests.specs.Checks.{first_fault}
use Rattle.ppc_decode.specs.declared.machine.Machine.{Machine}
use Rattle.ppc_decode.specs.Word.{is_word}
use Rattle.ppc_decode.specs.Text.{has_mnemonic_of}
use Rattle.ppc_decode.proofs.Decoded.{own_mnemonic}
use Rattle.layout_model.specs.Layouts.{Layout}
use Rattle.code_model.specs.declared.gap.Gap.{Gap}
use Rattle.code_model.specs.declared.gap.Gap.TheVariants.{Closed, Half, SmallData, Near, Far, Free}
use Rattle.code_model.specs.Fields.{base_field}
use Rattle.code_model.specs.SmallData.{small_data_base, reaches, is_in_small_data}
use Rattle.code_model.specs.Forms.{Form}
use Rattle.code_model.specs.Spelling.{found_instruction, agrees, is_right_base, word_spells}
use Rattle.code_model.specs.WordChecks.{gap_checks, shape_of, shape_checks}

-- ---- tests one after the other

one_test : {F : Type 0} (b : Bool) (f : F) → is_none (if b then None else Some f) ≡ (b && true)
one_test true f = refl
one_test false f = refl

-- a test that the next one implies, and one behind them
implied_test : {F : Type 0} (a b : Bool) (rest : Option F) (f g : F) → (b ≡ true → a ≡ true) →
    is_none (if a then (if b then rest else Some g) else Some f) ≡ (b && is_none rest)
implied_test true true rest f g h = refl
implied_test true false rest f g h = refl
implied_test false true rest f g h = absurd (let e = h refl in cc)
implied_test false false rest f g h = refl

last_test : {F : Type 0} (b : Bool) (f : F) → is_none (if b then None else Some f) ≡ b
last_test true f = refl
last_test false f = refl

and_grouped : (a b c : Bool) → (a && (b && c)) ≡ (a && b && c)
and_grouped true b c = refl
and_grouped false b c = refl

-- ---- what stands in a gap

base_there : (l : Layout) (r half a : ℕ) → reaches l r half a ≡ true → is_some (small_data_base l r) ≡ true
base_there l r half a e = there (small_data_base l r) e
  where
    there : (o : Option ℕ) →
        option_map_or (λ reached. reached == a) (option_map (λ base. wrapped (base + sext16 half)) o) false ≡ true → is_some o ≡ true
    there None q = q
    there (Some b) q = refl

gap_none : (l : Layout) (offset at : ℕ) (gap : Gap) (right : Machine) (w : ℕ) →
    is_none (first_fault (gap_checks l offset at gap right w)) ≡ (agrees l at gap w && is_right_base l gap w)
gap_none l offset at Closed right w = refl
gap_none l offset at Free right w = refl
gap_none l offset at (Half half) right w = one_test _ _
gap_none l offset at (Near t) right w = one_test _ _
gap_none l offset at (Far t) right w = one_test _ _
gap_none l offset at (SmallData a) right w =
    implied_test _ _ _ _ _ (base_there l (base_field w) (lo w) a)
    ∙ ap (λ b. reaches l (base_field w) (lo w) a && b) (last_test (is_in_small_data l (base_field w) a) _)

-- ---- the word

pub spelt_exactly : (l : Layout) (offset at : ℕ) (form : Form) (w : ℕ) →
    is_none (first_fault (shape_checks l offset at (shape_of at form w) w)) ≡ word_spells l at form w
unfolding shape_checks word_spells
spelt_exactly l offset at form w =
    let m = found_instruction form w in
    implied_test (has_mnemonic_of m w) (is_word w m) _ _ _ (own_mnemonic m w)
    ∙ ap (λ b. is_word w m && b) (gap_none l offset at form.gap _ w)
    ∙ and_grouped (is_word w m) (agrees l at form.gap w) (is_right_base l form.gap w)
