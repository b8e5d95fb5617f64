-- The tests of an instruction's words pass exactly where the words spell it.
use Rattle.std.proofs.Common.{◌≡◌, ℕ, ◌+◌, true, false, ◌&&◌, List, [], ◌∷◌, length, Some, None, refl, arith}
use Rattle.std.specs.Prelude.{Option, ◌==◌, is_some, option_map}
use Rattle.std.specs.Option.{option_map_or}
use Rattle.std.proofs.lemmas.Bool.{and_parts, and_from, eqb-true}
use Rattle.isa_model.specs.Word.{wrapped, lo, sext16}
use Rattle.ordered_tests.specs.Checks.{Check}
use Rattle.ordered_tests.specs.Lists.{EachOf}
use Rattle.ordered_tests.proofs.Lists.{each_append, each_left, each_right}
use Rattle.ppc_decode.specs.Word.{fits, word_of, is_word}
use Rattle.ppc_decode.proofs.Decoded.{own_mnemonic}
use Rattle.ppc_decode.specs.declared.machine.Machine.{Machine}
use Rattle.layout_model.specs.Layouts.{Layout}
use Rattle.code_model.specs.declared.spot.Spot.{Spot}
use Rattle.code_model.specs.declared.gap.Gap.{Gap}
use Rattle.code_model.specs.declared.gap.Gap.TheVariants.{Closed, Half, SmallData, Near, Far, Free}
use Rattle.code_model.specs.Fields.{base_field}
use Rattle.code_model.specs.SmallData.{small_data_base, reaches}
use Rattle.code_model.specs.Forms.{Form}
use Rattle.code_model.specs.Spelling.{found_instruction, agrees, is_right_base, word_spells, words_spell}
use Rattle.code_model.specs.WordChecks.{gap_checks, shape_of, shape_checks, words_checks}
use Rattle.link_laws.specs.Facts.{IsSpelt}

abbrev pub Passes : Check Spot → Type 0
Passes c = c.passes ≡ true

-- ---- what stands in a gap

base_there : (l : Layout) (r half a : ℕ) → reaches l r half a ≡ true → is_some (small_data_base l r) ≡ true
base_there l r half a e = at (small_data_base l r) e
  where
    at : (o : Option ℕ) →
        option_map_or (λ reached. reached == a) (option_map (λ base. wrapped (base + sext16 half)) o) false ≡ true → is_some o ≡ true
    at None q = q
    at (Some b) q = refl

gap_passes : (l : Layout) (offset at : ℕ) (gap : Gap) (right : Machine) (w : ℕ) → agrees l at gap w ≡ true →
    is_right_base l gap w ≡ true → EachOf Passes (gap_checks l offset at gap right w)
gap_passes l offset at Closed right w a k = tt
gap_passes l offset at Free right w a k = tt
gap_passes l offset at (Half half) right w a k = (a, tt)
gap_passes l offset at (Near t) right w a k = (a, tt)
gap_passes l offset at (Far t) right w a k = (a, tt)
gap_passes l offset at (SmallData x) right w a k = (base_there l (base_field w) (lo w) x a, (a, (k, tt)))

gap_right : (l : Layout) (offset at : ℕ) (gap : Gap) (right : Machine) (w : ℕ) → EachOf Passes (gap_checks l offset at gap right w) →
    (agrees l at gap w ≡ true) × (is_right_base l gap w ≡ true)
gap_right l offset at Closed right w e = (refl, refl)
gap_right l offset at Free right w e = (refl, refl)
gap_right l offset at (Half half) right w e = (e.0, refl)
gap_right l offset at (Near t) right w e = (e.0, refl)
gap_right l offset at (Far t) right w e = (e.0, refl)
gap_right l offset at (SmallData x) right w e = (e.1.0, e.1.1.0)

-- ---- one word

pub spelt_parts : (l : Layout) (at : ℕ) (form : Form) (w : ℕ) → word_spells l at form w ≡ true → IsSpelt l at form w
unfolding word_spells
spelt_parts l at form w h =
    let m = found_instruction form w in
    let one = and_parts (is_word w m && agrees l at form.gap w) (is_right_base l form.gap w) h in
    let two = and_parts (is_word w m) (agrees l at form.gap w) one.0 in
    let word = and_parts (fits m) (w == word_of m) two.0 in
    record { word = (word.0, eqb-true w (word_of m) word.1); agreed = two.1; base = one.1 }

word_passes : (l : Layout) (offset at : ℕ) (form : Form) (w : ℕ) → word_spells l at form w ≡ true →
    EachOf Passes (shape_checks l offset at (shape_of at form w) w)
unfolding word_spells shape_checks
word_passes l offset at form w h =
    let m = found_instruction form w in
    let one = and_parts (is_word w m && agrees l at form.gap w) (is_right_base l form.gap w) h in
    let two = and_parts (is_word w m) (agrees l at form.gap w) one.0 in
    (own_mnemonic m w two.0, (two.0, gap_passes l offset at form.gap _ w two.1 one.1))

word_right : (l : Layout) (offset at : ℕ) (form : Form) (w : ℕ) → EachOf Passes (shape_checks l offset at (shape_of at form w) w) →
    word_spells l at form w ≡ true
unfolding word_spells shape_checks
word_right l offset at form w e =
    let m = found_instruction form w in
    let g = gap_right l offset at form.gap _ w e.1.1 in
    and_from (is_word w m && agrees l at form.gap w) (is_right_base l form.gap w)
    (and_from (is_word w m) (agrees l at form.gap w) e.1.0 g.0) g.1

-- ---- words

pub words_pass : (l : Layout) (offset at : ℕ) (fs : List Form) (ws : List ℕ) → words_spell l at fs ws ≡ true →
    EachOf Passes (words_checks l offset at fs ws)
words_pass l offset at [] [] h = tt
words_pass l offset at [] (w ∷ ws) h = absurd (cc)
words_pass l offset at (form ∷ fs) [] h = absurd (cc)
words_pass l offset at (form ∷ fs) (w ∷ ws) h =
    let t = and_parts (word_spells l at form w) (words_spell l (at + 4) fs ws) h in
    each_append Passes (shape_checks l offset at (shape_of at form w) w) (words_checks l (offset + 4) (at + 4) fs ws)
    (word_passes l offset at form w t.0) (words_pass l (offset + 4) (at + 4) fs ws t.1)

-- there are as many words as forms
pub words_right : (l : Layout) (offset at : ℕ) (fs : List Form) (ws : List ℕ) → length fs ≡ length ws →
    EachOf Passes (words_checks l offset at fs ws) → words_spell l at fs ws ≡ true
words_right l offset at [] [] n e = refl
words_right l offset at [] (w ∷ ws) n e = absurd (omega arith)
words_right l offset at (form ∷ fs) [] n e = absurd (omega arith)
words_right l offset at (form ∷ fs) (w ∷ ws) n e =
    let here = shape_checks l offset at (shape_of at form w) w in
    let rest = words_checks l (offset + 4) (at + 4) fs ws in
    and_from (word_spells l at form w) (words_spell l (at + 4) fs ws) (word_right l offset at form w (each_left Passes here rest e))
    (words_right l (offset + 4) (at + 4) fs ws (omega arith) (each_right Passes here rest e))
