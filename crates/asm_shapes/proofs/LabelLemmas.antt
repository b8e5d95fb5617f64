-- Labels in the first instructions of a code.
use Rattle.std.proofs.Common.{◌≡◌, ℕ, ◌+◌, ◌<◌, ◌≤◌, Bool, true, false, cond, List, [], ◌∷◌, length, take, Option, Some, None, refl, sym}
use Rattle.std.proofs.Common.{ap, ◌∙◌, arith, zero, suc, zero-add}
use Rattle.std.specs.Prelude.{IfSome, nat_lt, is_some}
use Rattle.std.specs.List.{position_from}
use Rattle.std.specs.Option.{option_map_or}
use Rattle.std.proofs.lemmas.Bool.Decides.{nat_tests}
use Rattle.std.proofs.lemmas.Iterator.Adapters.{position_from-zero}
use Rattle.std.proofs.lemmas.List.Quantifiers.{position-Some}
use Rattle.asm_syntax.specs.declared.instr.Instr.{Instr}
use Rattle.asm_syntax.specs.declared.instr.Instr.TheVariants.{Cfi}
use Rattle.asm_syntax.specs.Instructions.{is_label, label_place, has_label}

-- a place that is found is below a number
abbrev is_below : ℕ → Option ℕ → Bool
is_below n place = option_map_or (λ first. nat_lt first n) place false

none_before : {T : Type 0} (p : T → Bool) (i n : ℕ) (xs : List T) → n ≤ i → is_below n (position_from p i xs) ≡ false
none_before p i n [] h = refl
none_before p i n (x ∷ xs) h = at (p x) (none_before p (i + 1) n xs (omega arith)) where
  at : (b : Bool) → is_below n (position_from p (i + 1) xs) ≡ false → is_below n (cond b (Some i) (position_from p (i + 1) xs)) ≡ false
  at true rest = grind (arith, nat_tests)
  at false rest = rest

pub in_front : {T : Type 0} (p : T → Bool) (i n : ℕ) (xs : List T)
    → is_some (position_from p i (take n xs)) ≡ is_below (i + n) (position_from p i xs)
in_front p i zero xs = sym (none_before p i (i + 0) xs (omega arith))
in_front p i (suc n) [] = refl
in_front p i (suc n) (x ∷ xs) = at (p x) (in_front p (i + 1) n xs) where
  at : (b : Bool) → is_some (position_from p (i + 1) (take n xs)) ≡ is_below (i + 1 + n) (position_from p (i + 1) xs)
      → is_some (cond b (Some i) (position_from p (i + 1) (take n xs)))
      ≡ is_below (i + suc n) (cond b (Some i) (position_from p (i + 1) xs))
  at true rest = grind (arith, nat_tests)
  at false rest = let same : i + suc n ≡ i + 1 + n = omega arith in rw same rest

-- a label stands in the first n instructions where its first place is below n
pub label_before : (code : List Instr) (n label : ℕ) → has_label (take n code) label ≡ is_below n (label_place code label)
label_before code n label =
    let places : is_some (position_from (is_label label) 0 (take n code))
    ≡ is_below n (position_from (is_label label) 0 code) = rw zero-add at (in_front (is_label label) 0 n code) in
    ap is_some (position_from-zero (is_label label) (take n code)) ∙ places
    ∙ ap (is_below n) (sym (position_from-zero (is_label label) code))

-- the place of a label is inside the code
pub place_inside : (code : List Instr) (label : ℕ) (place : Option ℕ) → place ≡ label_place code label
    → IfSome place (λ at. at < length code)
place_inside code label None h = tt
place_inside code label (Some at) h = (position-Some (is_label label) code at Cfi (sym h)).0
