-- The first place of a list that passes.
use Rattle.std.proofs.Common.{◌≡◌, ◌≢◌, ℕ, zero, suc, ◌+◌, ◌<◌, ◌≤◌, inl, inr, Bool, true, false, ◌||◌, List, [], ◌∷◌, length, map, get_or}
use Rattle.std.proofs.Common.{position, Option, Some, None, refl, ap, ◌∙◌, arith, if◌then◌else◌}
use Rattle.std.specs.Prelude.{nat_lt}
use Rattle.std.specs.List.{list_any, position_or_len}
use Rattle.std.proofs.lemmas.Bool.{both_ways, cases_lt, le-ltb, lt-ltb}
use Rattle.std.proofs.lemmas.Bool.Decides.{nat_tests}
use Rattle.std.proofs.lemmas.List.Folds.{list_any_at}
use Rattle.std.proofs.lemmas.List.Quantifiers.{position-Some}
use Rattle.std.proofs.lemmas.List.Sums.{position_or_len_is}

pub or_true : (b : Bool) → (b || true) ≡ true
or_true true = refl
or_true false = refl

pub any_map : {X Y : Type 0} (p : Y → Bool) (f : X → Y) (xs : List X) → list_any p (map f xs) ≡ list_any (λ x. p (f x)) xs
any_map p f [] = refl
any_map p f (x ∷ xs) = ap (λ b. p (f x) || b) (any_map p f xs)

first_none : (n : ℕ) (o p : Option ℕ) → (let none : Option ℕ = None in (if nat_lt 0 (suc n) then o else p) ≡ none) →
    (let none : Option ℕ = None in o ≡ none)
first_none n o p h = let yes : nat_lt 0 (suc n) ≡ true = lt-ltb 0 (suc n) (omega arith) in rw yes at h

later_none : (i n : ℕ) → (let none : Option ℕ = None in (if nat_lt (1 + i) (suc n) then Some (1 + i) else None) ≡ none) →
    (let none : Option ℕ = None in (if nat_lt i n then Some i else None) ≡ none)
later_none i n h = elim (cases_lt i n) [
  | inl lt ↦ (
      let yes : nat_lt (1 + i) (suc n) ≡ true = lt-ltb (1 + i) (suc n) (omega arith) in
      let wrong : ◌≡◌ {A = Option ℕ} (Some (1 + i)) None = (rw yes at h) in absurd (cc)
      )
  | inr ge ↦ (let no : nat_lt i n ≡ false = le-ltb i n ge in rw no refl)
]

pub none_passes : {X : Type 0} (p : X → Bool) (xs : List X) → (let none : Option ℕ = None in position p xs ≡ none) → list_any p xs ≡ false
none_passes p [] h = refl
none_passes {X = X} p (x ∷ xs) h = at (p x) refl h (λ k. none_passes p xs k)
  where
    at : (b : Bool) → p x ≡ b → (let none : Option ℕ = None in position p (x ∷ xs) ≡ none) →
        ((let none : Option ℕ = None in position p xs ≡ none) → list_any p xs ≡ false) → (b || list_any p xs) ≡ false
    at true t k rest = absurd (let wrong : ◌≡◌ {A = Option ℕ} (Some 0) None = first_none (length xs) (Some 0) None (rw t at k) in cc)
    at false f k rest = rest (later_none (position_or_len p xs) (length xs) (rw f at k))

pub no_place : {X : Type 0} (p : X → Bool) (xs : List X) (d : X) → list_any p xs ≡ false →
    (let none : Option ℕ = None in position p xs ≡ none)
no_place p xs d h = at (position p xs) refl
  where
    at : (o : Option ℕ) → position p xs ≡ o → (let none : Option ℕ = None in o ≡ none)
    at None e = refl
    at (Some j) e =
        let q = position-Some p xs j d e in absurd (both_ways (list_any p xs) h (list_any_at p xs j d q.0 q.1))

pub first_place : {X : Type 0} (p : X → Bool) (xs : List X) (j : ℕ) (d : X) → j < length xs →
    ((k : ℕ) → k < j → p (get_or xs k d) ≡ false) → p (get_or xs j d) ≡ true → position p xs ≡ Some j
first_place p xs j d lt before here =
    let place : position_or_len p xs ≡ j = position_or_len_is p xs j d (omega arith) before (λ within. here) in
    let within : nat_lt j (length xs) ≡ true = grind (arith, nat_tests) in
    rw (place, within) refl
