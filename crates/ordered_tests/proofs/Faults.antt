-- Tests in their order, by parts.
use Rattle.std.proofs.Common.{◌≡◌, ℕ, zero, suc, ◌+◌, ◌-◌, ◌<◌, ◌≤◌, true, false, List, [], ◌∷◌, ◌++◌, length, get_or, drop, Some, None}
use Rattle.std.proofs.Common.{refl, arith, sym, ap, ◌∙◌, inl, inr}
use Rattle.std.specs.Prelude.{if◌then◌else◌}
use Rattle.std.specs.List.{range_with_len}
use Rattle.std.specs.Option.{option_or}
use Rattle.std.proofs.lemmas.Bool.{cases_Bool}
use Rattle.std.proofs.lemmas.List.{drop_more}
use Rattle.ordered_tests.specs.Checks.{Check, first_fault, each_check, from_to}
use Rattle.ordered_tests.specs.Lists.{EachOf}

-- tests behind tests that pass
pub first_fault_after : {F : Type 0} → (xs ys : List (Check F)) → first_fault xs ≡ None → first_fault (xs ++ ys) ≡ first_fault ys
first_fault_after [] ys h = refl
first_fault_after (c ∷ xs) ys h =
    (elim c.passes as (λ b. (if b then first_fault xs else Some c.fault) ≡ None
    → (if b then first_fault (xs ++ ys) else Some c.fault) ≡ first_fault ys) [
      | true ↦ (λ k. first_fault_after xs ys k)
      | false ↦ (λ k. absurd (cc))
    ]) h

-- tests behind one that fails
pub first_fault_before : {F : Type 0} → (xs ys : List (Check F)) (f : F) → first_fault xs ≡ Some f → first_fault (xs ++ ys) ≡ Some f
first_fault_before [] ys f h = absurd (cc)
first_fault_before (c ∷ xs) ys f h =
    (elim c.passes as (λ b. (if b then first_fault xs else Some c.fault) ≡ Some f
    → (if b then first_fault (xs ++ ys) else Some c.fault) ≡ Some f) [
      | true ↦ (λ k. first_fault_before xs ys f k)
      | false ↦ (λ k. k)
    ]) h

-- where all tests pass, those of the first part do
pub front_passes : {F : Type 0} → (xs ys : List (Check F)) → first_fault (xs ++ ys) ≡ None → first_fault xs ≡ None
front_passes [] ys h = refl
front_passes (c ∷ xs) ys h =
    (elim c.passes as (λ b. (if b then first_fault (xs ++ ys) else Some c.fault) ≡ None
    → (if b then first_fault xs else Some c.fault) ≡ None) [
      | true ↦ (λ k. front_passes xs ys k)
      | false ↦ (λ k. k)
    ]) h

-- and so do those of the second part
pub rest_passes : {F : Type 0} → (xs ys : List (Check F)) → first_fault (xs ++ ys) ≡ None → first_fault ys ≡ None
rest_passes xs ys h = sym (first_fault_after xs ys (front_passes xs ys h)) ∙ h

-- where all tests pass, the first of them does
pub head_passes : {F : Type 0} → (c : Check F) (cs : List (Check F)) → first_fault (c ∷ cs) ≡ None → c.passes ≡ true
head_passes c cs h =
    (elim c.passes as (λ b. (if b then first_fault cs else Some c.fault) ≡ None → b ≡ true) [
      | true ↦ (λ k. refl)
      | false ↦ (λ k. absurd (cc))
    ]) h

-- the first fault of two lists of tests
pub first_fault_append : {F : Type 0} → (xs ys : List (Check F)) → first_fault (xs ++ ys) ≡ option_or (first_fault xs) (first_fault ys)
first_fault_append [] ys = refl
first_fault_append (c ∷ xs) ys = elim (cases_Bool c.passes) [ inl t ↦ rw t (first_fault_append xs ys) | inr f ↦ rw f refl ]

-- where no test fails, each passes
pub each_passes_of : {F : Type 0} → (cs : List (Check F)) → first_fault cs ≡ None → EachOf (λ (c : Check F). c.passes ≡ true) cs
each_passes_of [] h = tt
each_passes_of (c ∷ cs) h = (head_passes c cs h, each_passes_of cs (rest_passes (c ∷ []) cs h))

pub none_fails : {F : Type 0} → (cs : List (Check F)) → EachOf (λ (c : Check F). c.passes ≡ true) cs → first_fault cs ≡ None
none_fails [] e = refl
none_fails (c ∷ cs) e = rw e.0 (none_fails cs e.1)

-- ---- the places of a list, from the front

-- a place that passes leaves the answer to those behind it
pub each_passes : {P F : Type 0} → (g : P → List (Check F)) (xs : List P) (i : ℕ) (d : P) → i < length xs
    → first_fault (g (get_or xs i d)) ≡ None → first_fault (each_check g (drop i xs)) ≡ first_fault (each_check g (drop (i + 1) xs))
each_passes g xs i d h p =
    ap (λ l. first_fault (each_check g l)) (drop_more xs i d h)
    ∙ first_fault_after (g (get_or xs i d)) (each_check g (drop (i + 1) xs)) p

-- a place that fails decides
pub each_fails : {P F : Type 0} → (g : P → List (Check F)) (xs : List P) (i : ℕ) (d : P) (f : F) → i < length xs
    → first_fault (g (get_or xs i d)) ≡ Some f → first_fault (each_check g (drop i xs)) ≡ Some f
each_fails g xs i d f h p =
    ap (λ l. first_fault (each_check g l)) (drop_more xs i d h)
    ∙ first_fault_before (g (get_or xs i d)) (each_check g (drop (i + 1) xs)) f p

-- where the tests of all places pass, those of each place do
pub place_passes : {P F : Type 0} → (g : P → List (Check F)) (xs : List P) (i : ℕ) (d : P) → first_fault (each_check g xs) ≡ None
    → i < length xs → first_fault (g (get_or xs i d)) ≡ None
place_passes g [] i d p h = absurd (omega arith)
place_passes g (x ∷ xs) zero d p h = front_passes (g x) (each_check g xs) p
place_passes g (x ∷ xs) (suc i) d p h = place_passes g xs i d (rest_passes (g x) (each_check g xs) p) (omega arith)

-- ---- the places with the numbers below n, from the front

pub range_step : (i m n : ℕ) → m ≡ suc n → range_with_len i m ≡ i ∷ range_with_len (i + 1) n
range_step i m n e = rw e

-- the first of the numbers from i on
pub from_to_step : (i n : ℕ) → i < n → from_to i n ≡ i ∷ from_to (i + 1) n
from_to_step i n h = range_step i (n - i) (n - (i + 1)) (omega arith)

pub from_to_end : (i n : ℕ) → n ≤ i → from_to i n ≡ []
from_to_end i n h = let e : n - i ≡ 0 = omega arith in rw e

pub each_number_passes : {F : Type 0} → (g : ℕ → List (Check F)) (i n : ℕ) → i < n → first_fault (g i) ≡ None
    → first_fault (each_check g (from_to i n)) ≡ first_fault (each_check g (from_to (i + 1) n))
each_number_passes g i n h p =
    ap (λ l. first_fault (each_check g l)) (from_to_step i n h) ∙ first_fault_after (g i) (each_check g (from_to (i + 1) n)) p

pub each_number_fails : {F : Type 0} → (g : ℕ → List (Check F)) (i n : ℕ) (f : F) → i < n → first_fault (g i) ≡ Some f
    → first_fault (each_check g (from_to i n)) ≡ Some f
each_number_fails g i n f h p =
    ap (λ l. first_fault (each_check g l)) (from_to_step i n h) ∙ first_fault_before (g i) (each_check g (from_to (i + 1) n)) f p

number_in_range : {F : Type 0} → (g : ℕ → List (Check F)) (a n i : ℕ) → first_fault (each_check g (range_with_len a n)) ≡ None
    → i < n → first_fault (g (a + i)) ≡ None
number_in_range g a zero i p h = absurd (omega arith)
number_in_range g a (suc n) zero p h =
    let e : a + 0 ≡ a = omega arith in rw e (front_passes (g a) (each_check g (range_with_len (a + 1) n)) p)
number_in_range g a (suc n) (suc i) p h =
    let e : a + suc i ≡ a + 1 + i = omega arith in
    rw e (number_in_range g (a + 1) n i (rest_passes (g a) (each_check g (range_with_len (a + 1) n)) p) (omega arith))

-- where the tests of all numbers pass, those of each number do
pub number_passes : {F : Type 0} → (g : ℕ → List (Check F)) (n i : ℕ) → first_fault (each_check g (from_to 0 n)) ≡ None → i < n
    → first_fault (g i) ≡ None
number_passes g n i p h =
    let z : n - 0 ≡ n = omega arith in
    let e : 0 + i ≡ i = omega arith in
    rw e at (number_in_range g 0 n i (rw z at p) h)
