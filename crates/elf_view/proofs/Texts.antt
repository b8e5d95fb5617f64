-- The bytes up to a zero byte.
use Rattle.std.proofs.Common.{◌≡◌, ℕ, zero, suc, ◌+◌, ◌-◌, ◌<◌, ◌≤◌, Bool, true, false, List, [], ◌∷◌, length, take, drop, Option, refl}
use Rattle.std.proofs.Common.{arith, sym, ap, inl, inr, cond, length-drop}
use Rattle.std.specs.Prelude.{◌⊎◌, position, not, nat_lt, ◌==◌, Some, None}
use Rattle.std.specs.Cmp.Lexicographic.{slice_cmp}
use Rattle.std.specs.List.{prefix_len, take_while}
use Rattle.std.specs.Ordering.{nat_cmp, ordering_reverse}
use Rattle.std.specs.declared.cmp.Ordering.{Ordering}
use Rattle.std.specs.declared.cmp.Ordering.TheVariants.{Less, Equal, Greater}
use Rattle.std.proofs.lemmas.Bool.{ltb-true, ltb-false}
use Rattle.std.proofs.lemmas.Cmp.{nat_list_cmp_total}
use Rattle.std.proofs.lemmas.List.{take_all}
use Rattle.std.proofs.lemmas.List.Folds.{length-prefix_len}
use Rattle.std.proofs.lemmas.List.Sums.{prefix_len-le-length, take_while-cons}
use Rattle.image_model.specs.Image.{symbol_at}
use Rattle.image_model.specs.Names.{name_start}
use Rattle.image_model.specs.SymbolTable.{st_name, text_at}

lt_by : (a b : ℕ) (t : Bool) → nat_lt a b ≡ t → ((nat_lt a b ≡ true) × (a < b)) ⊎ ((nat_lt a b ≡ false) × (b ≤ a))
lt_by a b true e = inl (e, ltb-true a b e)
lt_by a b false e = inr (e, ltb-false a b e)

lt_tells : (a b : ℕ) → ((nat_lt a b ≡ true) × (a < b)) ⊎ ((nat_lt a b ≡ false) × (b ≤ a))
lt_tells a b = lt_by a b (nat_lt a b) refl

pub before_zero : (xs : List ℕ) (n : ℕ) → position (λ c. c == 0) xs ≡ Some n → take n xs ≡ take_while (λ c. not (c == 0)) xs
before_zero xs n h =
    elim (lt_tells (prefix_len (λ c. not (c == 0)) xs) (length xs)) [
      | inl t ↦ let e : Some (prefix_len (λ c. not (c == 0)) xs)
          ≡ Some n = rw t.0 at h in let m : prefix_len (λ c. not (c == 0)) xs ≡ n = cc in rw m
      | inr f ↦ absurd (let N : Option ℕ = None in let e : N ≡ Some n = rw f.0 at h in cc)
    ]

-- all of them, where none is zero
pub no_zero : (xs : List ℕ) → position (λ c. c == 0) xs ≡ None → xs ≡ take_while (λ c. not (c == 0)) xs
no_zero xs h =
    elim (lt_tells (prefix_len (λ c. not (c == 0)) xs) (length xs)) [
      | inl t ↦ absurd (let e : Some (prefix_len (λ c. not (c == 0)) xs) ≡ None = rw t.0 at h in cc)
      | inr f ↦ sym (take_all (prefix_len (λ c. not (c == 0)) xs) xs f.1)
    ]

pub all_left : (xs : List ℕ) (at : ℕ) → take (length xs - at) (drop at xs) ≡ drop at xs
all_left xs at = take_all (length xs - at) (drop at xs) (omega (arith, length-drop at xs))

-- the first n of those before a zero byte are those before it of the first n
take_before_zero : (n : ℕ) (xs : List ℕ) → take_while (λ c. not (c == 0)) (take n xs) ≡ take n (take_while (λ c. not (c == 0)) xs)
take_before_zero zero xs = refl
take_before_zero (suc n) [] = refl
take_before_zero (suc n) (x ∷ xs) =
    rw (take_while-cons (λ c. not (c == 0)) x (take n xs), take_while-cons (λ c. not (c == 0)) x xs) (at (not (x == 0))
    (take_before_zero n xs))
  where
    at : (t : Bool) → take_while (λ c. not (c == 0)) (take n xs) ≡ take n (take_while (λ c. not (c == 0)) xs) →
        cond t (x ∷ take_while (λ c. not (c == 0)) (take n xs)) [] ≡ take (suc n) (cond t (x ∷ take_while (λ c. not (c == 0)) xs) [])
    at true h = ap (λ ys. x ∷ ys) h
    at false h = refl

pub long_start : (xs : List ℕ) (at n : ℕ) → take_while (λ c. not (c == 0)) (take (at + n - at) (drop at xs)) ≡ take n (text_at xs at)
long_start xs at n = let e : at + n - at ≡ n = omega arith in rw e (take_before_zero n (drop at xs))

pub short_start : (xs : List ℕ) (at n : ℕ) → length xs - at ≤ n →
    take_while (λ c. not (c == 0)) (take (length xs - at) (drop at xs)) ≡ take n (text_at xs at)
short_start xs at n h =
    let p : ℕ → Bool = λ c. not (c == 0) in
    let most : length (take_while p (drop at xs)) ≤ n =
    omega (arith, length-prefix_len p (drop at xs), prefix_len-le-length p (drop at xs), length-drop at xs) in
    rw (all_left xs at) (sym (take_all n (take_while p (drop at xs)) most))

equal_by : (o : Ordering) → o ≡ ordering_reverse o → o ≡ Equal
equal_by Less h = absurd (cc)
equal_by Equal h = refl
equal_by Greater h = absurd (cc)

same_list : (xs : List ℕ) → slice_cmp nat_cmp xs xs ≡ Equal
same_list xs = equal_by (slice_cmp nat_cmp xs xs) (nat_list_cmp_total.antisymm xs xs)

-- two symbols whose names stand at one place
pub same_names : (b : List ℕ) (at other : ℕ) → st_name b at ≡ st_name b other →
    Equal ≡ slice_cmp nat_cmp (name_start (symbol_at b at)) (name_start (symbol_at b other))
same_names b at other e = sym (rw e (same_list (name_start (symbol_at b other))))
