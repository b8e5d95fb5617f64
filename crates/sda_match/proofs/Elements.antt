-- The first of a list, by its place.
use Rattle.std.proofs.Common.{◌≡◌, ℕ, zero, suc, ◌+◌, Bool, true, false, ◌||◌, List, [], ◌∷◌, Option, Some, refl, sym, ◌∙◌, drop, arith}
use Rattle.std.specs.Prelude.{slice_get, if◌then◌else◌}
use Rattle.std.specs.List.{list_any, find}

any_more : {X : Type 0} (p : X → Bool) (xs : List X) (i : ℕ) (x : X) →
    slice_get xs i ≡ Some x → list_any p (drop i xs) ≡ (p x || list_any p (drop (i + 1) xs))
any_more p [] i x h = absurd (cc)
any_more p (y ∷ ys) zero x h = let s : y ≡ x = cc in rw s refl
any_more p (y ∷ ys) (suc i) x h = let e : suc i + 1 ≡ suc (i + 1) = omega arith in rw e (any_more p ys i x h)

find_more : {X : Type 0} (p : X → Bool) (xs : List X) (i : ℕ) (x : X) →
    slice_get xs i ≡ Some x → find p (drop i xs) ≡ (if p x then Some x else find p (drop (i + 1) xs))
find_more p [] i x h = absurd (cc)
find_more p (y ∷ ys) zero x h = let s : y ≡ x = cc in rw s refl
find_more p (y ∷ ys) (suc i) x h = let e : suc i + 1 ≡ suc (i + 1) = omega arith in rw e (find_more p ys i x h)

-- at a loop over the list, where one element passes and where it does not
pub any_hit : {X : Type 0} (p : X → Bool) (xs : List X) (i : ℕ) (x : X) (whole : Bool) → slice_get xs i ≡ Some x → p x ≡ true
    → list_any p (drop i xs) ≡ whole → true ≡ whole
any_hit p xs i x whole is hit e = sym (any_more p xs i x is ∙ rw hit refl) ∙ e

pub any_miss : {X : Type 0} (p : X → Bool) (xs : List X) (i : ℕ) (x : X) (whole : Bool) →
    slice_get xs i ≡ Some x → p x ≡ false → list_any p (drop i xs) ≡ whole → list_any p (drop (i + 1) xs) ≡ whole
any_miss p xs i x whole is miss e = sym (any_more p xs i x is ∙ rw miss refl) ∙ e

pub find_hit : {X : Type 0} (p : X → Bool) (xs : List X) (i : ℕ) (x : X) (whole : Option X) →
    slice_get xs i ≡ Some x → p x ≡ true → find p (drop i xs) ≡ whole → Some x ≡ whole
find_hit p xs i x whole is hit e = sym (find_more p xs i x is ∙ rw hit refl) ∙ e

pub find_miss : {X : Type 0} (p : X → Bool) (xs : List X) (i : ℕ) (x : X) (whole : Option X) →
    slice_get xs i ≡ Some x → p x ≡ false → find p (drop i xs) ≡ whole → find p (drop (i + 1) xs) ≡ whole
find_miss p xs i x whole is miss e = sym (find_more p xs i x is ∙ rw miss refl) ∙ e
