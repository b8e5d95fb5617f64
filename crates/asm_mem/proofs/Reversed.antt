-- Blocks are kept with the oldest first, in rising numbers, and seen with the newest first.
use Rattle.std.proofs.Common.{◌≡◌, ◌≢◌, ℕ, zero, suc, ◌+◌, ◌<◌, ◌≤◌, true, false, inl, inr, List, [], ◌∷◌, ◌++◌, length, slice_index_or}
use Rattle.std.proofs.Common.{reverse, Some, None, refl, ap, sym, ◌∙◌, arith}
use Rattle.std.specs.Prelude.{find, ◌==◌}
use Rattle.std.proofs.lemmas.List.{reverse-append}
use Rattle.std.proofs.lemmas.List.Folds.{find-append}
use Rattle.std.proofs.lemmas.Bool.{eq-eqb, ne_eqb, cases_lt}
use Rattle.asm_mem.specs.Blocks.{Live, has}
use Rattle.asm_mem.specs.Order.{Above, Rising}

pub reverse_cons : {A : Type 0} (x : A) (xs : List A) → reverse (x ∷ xs) ≡ reverse xs ++ x ∷ []
reverse_cons x xs = reverse-append (x ∷ []) xs

-- numbers by their places
pub above_at : (n : ℕ) (ks : List Live) (i : ℕ) (d : Live) → Above n ks → i < length ks → n < (slice_index_or ks i d).number
above_at n [] i d a h = absurd (omega arith)
above_at n (k ∷ ks) zero d a h = a.0
above_at n (k ∷ ks) (suc i) d a h = above_at n ks i d a.1 (omega arith)

pub rising_at : (ks : List Live) (i j : ℕ) (d : Live) → Rising ks → i < j → j < length ks
    → (slice_index_or ks i d).number < (slice_index_or ks j d).number
rising_at [] i j d r l h = absurd (omega arith)
rising_at (k ∷ ks) i zero d r l h = absurd (omega arith)
rising_at (k ∷ ks) zero (suc j) d r l h = above_at k.number ks j d r.0 (omega arith)
rising_at (k ∷ ks) (suc i) (suc j) d r l h = rising_at ks i j d r.1 (omega arith) (omega arith)

-- a number that no block has
pub absent : (ks : List Live) (b : ℕ) → ((k : ℕ) (d : Live) → k < length ks → (slice_index_or ks k d).number ≢ b)
    → find (has b) (reverse ks) ≡ None
absent [] b differ = refl
absent (k ∷ ks) b differ =
    let here : (k.number == b) ≡ false = ne_eqb _ _ (differ zero k (omega arith)) in
    let rest : find (has b) (reverse ks) ≡ None = absent ks b (λ i d h. differ (suc i) d (omega arith)) in
    rw (reverse_cons k ks, find-append (has b) (reverse ks) (k ∷ []), rest, here) refl

-- the block of a number
pub present : (ks : List Live) (b i : ℕ) (d : Live) → Rising ks → i < length ks → (slice_index_or ks i d).number ≡ b
    → find (has b) (reverse ks) ≡ Some (slice_index_or ks i d)
present [] b i d r h e = absurd (omega arith)
present (k ∷ ks) b zero d r h e =
    let here : (k.number == b) ≡ true = eq-eqb _ _ e in
    let rest : find (has b) (reverse ks) ≡ None = absent ks b (λ j c l. let a = above_at k.number ks j c r.0 l in omega arith) in
    rw (reverse_cons k ks, find-append (has b) (reverse ks) (k ∷ []), rest, here) refl
present (k ∷ ks) b (suc i) d r h e =
    let rest = present ks b i d r.1 (omega arith) e in
    rw (reverse_cons k ks, find-append (has b) (reverse ks) (k ∷ []), rest) refl

default_free : (ks : List Live) (i : ℕ) (d e : Live) → i < length ks → slice_index_or ks i d ≡ slice_index_or ks i e
default_free [] i d e h = absurd (omega arith)
default_free (k ∷ ks) zero d e h = refl
default_free (k ∷ ks) (suc i) d e h = default_free ks i d e (omega arith)

number_at : (ks : List Live) (i : ℕ) (x d : Live) → i < length ks → x ≡ slice_index_or ks i x
    → (slice_index_or ks i d).number ≡ x.number
number_at ks i x d h e = ap (λ (k : Live). k.number) (default_free ks i d x h ∙ sym e)

-- a number above that of a block is above all before
pub low_next : (ks : List Live) (mid b : ℕ) (x : Live) → Rising ks → mid < length ks → x ≡ slice_index_or ks mid x → x.number < b
    → (k : ℕ) (d : Live) → k < mid + 1 → (slice_index_or ks k d).number < b
low_next ks mid b x r h e t k d l =
    let m = number_at ks mid x d h e in
    elim (cases_lt k mid) [
      | inl before ↦ (let a = rising_at ks k mid d r before h in omega arith)
      | inr after ↦ (let q : k ≡ mid = omega arith in rw q (omega arith))
    ]

-- and one below it is below all from there on
pub high_next : (ks : List Live) (mid b : ℕ) (x : Live) → Rising ks → mid < length ks → x ≡ slice_index_or ks mid x → b < x.number
    → (k : ℕ) (d : Live) → mid ≤ k → k < length ks → b < (slice_index_or ks k d).number
high_next ks mid b x r h e t k d g l =
    let m = number_at ks mid x d h e in
    elim (cases_lt mid k) [
      | inl before ↦ (let a = rising_at ks mid k d r before l in omega arith)
      | inr after ↦ (let q : k ≡ mid = omega arith in rw q (omega arith))
    ]
