-- A block that is changed.
use Rattle.std.proofs.Common.{◌≡◌, ℕ, zero, suc, ◌<◌, Bool, true, false, List, [], ◌∷◌, ◌++◌, length, slice_index_or, slice_set, reverse}
use Rattle.std.proofs.Common.{Some, None, refl, ap, subst, sym, ◌∙◌, arith}
use Rattle.std.specs.Prelude.{find}
use Rattle.std.proofs.lemmas.Bool.{eq-eqb}
use Rattle.asm_mem.specs.Blocks.{Live, has, update}
use Rattle.asm_mem.specs.Order.{Above, Below, Rising, AreBlocks}
use Rattle.asm_mem.proofs.Reversed.{absent, present, reverse_cons, above_at}

pass_absent : (f : Live → Live) (xs ys : List Live) (b : ℕ) → find (has b) xs ≡ None → update b f (xs ++ ys) ≡ xs ++ update b f ys
pass_absent f [] ys b e = refl
pass_absent f (x ∷ xs) ys b e =
    let at : (t : Bool) → has b x ≡ t → update b f ((x ∷ xs) ++ ys) ≡ (x ∷ xs) ++ update b f ys = λ t.
    elim t as (λ u. has b x ≡ u → update b f ((x ∷ xs) ++ ys) ≡ (x ∷ xs) ++ update b f ys) [
      | true ↦ λ h. (let q : Some x ≡ None = rw h at e in cc)
      | false ↦ λ h. (let q : find (has b) xs ≡ None = rw h at e in rw h (ap (λ l. x ∷ l) (pass_absent f xs ys b q)))
    ] in
    at (has b x) refl

stop_present : (f : Live → Live) (xs ys : List Live) (b : ℕ) (v : Live) → find (has b) xs ≡ Some v → update b f (xs ++ ys) ≡ update b f xs
    ++ ys
stop_present f [] ys b v e = cc
stop_present f (x ∷ xs) ys b v e =
    let at : (t : Bool) → has b x ≡ t → update b f ((x ∷ xs) ++ ys) ≡ update b f (x ∷ xs) ++ ys = λ t.
    elim t as (λ u. has b x ≡ u → update b f ((x ∷ xs) ++ ys) ≡ update b f (x ∷ xs) ++ ys) [
      | true ↦ λ h. rw h refl
      | false ↦ λ h. (let q : find (has b) xs ≡ Some v = rw h at e in rw h (ap (λ l. x ∷ l) (stop_present f xs ys b v q)))
    ] in
    at (has b x) refl

-- the block of a number, from either end
pub update_reversed : (f : Live → Live) (ks : List Live) (b i : ℕ) (d : Live) → Rising ks → i < length ks
    → (slice_index_or ks i d).number ≡ b
    → update b f (reverse ks) ≡ reverse (slice_set ks i (f (slice_index_or ks i d)))
update_reversed f [] b i d r h e = absurd (omega arith)
update_reversed f (k ∷ ks) b zero d r h e =
    let here : has b k ≡ true = eq-eqb _ _ e in
    let rest : find (has b) (reverse ks) ≡ None = absent ks b (λ j c l. let a = above_at k.number ks j c r.0 l in omega arith) in
    rw (reverse_cons k ks, reverse_cons (f k) ks) (pass_absent f (reverse ks) (k ∷ []) b rest ∙ rw here refl)
update_reversed f (k ∷ ks) b (suc i) d r h e =
    let rest = present ks b i d r.1 (omega arith) e in
    let there = update_reversed f ks b i d r.1 (omega arith) e in
    rw (reverse_cons k ks, reverse_cons k (slice_set ks i (f (slice_index_or ks i d))))
    (stop_present f (reverse ks) (k ∷ []) b _ rest ∙ ap (λ l. l ++ k ∷ []) there)

above_set : (ks : List Live) (i n : ℕ) (x d : Live) → Above n ks → x.number ≡ (slice_index_or ks i d).number → Above n (slice_set ks i x)
above_set [] i n x d a e = tt
above_set (k ∷ ks) zero n x d a e = (omega (arith, a.0, e), a.1)
above_set (k ∷ ks) (suc i) n x d a e = (a.0, above_set ks i n x d a.1 e)

below_set : (ks : List Live) (i n : ℕ) (x d : Live) → Below n ks → x.number ≡ (slice_index_or ks i d).number → Below n (slice_set ks i x)
below_set [] i n x d a e = tt
below_set (k ∷ ks) zero n x d a e = (omega (arith, a.0, e), a.1)
below_set (k ∷ ks) (suc i) n x d a e = (a.0, below_set ks i n x d a.1 e)

rising_set : (ks : List Live) (i : ℕ) (x d : Live) → Rising ks → x.number ≡ (slice_index_or ks i d).number → Rising (slice_set ks i x)
rising_set [] i x d r e = tt
rising_set (k ∷ ks) zero x d r e = let q : k.number ≡ x.number = sym e in (subst (λ n. Above n ks) q r.0, r.1)
rising_set (k ∷ ks) (suc i) x d r e = (above_set ks i k.number x d r.0 e, rising_set ks i x d r.1 e)

pub kept_blocks : (ks : List Live) (i n : ℕ) (x d : Live) → AreBlocks ks n → x.number ≡ (slice_index_or ks i d).number
    → AreBlocks (slice_set ks i x) n
kept_blocks ks i n x d a e = record { rising = rising_set ks i x d a.rising e; below = below_set ks i n x d a.below e }
