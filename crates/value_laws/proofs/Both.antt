-- Two lists in step.
use Rattle.std.proofs.Common.{ℕ, zero, suc, List, [], ◌∷◌}
use Rattle.std.specs.Prelude.{slice_index_or, slice_set}
use Rattle.machine_model.specs.Relation.{Both}

pub both_get : {A B : Type 0} (R : A → B → Type 0) (xs : List A) (ys : List B) (d : A) (e : B) → R d e → Both R xs ys → (i : ℕ)
    → R (slice_index_or xs i d) (slice_index_or ys i e)
both_get R [] [] d e r h i = r
both_get R (x ∷ xs) (y ∷ ys) d e r h zero = h.0
both_get R (x ∷ xs) (y ∷ ys) d e r h (suc i) = both_get R xs ys d e r h.1 i
both_get R [] (y ∷ ys) d e r h i = absurd h
both_get R (x ∷ xs) [] d e r h i = absurd h

pub both_set : {A B : Type 0} (R : A → B → Type 0) (xs : List A) (ys : List B) (x : A) (y : B) → R x y → Both R xs ys → (i : ℕ)
    → Both R (slice_set xs i x) (slice_set ys i y)
both_set R [] [] d e r h i = tt
both_set R (x ∷ xs) (y ∷ ys) d e r h zero = (r, h.1)
both_set R (x ∷ xs) (y ∷ ys) d e r h (suc i) = (h.0, both_set R xs ys d e r h.1 i)
both_set R [] (y ∷ ys) d e r h i = absurd h
both_set R (x ∷ xs) [] d e r h i = absurd h

pub both_map : {A B : Type 0} (R S : A → B → Type 0) → ((x : A) (y : B) → R x y → S x y) → (xs : List A) (ys : List B) → Both R xs ys
    → Both S xs ys
both_map R S f [] [] h = tt
both_map R S f (x ∷ xs) (y ∷ ys) h = (f x y h.0, both_map R S f xs ys h.1)
both_map R S f [] (y ∷ ys) h = absurd h
both_map R S f (x ∷ xs) [] h = absurd h
