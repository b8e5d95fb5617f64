-- A list in reverse, by the numbers of its elements.
use Rattle.std.proofs.Common.{◌≡◌, ℕ, zero, suc, ◌+◌, ◌<◌, List, [], ◌∷◌, ◌++◌, length, map, Option, Some, None, refl, sym, ap, ◌∙◌, arith}
use Rattle.std.specs.Prelude.{reverse, slice_index_or}
use Rattle.std.proofs.lemmas.List.{reverse-append}

-- the elements below n, the last first
abbrev pub down : {A : Type 0} → (ℕ → A) → ℕ → List A
down f zero = []
down f (suc n) = f n ∷ down f n

down_behind : {A : Type 0} (f : ℕ → A) (n : ℕ) → down f (suc n) ≡ down (λ i. f (suc i)) n ++ f 0 ∷ []
down_behind f zero = refl
down_behind f (suc n) = ap (λ l. f (suc n) ∷ l) (down_behind f n)

pub reverse_down : {A : Type 0} (xs : List A) (d : A) → reverse xs ≡ down (λ i. slice_index_or xs i d) (length xs)
reverse_down [] d = refl
reverse_down (x ∷ xs) d =
    reverse-append (x ∷ []) xs ∙ ap (λ l. l ++ x ∷ []) (reverse_down xs d)
    ∙ sym (down_behind (λ i. slice_index_or (x ∷ xs) i d) (length xs))
