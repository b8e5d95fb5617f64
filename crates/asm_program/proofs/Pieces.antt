-- Lists that grow by what one more element gives.
use Rattle.std.proofs.Common.{◌≡◌, ℕ, ◌+◌, ◌<◌, List, [], ◌∷◌, ◌++◌, length, get_or, map, take, sym, ap, ◌∙◌, append_assoc}
use Rattle.std.specs.List.{flat_map}
use Rattle.std.proofs.lemmas.List.{take_more, map-append, flat_map_more}

pub flat_more : {X A : Type 0} → (f : X → List A) (bs : List A) (xs : List X) (i : ℕ) (d : X) → i < length xs
    → (bs ++ flat_map f (take i xs)) ++ f (get_or xs i d) ≡ bs ++ flat_map f (take (i + 1) xs)
flat_more f bs xs i d lt = flat_map_more f bs (take i xs) (get_or xs i d) ∙ ap (λ l. bs ++ flat_map f l) (sym (take_more xs i d lt))

pub map_more : {X A : Type 0} → (f : X → A) (bs : List A) (xs : List X) (i : ℕ) (d : X) → i < length xs
    → (bs ++ map f (take i xs)) ++ f (get_or xs i d) ∷ [] ≡ bs ++ map f (take (i + 1) xs)
map_more f bs xs i d lt =
    append_assoc bs (map f (take i xs)) (f (get_or xs i d) ∷ [])
    ∙ ap (λ l. bs ++ l) (sym (ap (map f) (take_more xs i d lt) ∙ map-append f (take i xs) (get_or xs i d ∷ [])))
