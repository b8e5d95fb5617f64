-- What holds of each of a list, and of each two.
use Rattle.std.specs.Prelude.{List, [], ◌∷◌, ⊤}
use Rattle.std.specs.List.{AllByRecursion}

abbrev pub EachOf : {X : Type 0} → (X → Type 0) → List X → Type 0
EachOf P xs = AllByRecursion P xs

-- R holds of each and each later one
abbrev pub Pairwise : {X : Type 0} → (X → X → Type 0) → List X → Type 0
Pairwise R [] = ⊤
Pairwise R (x ∷ xs) = EachOf (R x) xs × Pairwise R xs
