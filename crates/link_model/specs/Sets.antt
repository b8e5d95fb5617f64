-- A set of numbers as the list of its members in ascending order, and the first of each kind in a list.
use Rattle.std.specs.Prelude.{ℕ, Bool, nat_lt, List, [], ◌∷◌, Option, Some, None, if◌then◌else◌}
use Rattle.std.specs.List.{list_any}

abbrev pub with_member : ℕ → List ℕ → List ℕ
with_member x [] = x ∷ []
with_member x (y ∷ ys) = if nat_lt x y then x ∷ y ∷ ys else if nat_lt y x then y ∷ with_member x ys else y ∷ ys

-- the set of the numbers in a list
abbrev pub set_of : List ℕ → List ℕ
set_of [] = []
set_of (x ∷ xs) = with_member x (set_of xs)

-- the only member
abbrev pub only_member : List ℕ → Option ℕ
only_member [] = None
only_member (x ∷ []) = Some x
only_member (x ∷ y ∷ ys) = None

-- the elements that are not like one before them, behind those that were seen
abbrev pub first_of_each : {X : Type 0} → (X → X → Bool) → List X → List X → List X
first_of_each alike seen [] = []
first_of_each alike seen (x ∷ xs) =
    if list_any (alike x) seen then first_of_each alike seen xs else x ∷ first_of_each alike (x ∷ seen) xs
