-- What a read answers, by what the store holds.
use Rattle.std.specs.Prelude.{◌≡◌, ◌<◌, ◌≤◌, ℕ, List, length, Option, Some, None, Result, Err, ⊤}
use Rattle.outside.specs.Faults.{Rose}
use Rattle.outside.specs.declared.store.StoreError.{StoreError}
use Rattle.outside.specs.declared.store.StoreError.TheVariants.{Failed, TooLong, Absent}

-- the bytes under each name
abbrev pub Files : Type 0
Files = List ℕ → Option (List ℕ)

-- the bytes are those under the name, where the store tells, and within the limit
abbrev pub IsHeld : Option Files → List ℕ → ℕ → List ℕ → Type 0
IsHeld None name limit bytes = length bytes ≤ limit
IsHeld (Some files) name limit bytes = (files name ≡ Some bytes) × (length bytes ≤ limit)

-- why there are no bytes: a store that does not tell what it holds cannot tell that a name is absent
abbrev pub IsRefused : Option Files → List ℕ → ℕ → StoreError → Type 0
IsRefused (Some files) name limit Absent = files name ≡ None
IsRefused None name limit Absent = ⊥
IsRefused (Some files) name limit TooLong = (bytes : List ℕ) × (files name ≡ Some bytes) × (limit < length bytes)
IsRefused holds name limit e = ⊤

-- a failed read raises the count and blames its name, and every other answer leaves both
abbrev pub HasCause : {T : Type 0} → ℕ → ℕ → List ℕ → List ℕ → List ℕ → Result T StoreError → Type 0
HasCause before now blamed_before blamed name (Err Failed) = Rose before now × (blamed ≡ name)
HasCause before now blamed_before blamed name answer = (now ≡ before) × (blamed ≡ blamed_before)
