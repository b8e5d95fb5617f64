-- What a sink has taken, before and after.
use Rattle.std.specs.Prelude.{◌≡◌, ◌<◌, ℕ, List, ◌++◌, length, take, Option, Some, None}

-- the bytes are at the end of what was taken, where the sink tells
abbrev pub Appends : Option (List ℕ) → Option (List ℕ) → List ℕ → Type 0
Appends None now bytes = now ≡ None
Appends (Some before) now bytes = now ≡ Some (before ++ bytes)

-- some first bytes, and not all
abbrev pub AppendsShorter : Option (List ℕ) → Option (List ℕ) → List ℕ → Type 0
AppendsShorter before now bytes = (n : ℕ) × (n < length bytes) × Appends before now (take n bytes)
