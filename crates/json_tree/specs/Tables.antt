-- Tables of words in the code, as tables of their bytes.
use Rattle.std.specs.Prelude.{ℕ, List}
use Rattle.std.specs.Borrow.{Bor}

abbrev pub row : {T : Type 0} → Bor (List ℕ) × T → List ℕ × T
row r = (r.0.now, r.1)
