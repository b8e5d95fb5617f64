-- A reference to a symbol, as constants, branches and data have it.
use Rattle.std.specs.Prelude.{ℕ, ℤ, List}

-- the symbol's name, and the offset that is added to its address
pub record Reference : Type 0 where
  pub name : List ℕ
  pub offset : ℤ

abbrev pub reference : List ℕ → ℤ → Reference
reference name offset = record { name = name; offset = offset }
