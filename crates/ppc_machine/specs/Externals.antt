-- The external functions by their addresses.
use Rattle.std.specs.Prelude.{◌≡◌, ◌≢◌, ℕ, List, Option, Some, IsTrue, IfSome}
use Rattle.std.specs.Ordering.{nat_cmp}
use Rattle.std.specs.BTreeMap.{is_at}
use Rattle.std.specs.Map.{lookup}
use Rattle.asm_shapes.specs.Signatures.{is_valid_sig}
use Rattle.ppc_machine.specs.declared.externals.External.{External}

-- what is kept: the externals in the order of their addresses
abbrev pub Table : Type 0
Table = List (ℕ × External)

-- the external function at an address
abbrev pub external_at : Table → ℕ → Option External
external_at table a = lookup (is_at (nat_cmp a)) table

-- the new table has the external at the address, and at every other what the old one has
pub record Adds (old new : Table) (a : ℕ) (x : External) : Type 0 where
  pub added : external_at new a ≡ Some x
  pub others : (q : ℕ) → q ≢ a → external_at new q ≡ external_at old q

-- each external has a valid signature
abbrev pub IsTable : Table → Type 0
IsTable table = (a : ℕ) → IfSome (external_at table a) (λ x. IsTrue (is_valid_sig x.sig))
