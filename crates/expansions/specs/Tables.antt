-- The claims of the tables that were found.
use Rattle.std.specs.Prelude.{ℕ, List, [], ◌∷◌, Option, Some, None}
use Rattle.word_ops.specs.Seen.{extent_of}
use Rattle.link_model.specs.declared.owner.Owner.{Owner}
use Rattle.link_model.specs.Claims.{Claim, claim}
use Rattle.expansions.specs.declared.table.Table.{Table}

-- a table's claim, by the owner of a table with an offset
abbrev pub table_claim : (ℕ → Owner) → Table → Claim
table_claim owner_at t = claim (extent_of t.range) (owner_at t.offset)

-- the claim of the table that an instruction has, if it has one
abbrev pub found_claims : (ℕ → Owner) → Option Table → List Claim
found_claims owner_at None = []
found_claims owner_at (Some t) = table_claim owner_at t ∷ []
