-- What the answer for a function tells.
use Rattle.std.specs.Prelude.{◌≡◌, ℕ, List, map, Option, Some}
use Rattle.word_ops.specs.Seen.{extent_of}
use Rattle.image_model.specs.Image.{Image}
use Rattle.asm_syntax.specs.declared.instr.Instr.{Instr}
use Rattle.code_model.specs.declared.spot.Spot.{Spot}
use Rattle.link_model.specs.declared.owner.Owner.{Owner}
use Rattle.link_model.specs.Claims.{code_range, table_claims}
use Rattle.expansions.specs.Tables.{table_claim}
use Rattle.expansions.specs.declared.function.Placed.{Placed}
use Rattle.expansions.specs.declared.function.CodeFault.{CodeFault}
use Rattle.expansions.specs.declared.function.CodeFault.TheVariants.{No, Memory}

-- where the code and the tables of a function stand
pub record IsPlaced (v : Image) (base : ℕ) (code : List Instr) (placed : Placed) : Type 0 where
  pub range : extent_of placed.range ≡ code_range v base code
  pub tables : (owner_at : ℕ → Owner) → map (table_claim owner_at) placed.tables ≡ table_claims v owner_at base base code

-- the fault of the first test that fails; want of memory tells nothing of the tests
abbrev pub Tells : Option Spot → CodeFault → Type 0
Tells first (No spot) = first ≡ Some spot
Tells first Memory = Unit {0}
