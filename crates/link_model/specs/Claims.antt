-- The ranges of addresses that the functions, the tables and the variables of a program claim, where its keys have the addresses
-- of a list.
use Rattle.std.specs.Prelude.{◌≡◌, ℕ, ◌-◌, false, List, [], ◌∷◌, ◌++◌}
use Rattle.std.specs.List.{flat_map}
use Rattle.ordered_tests.specs.Lists.{Pairwise}
use Rattle.word_ops.specs.Ranges.{Extent, extent, meets}
use Rattle.image_model.specs.Image.{Image}
use Rattle.asm_syntax.specs.declared.instr.Instr.{Instr}
use Rattle.asm_syntax.specs.declared.instr.Instr.TheVariants as instrs
use Rattle.code_model.specs.Addresses.{address_after, code_end}
use Rattle.code_model.specs.Code.{table_range}
use Rattle.code_model.specs.Variables.{data_range}
use Rattle.link_model.specs.declared.owner.Owner.{Owner}
use Rattle.link_model.specs.declared.owner.Owner.TheVariants as owners
use Rattle.link_model.specs.Program.{Item, OfFunction, OfVariable, Declaration}
use Rattle.link_model.specs.Numbers.{unit_name}
use Rattle.link_model.specs.Candidates.{Inputs}
use Rattle.link_model.specs.Binding.{numbered_keys, key_address}

pub record Claim : Type 0 where
  pub range : Extent
  pub owner : Owner

abbrev pub claim : Extent → Owner → Claim
claim range owner = record { range = range; owner = owner }

-- ---- a function and its tables

abbrev pub code_range : Image → ℕ → List Instr → Extent
code_range v base code = extent base (code_end v base code)

-- the table of an instruction at an address, by the owner of a table with an offset
abbrev pub jump_claims : Image → (ℕ → Owner) → ℕ → ℕ → Instr → List Claim
jump_claims v owner_at base a (instrs.Btbl r labels) = claim (table_range v a labels) (owner_at (a - base)) ∷ []
jump_claims v owner_at base a _ = []

-- the tables of the instructions from an address on
abbrev pub table_claims : Image → (ℕ → Owner) → ℕ → ℕ → List Instr → List Claim
table_claims v owner_at base a [] = []
table_claims v owner_at base a (x ∷ xs) = jump_claims v owner_at base a x ++ table_claims v owner_at base (address_after v a x) xs

-- a function, then its tables by instruction
abbrev pub function_claims : Image → List ℕ → ℕ → Item → List Claim
function_claims v unit a (OfFunction f) =
    claim (code_range v a f.code) (owners.Function unit f.name) ∷ table_claims v (owners.Table unit f.name) a a f.code
function_claims v unit a _ = []

-- ---- a variable

abbrev pub variable_claims : List ℕ → ℕ → Item → List Claim
variable_claims unit a (OfVariable x) = claim (data_range a x) (owners.Variable unit x.name) ∷ []
variable_claims unit a _ = []

-- ---- all

abbrev pub key_functions : Inputs → List ℕ → ℕ × Declaration → List Claim
key_functions g bs k = function_claims g.image (unit_name g.program.units k.1.unit) (key_address bs k.0) k.1.item

abbrev pub key_variables : Inputs → List ℕ → ℕ × Declaration → List Claim
key_variables g bs k = variable_claims (unit_name g.program.units k.1.unit) (key_address bs k.0) k.1.item

-- all functions in the order of their keys, each followed by its tables; then all variables
unfoldable pub claims : Inputs → List ℕ → List Claim
claims g bs = flat_map (key_functions g bs) (numbered_keys g) ++ flat_map (key_variables g bs) (numbered_keys g)

-- no address is in both; so nothing is asked of a claim without addresses
abbrev pub AreApart : Claim → Claim → Type 0
AreApart c d = meets c.range d.range ≡ false

abbrev pub Apart : List Claim → Type 0
Apart cs = Pairwise AreApart cs
