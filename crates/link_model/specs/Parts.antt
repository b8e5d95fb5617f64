-- When an image has what the units say, at places that the layout allows. Each part stands for itself, and none speaks of a
-- machine that runs the image.
use Rattle.std.specs.Prelude.{◌≡◌, ℕ, ◌%◌, ◌<◌, ◌≤◌, true, List, Some, is_some, slice_get, IsSome}
use Rattle.std.specs.List.{list_all}
use Rattle.image_model.specs.Image.{Image}
use Rattle.layout_model.specs.Layouts.{is_foreign}
use Rattle.asm_syntax.specs.declared.instr.Instr.{Instr}
use Rattle.asm_syntax.specs.declared.instr.Function.{Function}
use Rattle.asm_syntax.specs.declared.unit.Variable.{Variable}
use Rattle.asm_syntax.specs.declared.unit.External.{External}
use Rattle.code_model.specs.Addresses.{is_executable_at, code_end}
use Rattle.code_model.specs.Areas.{is_code_kind, is_in_one_area}
use Rattle.code_model.specs.Code.{CodeIs, TableIs}
use Rattle.code_model.specs.Variables.{DataIs, IsDataPlaced}
use Rattle.link_model.specs.Program.{Item, OfFunction, OfVariable, OfExternal, keys, key_alignment}
use Rattle.link_model.specs.Candidates.{Inputs}
use Rattle.link_model.specs.Binding.{binding, addresses, key_address, symbol_address}
use Rattle.link_model.specs.Claims.{code_range, claims, Apart}
use Rattle.link_model.specs.Kinds.{NoneStray}

-- key k is this item of unit u
abbrev pub IsKey : Inputs → ℕ → ℕ → Item → Type 0
IsKey g k u item = slice_get (keys g.program.units) k ≡ Some (record { unit = u; item = item })

-- the image is entered at an instruction
pub record IsEntered (v : Image) : Type 0 where
  pub aligned : v.entry % 4 ≡ 0
  pub runs : is_executable_at v v.entry ≡ true

-- an external at an address: foreign, and aligned where it may be called
pub record IsExternalPlaced (g : Inputs) (a : ℕ) (x : External) : Type 0 where
  pub foreign : is_foreign g.layout a ≡ true
  pub aligned : IsSome x.sig → a % 4 ≡ 0

-- a function at an address: aligned, in one area of code, loaded and executable
pub record IsPlaced (g : Inputs) (base : ℕ) (code : List Instr) : Type 0 where
  pub aligned : base % 4 ≡ 0
  pub inside : is_in_one_area g.layout is_code_kind (code_range g.image base code) ≡ true
  pub runs : (a : ℕ) → base ≤ a → a < code_end g.image base code → is_executable_at g.image a ≡ true

-- the instructions and the tables of a function of unit u
pub record IsCode (g : Inputs) (bs : List ℕ) (u base : ℕ) (code : List Instr) : Type 0 where
  pub instructions : CodeIs g.image g.layout (symbol_address g bs u) base code
  pub tables : TableIs g.image g.layout base code

-- the alignment of a variable of unit u
abbrev pub alignment : Inputs → ℕ → Variable → ℕ
alignment g u x = key_alignment g.program.units (record { unit = u; item = OfVariable x })

-- the parts, where the keys have the addresses bs
pub record PartsHold (g : Inputs) (bs : List ℕ) : Type 0 where
  pub entry : IsEntered g.image
  pub bound : list_all is_some (binding g) ≡ true
  pub externals : (k u : ℕ) (x : External) → IsKey g k u (OfExternal x) → IsExternalPlaced g (key_address bs k) x
  pub externals_differ : (j k t u : ℕ) (x y : External) → IsKey g j t (OfExternal x) → IsKey g k u (OfExternal y) →
      key_address bs j ≡ key_address bs k → j ≡ k
  pub placed : (k u : ℕ) (f : Function) → IsKey g k u (OfFunction f) → IsPlaced g (key_address bs k) f.code
  pub code : (k u : ℕ) (f : Function) → IsKey g k u (OfFunction f) → IsCode g bs u (key_address bs k) f.code
  pub data_is : (k u : ℕ) (x : Variable) → IsKey g k u (OfVariable x) →
      DataIs g.image (symbol_address g bs u) (key_address bs k) x
  pub data_placed : (k u : ℕ) (x : Variable) → IsKey g k u (OfVariable x) →
      IsDataPlaced g.image g.layout (alignment g u x) (key_address bs k) x
  pub apart : Apart (claims g bs)
  pub covered : NoneStray g.image g.layout (claims g bs)

abbrev pub Matches : Inputs → Type 0
Matches g = PartsHold g (addresses g)
