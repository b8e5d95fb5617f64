-- The laws of a match: when there is none, and what one tells.
use Rattle.std.specs.Prelude.{◌≡◌, ◌↔◌, ℕ, ◌<◌, ◌^◌, ℤ, false, List, Option, Some, None, slice_get}
use Rattle.isa_model.specs.Forms.{displacement_in}
use Rattle.ordered_tests.specs.Checks.{first_fault}
use Rattle.ordered_tests.specs.Lists.{EachOf}
use Rattle.ppc_decode.specs.declared.machine.Machine.{Machine}
use Rattle.image_model.specs.Image.{Image}
use Rattle.image_model.specs.Loaded.{byte_at}
use Rattle.image_model.specs.Segments.{IsLoadable}
use Rattle.layout_model.specs.Layouts.{Layout}
use Rattle.layout_model.specs.Facts.{IsLayout}
use Rattle.asm_syntax.specs.declared.rule.Rule.TheVariants as rules
use Rattle.asm_syntax.specs.declared.instr.Instr.{Instr}
use Rattle.asm_syntax.specs.declared.instr.Function.{Function}
use Rattle.asm_syntax.specs.declared.unit.Init.{Init}
use Rattle.asm_syntax.specs.declared.unit.Variable.{Variable}
use Rattle.asm_syntax.specs.References.{Reference}
use Rattle.asm_syntax.specs.Instructions.{instr_symbol, labels_named}
use Rattle.asm_syntax.specs.Sizes.{init_symbol}
use Rattle.asm_shapes.specs.Shapes.{HasShape}
use Rattle.code_model.specs.Fields.{address_plus}
use Rattle.code_model.specs.Forms.{near, far}
use Rattle.code_model.specs.WordChecks.{spot}
use Rattle.code_model.specs.Addresses.{label_address}
use Rattle.link_model.specs.declared.fault.Fault.{Fault}
use Rattle.link_model.specs.Program.{OfFunction, OfVariable, Declaration, Program, keys, resolve}
use Rattle.link_model.specs.Numbers.{entry_key}
use Rattle.link_model.specs.LinkTests.{IsLinked}
use Rattle.link_model.specs.Candidates.{Inputs}
use Rattle.link_model.specs.Binding.{addresses}
use Rattle.link_model.specs.Claims.{Claim}
use Rattle.link_model.specs.Kinds.{Stray, kind_at, NoneStray}
use Rattle.link_model.specs.Parts.{PartsHold, Matches}
use Rattle.link_model.specs.Passes.{nowhere, stray_pass, passes, FailsAt, First}
use Rattle.link_laws.specs.Facts.{IsSpelt, Facts, IsLabelAt}

-- ---- the first fault

abbrev pub NoFault : Option Fault → Type 0
NoFault o = let none : Option Fault = None in o ≡ none

-- an image matches exactly where no place fails. Where some place does, one fault is the first, and it is that of a place that fails
pub record PlacesDecide (g : Inputs) : Type 0 where
  pub none : NoFault (first_fault (passes g (addresses g))) ↔ Matches g
  pub some : (f : Fault) → FailsAt g f → (first : Fault) × First g first
  pub one : (f : Fault) → First g f → FailsAt g f

abbrev pub MatchesOrFails : Type 0
MatchesOrFails = (g : Inputs) → IsLoadable g.image → PlacesDecide g

-- ---- the pass over all addresses

-- a loaded address that is stray, and below which none is
pub record IsLowestStray (v : Image) (l : Layout) (cs : List Claim) (a byte : ℕ) : Type 0 where
  pub loaded : byte_at v a ≡ Some byte
  pub stray : kind_at v l cs a ≡ Some Stray
  pub lower : (b : ℕ) → b < a → kind_at v l cs b ≡ Some Stray → ⊥

pub record StraysDecide (v : Image) (l : Layout) (cs : List Claim) : Type 0 where
  pub none : NoFault (first_fault (stray_pass v l cs)) ↔ NoneStray v l cs
  pub lowest : (a byte : ℕ) → IsLowestStray v l cs a byte →
      first_fault (stray_pass v l cs) ≡ Some (nowhere (spot rules.Stray a 0 0 byte))

abbrev pub LowestStrayIsFirst : Type 0
LowestStrayIsFirst = (v : Image) (l : Layout) (cs : List Claim) → IsLoadable v → StraysDecide v l cs

-- ---- the facts

abbrev pub MatchesGiveFacts : Type 0
MatchesGiveFacts = (g : Inputs) (bs : List ℕ) → IsLayout g.layout → IsLinked g.program → PartsHold g bs → Facts g bs

-- ---- linked programs

abbrev pub of_function : ℕ → Function → Declaration
of_function u f = record { unit = u; item = OfFunction f }

abbrev pub of_variable : ℕ → Variable → Declaration
of_variable u x = record { unit = u; item = OfVariable x }

-- the entry is a global function, and the first key that is one of this name
pub record HasEntry (p : Program) : Type 0 where
  pub key : ℕ
  pub unit : ℕ
  pub function : Function
  pub is : slice_get (keys p.units) key ≡ Some (record { unit = unit; item = OfFunction function })
  pub named : function.name ≡ p.entry
  pub global : function.is_static ≡ false
  pub first : entry_key p.units p.entry ≡ Some key

-- each name that a function or a variable refers to means a key
pub record HasNames (p : Program) : Type 0 where
  pub functions : (k u : ℕ) (f : Function) (i : ℕ) (x : Instr) (r : Reference) → slice_get (keys p.units) k ≡ Some (of_function u f) →
      slice_get f.code i ≡ Some x → instr_symbol x ≡ Some r → (j : ℕ) × (resolve p.units u r.name ≡ Some j)
  pub variables : (k u : ℕ) (y : Variable) (i : ℕ) (x : Init) (r : Reference) → slice_get (keys p.units) k ≡ Some (of_variable u y) →
      slice_get y.init i ≡ Some x → init_symbol x ≡ Some r → (j : ℕ) × (resolve p.units u r.name ≡ Some j)

-- each function has the shape that the tests of units ask for
abbrev pub HasShapes : Program → Type 0
HasShapes p = (k u : ℕ) (f : Function) → slice_get (keys p.units) k ≡ Some (of_function u f) → HasShape f.code

pub record LinkedFacts (p : Program) : Type 0 where
  pub entry : HasEntry p
  pub names : HasNames p
  pub shapes : HasShapes p

abbrev pub LinkedGivesFacts : Type 0
LinkedGivesFacts = (p : Program) → IsLinked p → LinkedFacts p

-- ---- labels and branches

-- each label that an instruction names stands in the code, with the address of its place
abbrev pub HasLabels : Image → ℕ → List Instr → Type 0
HasLabels v base code = (i : ℕ) (x : Instr) → slice_get code i ≡ Some x →
    EachOf (λ n. IsLabelAt v base code n (label_address v base code n)) (labels_named x)

abbrev pub LabelsStand : Type 0
LabelsStand = (v : Image) (base : ℕ) (code : List Instr) → HasShape code → HasLabels v base code

-- a branch at an address that is spelt leads to its target
pub record BranchesLead (l : Layout) (at t : ℕ) (made : ℤ → Machine) (w : ℕ) : Type 0 where
  pub near : IsSpelt l at (near t made) w → address_plus at (displacement_in 16 w) ≡ t
  pub far : IsSpelt l at (far t made) w → address_plus at (displacement_in 26 w) ≡ t

abbrev pub BranchesLeadThere : Type 0
BranchesLeadThere = (l : Layout) (at t : ℕ) (made : ℤ → Machine) (w : ℕ) → t < 2 ^ 32 → BranchesLead l at t made w
