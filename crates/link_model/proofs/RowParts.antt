-- Parts of worked rows: small images, layouts and units, and what is computed of them.
use Rattle.std.proofs.Common.{ℕ, List, [], ◌∷◌}
use Rattle.std.specs.Prelude.{ℤ, pos, codes, Bool, false, Option, Some, None, length, flat_map}
use Rattle.ordered_tests.specs.Checks.{first_fault}
use Rattle.word_ops.specs.Ranges.{Extent, extent}
use Rattle.image_model.specs.Image.{Image, Symbol, Segment}
use Rattle.layout_model.specs.declared.kind.AreaKind.{AreaKind}
use Rattle.layout_model.specs.declared.kind.AreaKind.TheVariants as areas
use Rattle.layout_model.specs.Layouts.{Area, Layout, Pin}
use Rattle.asm_syntax.specs.declared.operations.AluImmOp.TheVariants.{Addi, Addis}
use Rattle.asm_syntax.specs.declared.instr.Const.TheVariants.{Int, Lo, Ha}
use Rattle.asm_syntax.specs.declared.instr.Jump.TheVariants as jumps
use Rattle.asm_syntax.specs.declared.instr.Plain.TheVariants as plains
use Rattle.asm_syntax.specs.declared.instr.Instr.{Instr}
use Rattle.asm_syntax.specs.declared.instr.Instr.TheVariants.{Plain}
use Rattle.asm_syntax.specs.declared.instr.Function.{Function}
use Rattle.asm_syntax.specs.declared.unit.Init.{Init}
use Rattle.asm_syntax.specs.declared.unit.Variable.{Variable}
use Rattle.asm_syntax.specs.declared.unit.External.{External}
use Rattle.asm_syntax.specs.declared.unit.Sig.{Sig}
use Rattle.asm_syntax.specs.declared.unit.Unit.{Unit}
use Rattle.isa_model.specs.Forms.{d_form, x_form, i_form, displacement_between}
use Rattle.ppc_decode.specs.Word.{word_or_zero}
use Rattle.ppc_decode.specs.Decoding.{proposed, decoded}
use Rattle.code_model.specs.declared.spot.Spot.{Spot}
use Rattle.code_model.specs.Forms.{forms, instr_length}
use Rattle.code_model.specs.Addresses.{address_after}
use Rattle.code_model.specs.WordChecks.{shape_checks}
use Rattle.code_model.specs.FunctionChecks.{byte_checks, place_checks, table_checks, instr_checks, function_checks}
use Rattle.code_model.specs.Variables.{word_bytes, data_checks, data_place_checks}
use Rattle.link_model.specs.declared.fault.Fault.{Fault}
use Rattle.link_model.specs.Program.{declarations, keys, resolve, defines_global, is_referred, key_alignment}
use Rattle.link_model.specs.Candidates.{Inputs, candidates, known_address}
use Rattle.link_model.specs.Uses.{all_uses}
use Rattle.link_model.specs.Binding.{binding, addresses}
use Rattle.link_model.specs.Claims.{claims}
use Rattle.link_model.specs.Overlaps.{fault_at, overlap_pass}
use Rattle.link_model.specs.Passes.{entry_pass, bound_pass, external_pass, function_pass, variable_pass, key_passes}

-- ---- images

abbrev pub segment : ℕ → List ℕ → ℕ → Segment
segment a bytes flags = record { vaddr = a; held = bytes; memsz = length bytes; flags = flags }

-- the code of all rows stands at 10010000
abbrev pub text : List ℕ → Segment
text words = segment 0x10010000 (flat_map word_bytes words) 5

-- of SHN_ABS and no type
abbrev pub symbol : List ℕ → ℕ → ℕ → Symbol
symbol name value binding = record { name = name; value = value; size = 0; binding = binding; kind = 0; shndx = 0xfff1 }

abbrev pub global : List ℕ → ℕ → Symbol
global name value = symbol name value 1

abbrev pub local : List ℕ → ℕ → Symbol
local name value = symbol name value 0

abbrev pub image : List Segment → List Symbol → Image
image segments symbols = record { entry = 0x10010000; segments = segments; symbols = global (codes "main") 0x10010000 ∷ symbols }

-- ---- layouts

abbrev pub area : ℕ → ℕ → AreaKind → Area
area lo hi kind = record { range = extent lo hi; kind = kind }

abbrev pub layout : List Area → List Extent → List Pin → Layout
layout others foreign pins = record {
  entry = codes "main";
  stop = 0x10000000;
  stack = extent 0x20000000 0x20010000;
  r13 = 0x10038000;
  r2 = 0x10048000;
  areas = area 0x10010000 0x10011000 areas.Code ∷ others;
  foreign = foreign;
  pins = pins;
}

-- ---- units

abbrev pub function : List ℕ → List Instr → Function
function name code = record { name = name; is_static = false; code = code }

abbrev pub variable : List ℕ → Bool → List Init → Variable
variable name writable init = record { name = name; is_static = false; writable = writable; align = 4; init = init }

abbrev pub external : List ℕ → Option Sig → External
external name sig = record { name = name; sig = sig }

-- no argument and no result
abbrev pub empty_sig : Sig
empty_sig = record { args = []; result = None; buffers = [] }

abbrev pub unit : List ℕ → List Function → List Variable → List External → Unit
unit name functions variables externals =
    record { name = name; functions = functions; variables = variables; externals = externals }

-- one unit, whose function is main
abbrev pub main_unit : List Instr → List Variable → List External → List Unit
main_unit code variables externals = unit (codes "a.c") (function (codes "main") code ∷ []) variables externals ∷ []

abbrev pub inputs : Image → Layout → List Unit → Inputs
inputs v l units = record { image = v; layout = l; program = record { units = units; entry = codes "main" } }

-- code alone, in one unit
abbrev pub code_alone : List Instr → List ℕ → Inputs
code_alone code words = inputs (image (text words ∷ []) []) (layout [] [] []) (main_unit code [] [])

-- ---- instructions

abbrev pub addi : ℕ → ℕ → ℤ → Instr
addi d a n = Plain (plains.AluImm Addi d a (Int n))

abbrev pub addis_ha : ℕ → ℕ → List ℕ → Instr
addis_ha d a name = Plain (plains.AluImm Addis d a (Ha name (pos 0)))

abbrev pub addi_lo : ℕ → ℕ → List ℕ → Instr
addi_lo d a name = Plain (plains.AluImm Addi d a (Lo name (pos 0)))

abbrev pub bs : List ℕ → Instr
bs name = Plain (plains.Jump (jumps.Bs name))

abbrev pub bl : List ℕ → Instr
bl name = Plain (plains.Jump (jumps.Bl name))

abbrev pub blr : Instr
blr = Plain (plains.Jump jumps.Blr)

abbrev pub seven : List Instr
seven = addi 3 0 (pos 7) ∷ blr ∷ []

-- ---- what is computed

-- the first fault before the pass over all addresses
unfoldable pub answer : Inputs → Option Fault
unfolding d_form x_form i_form displacement_between word_or_zero proposed decoded forms instr_length address_after
    shape_checks byte_checks place_checks table_checks instr_checks function_checks data_checks data_place_checks
    declarations keys resolve defines_global is_referred key_alignment candidates known_address all_uses binding addresses
    claims entry_pass bound_pass external_pass function_pass variable_pass overlap_pass key_passes
answer g = first_fault (key_passes g (addresses g))

abbrev pub in_main : Spot → Option Fault
in_main s = Some (fault_at (codes "a.c") (codes "main") s None)

abbrev pub none : Option Fault
none = None
