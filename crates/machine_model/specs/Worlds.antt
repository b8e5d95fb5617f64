-- What the runs of a program and of an image never change, and the word that stands for a value.
use Rattle.std.specs.Prelude.{ℕ, ◌+◌, ◌-◌, ◌*◌, ◌^◌, ◌==◌, nat_lt, if◌then◌else◌, List, [], ◌∷◌, Option, Some, None, option_map, slice_get}
use Rattle.std.specs.Option.{option_map_or}
use Rattle.isa_model.specs.Word.{wrapped, ha}
use Rattle.image_model.specs.Image.{Image, Segment}
use Rattle.layout_model.specs.Layouts.{Layout}
use Rattle.asm_syntax.specs.Sizes as sizes
use Rattle.asm_syntax.specs.declared.instr.Instr.{Instr}
use Rattle.asm_syntax.specs.declared.unit.Variable.{Variable}
use Rattle.code_model.specs.Fields.{address_plus}
use Rattle.code_model.specs.Addresses.{instr_address, label_address}
use Rattle.code_model.specs.Code.{target}
use Rattle.link_model.specs.declared.key.KeyKind.TheVariants.{Function, Variable as IsVariable}
use Rattle.link_model.specs.Binding.{key_address}
use Rattle.link_model.specs.Candidates.{Inputs}
use Rattle.link_model.specs.Numbers.{key_of, variables}
use Rattle.flat_mem.specs.Built.{built}
use Rattle.asm_mem.specs.declared.value.Val.{Val}
use Rattle.asm_mem.specs.declared.value.Val.TheVariants.{Undef, Int, Ptr, Code, Ext, Stop, Ha}
use Rattle.asm_mem.specs.Blocks.{Live}
use Rattle.asm_step.specs.LinkedCode.{Linked, key_at}
use Rattle.asm_machine.specs.Executables.{linked}
use Rattle.asm_machine.specs.Stacks.{frame_cells}
use Rattle.ppc_machine.specs.declared.externals.External.{External}
use Rattle.machine_model.specs.FlatRuns.{outside}

pub record World : Type 0 where
  pub program : Linked
  -- by key
  pub address : ℕ → ℕ
  -- by the numbers of functions and variables
  pub function_at : ℕ → ℕ
  pub variable_at : ℕ → ℕ
  pub variable_size : ℕ → ℕ
  pub image : Image
  pub layout : Layout
  -- the external function with a signature at an address
  pub outside : ℕ → Option External
  -- flat memory, before the root is made
  pub memory : List Segment

-- the address of the key of a kind, where the keys have the addresses bs, and 0 where there is none
abbrev pub address_of_key : List ℕ → Option ℕ → ℕ
address_of_key bs k = option_map_or (key_address bs) k 0

abbrev pub size_in : List Variable → ℕ → ℕ
size_in xs v = option_map_or (λ (x : Variable). sizes.variable_size x.init) (slice_get xs v) 0

-- with these bytes on the stack
abbrev pub world_of : Inputs → List ℕ → List ℕ → World
world_of g bs stack = record {
  program = linked g.program;
  address = key_address bs;
  function_at = λ f. address_of_key bs (key_of g.program.units (Function f));
  variable_at = λ v. address_of_key bs (key_of g.program.units (IsVariable v));
  variable_size = size_in (variables g.program.units);
  image = g.image;
  layout = g.layout;
  outside = outside g.program bs;
  memory = built g.image g.layout.stack.lo stack;
}

-- ---- addresses

abbrev pub code_of : Linked → ℕ → List Instr
code_of p f = option_map_or (λ r. r.code) (slice_get p.routines f) []

-- of an instruction
abbrev pub place_at : World → ℕ → ℕ → ℕ
place_at w f i = instr_address w.image (w.function_at f) (code_of w.program f) i

-- of the symbol or the label that an instruction of a function names
abbrev pub target_in : World → ℕ → ℕ → Instr → ℕ
target_in w f i x =
    target (λ name. w.address (key_at w.program f i)) (label_address w.image (w.function_at f) (code_of w.program f)) x

abbrev pub variables_in : World → ℕ
variables_in w = w.program.variables

-- the bytes that the frames and the root take
abbrev pub depth : World → List Live → ℕ
depth w live = frame_cells (variables_in w) live + 16

-- of the newest block: a variable, or a frame below all older ones
abbrev pub base : World → List Live → ℕ
base w [] = 0
base w (k ∷ ks) = if nat_lt k.number (variables_in w) then w.variable_at k.number else w.layout.stack.hi - depth w (k ∷ ks)

-- of a live block
abbrev pub home : World → List Live → ℕ → Option ℕ
home w [] b = None
home w (k ∷ ks) b = if k.number == b then Some (base w (k ∷ ks)) else home w ks b

-- ---- the word that stands for a value where these blocks are live, or none where every word does

abbrev pub shown : World → List Live → Val → Option ℕ
shown w live Undef = None
shown w live (Int n) = Some n
shown w live (Ptr b o) = option_map (λ a. wrapped (a + o)) (home w live b)
shown w live (Code f i) = Some (place_at w f i)
shown w live (Ext k o) = Some (wrapped (w.address k + o))
shown w live Stop = Some w.layout.stop
shown w live (Ha k o n) = Some (wrapped (ha (address_plus (w.address k) o) * 2 ^ 16 + n))
