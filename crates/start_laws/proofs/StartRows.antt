-- The first states of a whole program and of its image, worked by hand. The program is main alone, which is addi 3,0,7 and blr; its unit,
-- layout and image are those of examples/first.
use Rattle.std.proofs.Common.{◌≡◌, ℕ, true, false, List, [], ◌∷◌, ◌++◌, replicate, Some, None, refl}
use Rattle.std.specs.Prelude.{pos, codes, slice_get}
use Rattle.word_ops.specs.Ranges.{extent}
use Rattle.image_model.specs.Image.{Segment}
use Rattle.layout_model.specs.declared.kind.AreaKind.TheVariants as areas
use Rattle.asm_syntax.specs.declared.operations.AluImmOp.TheVariants.{Addi}
use Rattle.asm_syntax.specs.declared.instr.Const.TheVariants as consts
use Rattle.asm_syntax.specs.declared.instr.Jump.TheVariants.{Blr}
use Rattle.asm_syntax.specs.declared.instr.Plain.TheVariants.{AluImm, Jump}
use Rattle.asm_syntax.specs.declared.instr.Instr.{Instr}
use Rattle.asm_syntax.specs.declared.instr.Instr.TheVariants.{Plain}
use Rattle.code_model.specs.Addresses.{address_after}
use Rattle.code_model.specs.Forms.{instr_length}
use Rattle.asm_mem.specs.declared.value.Val.TheVariants.{Undef, Ptr, Code, Stop}
use Rattle.asm_mem.specs.declared.cell.Cell.TheVariants.{Nothing}
use Rattle.asm_mem.specs.Blocks.{Live}
use Rattle.asm_step.specs.State.{State}
use Rattle.link_model.specs.declared.key.KeyKind.TheVariants as kinds
use Rattle.link_model.specs.Program.{declarations, keys, resolve, defines_global, is_referred, key_alignment}
use Rattle.link_model.specs.Numbers.{functions, variables, key_of, entry_key}
use Rattle.link_model.specs.Candidates.{Inputs, candidates, known_address}
use Rattle.link_model.specs.Uses.{all_uses}
use Rattle.link_model.specs.Binding.{binding, addresses, key_address}
use Rattle.asm_machine.specs.Executables.{routines, key_kinds, sigs}
use Rattle.asm_machine.specs.Variables.{variable_blocks, variable_keys}
use Rattle.asm_machine.specs.Starts as asm
use Rattle.ppc_machine.specs.declared.cpu.Junk.{Junk}
use Rattle.ppc_machine.specs.State.{FlatState}
use Rattle.machine_model.specs.FlatRuns as flat
use Rattle.machine_model.specs.Worlds.{World, world_of, address_of_key, size_in, place_at, depth, home, shown}

abbrev pub code : List Instr
code = Plain (AluImm Addi 3 0 (consts.Int (pos 7))) ∷ Plain (Jump Blr) ∷ []

abbrev pub text : Segment
text = record { vaddr = 0x10010000; held = 0x38 ∷ 0x60 ∷ 0 ∷ 7 ∷ 0x4e ∷ 0x80 ∷ 0 ∷ 0x20 ∷ []; memsz = 8; flags = 5 }

abbrev pub inputs : Inputs
inputs = record {
  image = record {
    entry = 0x10010000;
    segments = text ∷ [];
    symbols = record { name = codes "main"; value = 0x10010000; size = 8; binding = 1; kind = 2; shndx = 0xfff1 } ∷ [];
  };
  layout = record {
    entry = codes "main";
    stop = 0x10000000;
    stack = extent 0x20000000 0x20010000;
    r13 = 0x10038000;
    r2 = 0x10048000;
    areas = record { range = extent 0x10010000 0x10011000; kind = areas.Code } ∷ [];
    foreign = [];
    pins = [];
  };
  program = record {
    units = record {
      name = codes "a.c";
      functions = record { name = codes "main"; is_static = false; code = code } ∷ [];
      variables = [];
      externals = [];
    } ∷ [];
    entry = codes "main";
  };
}

-- what is left in registers and on the stack
abbrev pub junk : Junk
junk = record { regs = replicate 32 0xdeadbeef; cr = 0x80000001; ctr = 5; xer = 0x20000000 }

abbrev pub stack : List ℕ
stack = replicate 65536 0xa5

-- ---- the world and the first states

abbrev pub main_at : List ℕ
main_at = 0x10010000 ∷ []

abbrev pub memory : List ℕ → List Segment
memory bytes = record { vaddr = 0x20000000; held = bytes; memsz = 65536; flags = 2 } ∷ text ∷ []

abbrev pub world : World
world = record {
  program = record {
    routines = record { code = code; keys = 0 ∷ 0 ∷ [] } ∷ [];
    kinds = kinds.Function 0 ∷ [];
    sigs = None ∷ [];
    variables = 0;
  };
  address = key_address main_at;
  function_at = λ f. address_of_key main_at (slice_get (0 ∷ []) f);
  variable_at = λ v. address_of_key main_at (slice_get [] v);
  variable_size = size_in [];
  image = inputs.image;
  layout = inputs.layout;
  outside = flat.outside inputs.program main_at;
  memory = memory stack;
}

-- r1 points to the root, the only block, of 16 empty cells; LR is the stop point
abbrev pub assembly : State
assembly = record {
  file = record {
    gprs = Undef ∷ Ptr 0 0 ∷ replicate 30 Undef;
    bits = replicate 32 Undef;
    lr = Stop;
    ctr = Undef;
    ca = Undef;
    so = Undef;
  };
  place = Code 0 0;
  live = record { number = 0; writable = true; cells = replicate 16 Nothing } ∷ [];
  next = 1;
}

-- r1 is the last 16 bytes of the stack, of which the first four are 0
abbrev pub image : FlatState
image = record {
  file = record {
    gprs = 0xdeadbeef ∷ 0x2000fff0 ∷ 0x10048000 ∷ replicate 10 0xdeadbeef ++ 0x10038000 ∷ replicate 18 0xdeadbeef;
    bits = 1 ∷ replicate 30 0 ++ 1 ∷ [];
    lr = 0x10000000;
    ctr = 5;
    ca = 1;
    so = 0;
  };
  pc = 0x10010000;
  mem = memory (replicate 65520 0xa5 ++ 0 ∷ 0 ∷ 0 ∷ 0 ∷ replicate 12 0xa5);
}

-- the definitions give these
pub given : (addresses inputs ≡ main_at) × (world_of inputs main_at stack ≡ world)
    × (asm.first_state inputs.program ≡ assembly) × (flat.first_state inputs main_at junk stack ≡ image)
unfolding declarations keys resolve defines_global is_referred key_alignment functions variables key_of entry_key candidates known_address
    all_uses binding addresses routines key_kinds sigs variable_blocks variable_keys
given = (refl, refl, refl, refl)

abbrev pub live : List Live
live = assembly.live

-- what stands where
places : (depth world live ≡ 16) × (home world live 0 ≡ Some 0x2000fff0) × (home world live 1 ≡ None)
    × (shown world live (Ptr 0 0) ≡ Some 0x2000fff0) × (shown world live Stop ≡ Some 0x10000000) × (shown world live Undef ≡ None)
    × (place_at world 0 0 ≡ 0x10010000) × (place_at world 0 1 ≡ 0x10010004) × (place_at world 0 2 ≡ 0x10010008)
    × (shown world live (Code 0 0) ≡ Some 0x10010000)
unfolding address_after instr_length
places = (refl, refl, refl, refl, refl, refl, refl, refl, refl, refl)
