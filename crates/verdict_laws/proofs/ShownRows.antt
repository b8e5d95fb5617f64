-- The words that stand for values, worked by hand in a small world. Nothing cites them.
use Rattle.std.specs.Prelude.{◌≡◌, ℕ, ◌+◌, ◌*◌, true, List, [], ◌∷◌, Some, None, pos, negsuc, refl}
use Rattle.image_model.specs.Image.{Image}
use Rattle.word_ops.specs.Ranges.{extent}
use Rattle.layout_model.specs.Layouts.{Layout}
use Rattle.asm_syntax.specs.declared.instr.Jump.TheVariants.{Blr}
use Rattle.asm_syntax.specs.declared.instr.Plain.TheVariants.{Jump}
use Rattle.asm_syntax.specs.declared.instr.Instr.TheVariants.{Plain, Label}
use Rattle.code_model.specs.Addresses.{address_after}
use Rattle.code_model.specs.Forms.{instr_length}
use Rattle.link_model.specs.declared.key.KeyKind.TheVariants.{Function, Variable, External}
use Rattle.asm_mem.specs.declared.value.Val.TheVariants.{Undef, Int, Ptr, Code, Ext, Stop, Ha}
use Rattle.asm_mem.specs.Blocks.{Live, new_block}
use Rattle.asm_step.specs.LinkedCode.{Linked}
use Rattle.machine_model.specs.Worlds.{World, shown}

-- a function, a variable of 8 bytes and an external, which are the keys 0, 1 and 2; the stack ends at 0x20000000
abbrev program : Linked
program = record {
  routines = record { code = Label 0 ∷ Plain (Jump Blr) ∷ []; keys = 0 ∷ 0 ∷ [] } ∷ [];
  kinds = Function 0 ∷ Variable 0 ∷ External 0 ∷ [];
  sigs = None ∷ None ∷ None ∷ [];
  variables = 1;
}

abbrev layout : Layout
layout = record {
  entry = [];
  stop = 0x30000000;
  stack = extent 0x1ffff000 0x20000000;
  r13 = 0;
  r2 = 0;
  areas = [];
  foreign = [];
  pins = [];
}

abbrev world : World
world = record {
  program = program;
  address = λ k. 0x10000000 + k * 0x10000;
  function_at = λ f. 0x10000000;
  variable_at = λ v. 0x10010000;
  variable_size = λ v. 8;
  image = record { entry = 0x10000000; segments = []; symbols = [] };
  layout = layout;
  outside = λ a. None;
  memory = [];
}

-- a frame of 32 bytes on one of 16 bytes on the root, which has the number 1, on the variable
abbrev live : List Live
live = new_block 4 32 true ∷ new_block 2 16 true ∷ new_block 1 16 true ∷ new_block 0 8 true ∷ []

words : (shown world live (Int 5) ≡ Some 5) × (shown world live Undef ≡ None) × (shown world live Stop ≡ Some 0x30000000)
words = (refl, refl, refl)

-- of the variable, the root and the two frames, and of a block that is gone
pointers :
    (shown world live (Ptr 0 4) ≡ Some 0x10010004) × (shown world live (Ptr 1 0) ≡ Some 0x1ffffff0)
    × (shown world live (Ptr 2 0) ≡ Some 0x1fffffe0)
    × (shown world live (Ptr 4 8) ≡ Some 0x1fffffc8)
    × (shown world live (Ptr 3 0) ≡ None)
pointers = (refl, refl, refl, refl, refl)

-- a label has no words, and blr has one
places :
    (shown world live (Code 0 0) ≡ Some 0x10000000) × (shown world live (Code 0 1) ≡ Some 0x10000000)
    × (shown world live (Code 0 2) ≡ Some 0x10000004)
unfolding address_after instr_length
places = (refl, refl, refl)

-- an external at an offset, which may wrap, and an adjusted high half
addresses :
    (shown world live (Ext 2 12) ≡ Some 0x1002000c) × (shown world live (Ext 2 0xefffffff) ≡ Some 0x1ffff)
    × (shown world live (Ha 1 (pos 0x8000) 0) ≡ Some 0x10020000)
    × (shown world live (Ha 1 (negsuc 0) 4) ≡ Some 0x10010004)
addresses = (refl, refl, refl, refl)
