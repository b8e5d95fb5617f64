-- The first state of the assembly machine.
use Rattle.std.specs.Prelude.{ℕ, suc, pos, true, ◌∷◌, length, unwrap_or}
use Rattle.effect_model.specs.declared.Place.TheVariants.{Gpr, Lr}
use Rattle.effect_model.specs.Files.{File, put}
use Rattle.link_model.specs.Numbers.{entry_key, variables}
use Rattle.link_model.specs.Program.{Program}
use Rattle.asm_mem.specs.declared.value.Val.{Val}
use Rattle.asm_mem.specs.declared.value.Val.TheVariants.{Ptr, Stop}
use Rattle.asm_mem.specs.Blocks.{Live, new_block}
use Rattle.asm_values.specs.Files.{no_values}
use Rattle.asm_values.specs.Operands.{symbol_value}
use Rattle.asm_step.specs.State.{State}
use Rattle.asm_machine.specs.Executables.{key_kinds}
use Rattle.asm_machine.specs.Variables.{variable_blocks, variable_keys}
use Rattle.limits.specs.declared.TheConstants.{LEAST_FRAME_BYTES}

-- the root: a frame of no function, on the variables
abbrev pub root : ℕ → Live
root n = new_block n LEAST_FRAME_BYTES true

-- r1 at the root, LR at the end, and no value else
abbrev pub first_file : ℕ → File Val
first_file n = put (put no_values (Gpr 1) (Ptr n 0)) Lr Stop

-- where so many variables stand, and the entry has this key
abbrev pub state_at : Program → ℕ → ℕ → State
state_at p n entry = record {
  file = first_file n;
  place = symbol_value (key_kinds p.units) entry (pos 0) 0;
  live = root n ∷ variable_blocks p.units (variable_keys p.units);
  next = suc n;
}

-- at the first instruction of the entry
abbrev pub first_state : Program → State
first_state p = state_at p (length (variables p.units)) (unwrap_or (entry_key p.units p.entry) 0)
