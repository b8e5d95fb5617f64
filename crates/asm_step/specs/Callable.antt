-- What the machine needs of instructions that have their shape and of signatures that are valid.
use Rattle.std.specs.Prelude.{◌≡◌, ◌≤◌, true, length}
use Rattle.std.specs.List.{list_all}
use Rattle.asm_syntax.specs.declared.instr.Instr.{Instr}
use Rattle.asm_syntax.specs.declared.instr.Instr.TheVariants.{Plain}
use Rattle.asm_values.specs.Actions.{HasField}
use Rattle.limits.specs.declared.TheConstants.{MOST_BUFFERS}
use Rattle.asm_syntax.specs.declared.unit.Sig.{Sig}
use Rattle.asm_shapes.specs.Signatures.{argument_registers, is_argument_register}

pub record IsCallable (sig : Sig) : Type 0 where
  pub registers : list_all is_argument_register (argument_registers sig.args) ≡ true
  pub buffers : length sig.buffers ≤ MOST_BUFFERS

-- the field of a comparison is one of the eight
abbrev pub FitsInstr : Instr → Type 0
FitsInstr (Plain x) = HasField x
FitsInstr _ = Unit {0}
