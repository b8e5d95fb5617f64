use Rattle.std.proofs.Common.{◌≡◌, ◌≤◌, drop}
use Rattle.std.specs.List.{list_all}
use Rattle.asm_shapes.specs.Signatures.{argument_registers, is_argument_register, registers_of}
use Rattle.asm_shapes.proofs.signature.pass_in_registers.Given as goal

abbrev pub invariant-loop-width : goal.invariant-loop-width
invariant-loop-width l = record {
  free : l.next ≤ 11;
  same : list_all is_argument_register (registers_of l.next (drop l.width-index l.args))
      ≡ list_all is_argument_register (argument_registers l.args);
}
