use Rattle.std.proofs.Common.{◌≡◌, ◌+◌, ◌≤◌, ◌++◌, true, length, drop}
use Rattle.std.specs.List.{list_all}
use Rattle.asm_shapes.specs.Signatures.{argument_registers, is_argument_register, registers_of}
use Rattle.call_bytes.specs.Calls.{first_registers}
use Rattle.call_bytes.proofs.arguments.Arguments.new.Given as goal

abbrev pub invariant-loop-width : goal.invariant-loop-width
invariant-loop-width l = record {
  pass : list_all is_argument_register (registers_of l.next (drop l.width-index l.args)) ≡ true;
  words : l.words.items ++ registers_of l.next (drop l.width-index l.args) ≡ argument_registers l.args;
  firsts : l.firsts.items ++ first_registers l.next (drop l.width-index l.args) ≡ first_registers 3 l.args;
  few_words : length l.words.items + 3 ≤ l.next;
  few_firsts : length l.firsts.items + 3 ≤ l.next;
  most : l.next ≤ 11;
}
