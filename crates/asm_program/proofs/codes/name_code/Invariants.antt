use Rattle.std.proofs.Common.{◌≡◌, take}
use Rattle.asm_program.specs.Codes.{name_code}
use Rattle.asm_program.proofs.codes.name_code.Given as goal

abbrev pub invariant-loop-byte : goal.invariant-loop-byte
invariant-loop-byte l = record {
  so_far : l.code ≡ name_code (take l.byte-index l.name);
}
