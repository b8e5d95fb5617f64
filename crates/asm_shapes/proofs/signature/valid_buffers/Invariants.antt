use Rattle.std.proofs.Common.{◌≡◌, ◌≤◌, drop}
use Rattle.std.specs.List.{enumerate_from}
use Rattle.ordered_tests.specs.Checks.{each_check, first_fault}
use Rattle.asm_shapes.specs.Signatures.{buffer_test, buffer_tests}
use Rattle.asm_shapes.proofs.signature.valid_buffers.Given as goal

abbrev pub invariant-loop-i : goal.invariant-loop-i
invariant-loop-i l = record {
  few : l.i ≤ 8;
  same : first_fault (each_check (buffer_test l.args) (enumerate_from l.i (drop l.i l.buffers)))
      ≡ first_fault (buffer_tests l.args l.buffers);
}
