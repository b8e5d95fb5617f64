use Rattle.std.proofs.Common.{◌≡◌, drop}
use Rattle.std.specs.List.{enumerate_from}
use Rattle.ordered_tests.specs.Checks.{each_check, first_fault}
use Rattle.asm_shapes.specs.Shapes.{code_tests, place_tests}
use Rattle.asm_shapes.proofs.function.check_code.Given as goal

abbrev pub invariant-loop-at : goal.invariant-loop-at
invariant-loop-at g l =
    first_fault (each_check (place_tests (g.C.Labelled.code l.code)) (enumerate_from l.at (drop l.at l.instrs)))
    ≡ first_fault (code_tests (g.C.Labelled.code l.code))
