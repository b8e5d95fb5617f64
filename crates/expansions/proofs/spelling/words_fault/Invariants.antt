use Rattle.std.proofs.Common.{◌≡◌, ◌+◌, ◌*◌, drop}
use Rattle.ordered_tests.specs.Checks.{first_fault}
use Rattle.code_model.specs.WordChecks.{shapes_checks}
use Rattle.expansions.proofs.spelling.words_fault.Given as goal

abbrev pub invariant-loop-i : goal.invariant-loop-i
invariant-loop-i l =
    first_fault (shapes_checks l.layout (l.offset + 4 * l.i) (l.at + 4 * l.i) (drop l.i l.shapes) (drop l.i l.words))
    ≡ first_fault (shapes_checks l.layout l.offset l.at l.shapes l.words)
