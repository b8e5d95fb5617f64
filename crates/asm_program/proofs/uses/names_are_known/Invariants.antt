use Rattle.std.proofs.Common.{◌≡◌}
use Rattle.ordered_tests.specs.Checks.{first_fault}
use Rattle.link_model.specs.LinkTests.{unit_name_tests, name_tests}
use Rattle.asm_program.proofs.UsedNames.{faults_from}
use Rattle.asm_program.proofs.uses.names_are_known.Given as goal

abbrev pub invariant-loop-u : goal.invariant-loop-u
invariant-loop-u l = record {
  left : faults_from unit_name_tests l.units l.u ≡ first_fault (name_tests l.units);
}
