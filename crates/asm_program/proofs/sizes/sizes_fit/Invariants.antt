use Rattle.std.proofs.Common.{◌≡◌, ◌≤◌, map, drop}
use Rattle.limits.specs.declared.TheConstants.{MOST_PROGRAM_VARIABLE_BYTES}
use Rattle.ordered_tests.specs.Checks.{first_fault}
use Rattle.link_model.specs.LinkTests.{size_tests}
use Rattle.asm_program.specs.Seen.{declaration_seen}
use Rattle.asm_program.proofs.sizes.sizes_fit.Given as goal

abbrev pub invariant-loop-d : goal.invariant-loop-d
invariant-loop-d l = record {
  left : first_fault (size_tests l.total (map declaration_seen (drop l.d-index l.keys)))
      ≡ first_fault (size_tests 0 (map declaration_seen l.keys));
  small : l.total ≤ MOST_PROGRAM_VARIABLE_BYTES;
}
