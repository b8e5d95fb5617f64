use Rattle.std.proofs.Common.{◌≡◌, ◌≤◌, ◌-◌}
use Rattle.ordered_tests.specs.Checks.{first_fault, from_to}
use Rattle.code_model.specs.FunctionChecks.{byte_checks}
use Rattle.expansions.proofs.place.bytes_fault.Given as goal

abbrev pub invariant-loop-a : goal.invariant-loop-a
invariant-loop-a l = record {
  left : first_fault (byte_checks l.segments l.base (from_to l.a l.end))
      ≡ first_fault (byte_checks l.segments l.base (from_to l.base l.end));
  from : l.base ≤ l.a;
}

abbrev pub decreases-loop-a : goal.decreases-loop-a
decreases-loop-a l = l.end - l.a
