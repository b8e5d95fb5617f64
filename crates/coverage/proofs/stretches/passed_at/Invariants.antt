use Rattle.std.proofs.Common.{◌≤◌, ◌-◌, length}
use Rattle.coverage.specs.Stretches.{ArePast}
use Rattle.coverage.proofs.stretches.passed_at.Given as goal

abbrev pub invariant-loop-j : goal.invariant-loop-j
invariant-loop-j l = record {
  within : l.j ≤ length l.kept;
  passed : ArePast l.kept l.j l.a;
}

abbrev pub decreases-loop-j : goal.decreases-loop-j
decreases-loop-j l = length l.kept - l.j
