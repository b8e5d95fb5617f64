use Rattle.std.proofs.Common.{◌≤◌, ◌<◌, ◌-◌, ◌^◌}
use Rattle.image_model.specs.Segments.{IsLoadable}
use Rattle.coverage.specs.Sweeps.{Swept}
use Rattle.coverage.proofs.sweep.tally_all.Given as goal

abbrev pub invariant-loop-a : goal.invariant-loop-a
invariant-loop-a l = record {
  swept : Swept l.image l.layout l.kept l.tally l.here l.a;
  most : l.a ≤ 2 ^ 32;
  loadable : 0 < l.a → IsLoadable l.image;
}

abbrev pub decreases-loop-a : goal.decreases-loop-a
decreases-loop-a l = 4294967296 - l.a
