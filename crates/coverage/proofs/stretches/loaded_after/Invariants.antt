use Rattle.std.proofs.Common.{◌<◌, ◌≤◌, ◌^◌}
use Rattle.coverage.specs.Stretches.{AreLate}
use Rattle.coverage.proofs.stretches.loaded_after.Given as goal

abbrev pub invariant-loop-s : goal.invariant-loop-s
invariant-loop-s l = record {
  more : l.a < l.end;
  most : l.end ≤ 2 ^ 32;
  late : AreLate l.s-items l.s-index l.a l.end;
}
