use Rattle.std.proofs.Common.{◌<◌, ◌≤◌, ◌^◌}
use Rattle.layout_model.specs.Layouts.{area_range}
use Rattle.coverage.specs.Stretches.{AreOutside}
use Rattle.coverage.proofs.stretches.area_from.Given as goal

abbrev pub invariant-loop-i : goal.invariant-loop-i
invariant-loop-i l = record {
  some : l.a < l.end;
  outside : AreOutside area_range l.layout.areas l.i l.a l.end;
}
