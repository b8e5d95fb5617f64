use Rattle.std.proofs.Common.{◌<◌, ◌≤◌, ◌^◌}
use Rattle.word_ops.specs.Ranges.{Extent}
use Rattle.coverage.specs.Stretches.{AreOutside}
use Rattle.coverage.proofs.stretches.foreign_from.Given as goal

abbrev pub invariant-loop-i : goal.invariant-loop-i
invariant-loop-i l = record {
  some : l.a < l.end;
  outside : AreOutside (λ (range : Extent). range) l.layout.foreign l.i l.a l.end;
}
