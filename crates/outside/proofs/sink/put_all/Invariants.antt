use Rattle.std.proofs.Common.{length, ◌-◌, ◌≤◌, take}
use Rattle.outside.specs.Sink.{Appends}
use Rattle.outside.proofs.sink.put_all.Given as goal

-- the bytes before the place are taken
abbrev pub invariant-loop-at : goal.invariant-loop-at
invariant-loop-at g l = record {
  range : l.at ≤ length l.bytes;
  taken : Appends (g.W.Sink.taken l.fn.out) (g.W.Sink.taken l.out) (take l.at l.bytes);
  never_falls : g.W.Sink.faults l.fn.out ≤ g.W.Sink.faults l.out;
}

abbrev pub decreases-loop-at : goal.decreases-loop-at
decreases-loop-at g l = length l.bytes - l.at
