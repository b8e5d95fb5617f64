use Rattle.std.proofs.Common.{◌≡◌, ◌-◌, ◌≤◌, length, drop}
use Rattle.std.specs.Prelude.{slice_get}
use Rattle.call_bytes.specs.CallLists.{cut, total}
use Rattle.call_bytes.proofs.bytes.list_at.Given as goal

abbrev pub invariant-loop-k : goal.invariant-loop-k
invariant-loop-k l = record {
  same : slice_get (cut (drop l.k l.lengths) l.rest) (l.i - l.k) ≡ slice_get (cut l.lengths l.kept) l.i;
  inside : total (drop l.k l.lengths) ≤ length l.rest;
}
