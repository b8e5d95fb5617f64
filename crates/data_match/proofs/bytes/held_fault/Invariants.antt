use Rattle.std.proofs.Common.{◌≡◌, ◌+◌, ◌-◌, ◌≤◌, ◌^◌, drop}
use Rattle.data_match.specs.Stretches.{bytes_fault}
use Rattle.data_match.proofs.bytes.held_fault.Given as goal

pub record Passed (goes : Type 0) (within : Type 0) (below : Type 0) : Type 0 where
  pub same : goes
  pub end : within
  pub low : below

abbrev pub invariant-loop-i : goal.invariant-loop-i
invariant-loop-i l = Passed
    (bytes_fault l.segments l.a (l.offset + l.i) (drop l.i l.bytes) ≡ bytes_fault l.segments l.a l.offset l.bytes)
    (l.i ≤ l.n)
    (l.a + l.offset + l.i ≤ 2 ^ 32)

abbrev pub decreases-loop-i : goal.decreases-loop-i
decreases-loop-i l = l.n - l.i
