use Rattle.std.proofs.Common.{◌≡◌, ◌+◌, drop}
use Rattle.call_bytes.specs.CallLists.{bytes_in}
use Rattle.machine_runs.proofs.calls.left_behind.Given as goal

abbrev pub invariant-loop-i : goal.invariant-loop-i
invariant-loop-i l = l.left + bytes_in l.bytes ≡ l.room + bytes_in (drop l.i l.bytes)
