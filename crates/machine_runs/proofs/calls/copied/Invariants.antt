use Rattle.std.proofs.Common.{◌≡◌, take}
use Rattle.machine_runs.proofs.calls.copied.Given as goal

abbrev pub invariant-loop-i : goal.invariant-loop-i
invariant-loop-i l = l.lists.items ≡ take l.i l.bytes
