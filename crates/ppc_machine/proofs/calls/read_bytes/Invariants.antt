use Rattle.std.proofs.Common.{◌≡◌}
use Rattle.ppc_machine.specs.Buffers.{bytes_at}
use Rattle.ppc_machine.specs.Kept.{more_bytes, kept_list}
use Rattle.ppc_machine.proofs.calls.read_bytes.Given as goal

abbrev pub invariant-loop-left : goal.invariant-loop-left
invariant-loop-left l = kept_list l.fn.bytes (bytes_at l.mem l.a l.n) ≡ more_bytes l.bytes (bytes_at l.mem l.at l.left)

abbrev pub decreases-loop-left : goal.decreases-loop-left
decreases-loop-left l = l.left
