use Rattle.std.proofs.Common.{◌≡◌, drop}
use Rattle.flat_mem.specs.Memory.{set_bytes}
use Rattle.ppc_machine.proofs.calls.put_bytes.Given as goal

abbrev pub invariant-loop-b : goal.invariant-loop-b
invariant-loop-b l = set_bytes l.initial.mem l.a l.bytes ≡ set_bytes l.mem l.at (drop l.b-index l.bytes)
