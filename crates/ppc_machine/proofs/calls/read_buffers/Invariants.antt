use Rattle.std.proofs.Common.{◌≡◌, drop}
use Rattle.ppc_machine.specs.Buffers.{reads}
use Rattle.ppc_machine.specs.Kept.{kept_lists}
use Rattle.ppc_machine.proofs.calls.read_buffers.Given as goal

abbrev pub invariant-loop-b : goal.invariant-loop-b
invariant-loop-b l =
    kept_lists l.initial.bytes (reads l.mem l.f l.sig l.sig.buffers)
    ≡ kept_lists l.bytes (reads l.mem l.f l.sig (drop l.b-index l.sig.buffers))
