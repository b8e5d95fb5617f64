use Rattle.std.proofs.Common.{◌≡◌, drop}
use Rattle.ppc_machine.specs.Buffers.{filled}
use Rattle.ppc_machine.proofs.calls.fill_buffers.Given as goal

abbrev pub invariant-loop-b : goal.invariant-loop-b
invariant-loop-b l =
    filled l.initial.mem l.f l.sig l.sig.buffers l.fills ≡ filled l.mem l.f l.sig (drop l.b-index l.sig.buffers) l.left
