use Rattle.std.proofs.Common.{◌≡◌, drop}
use Rattle.ppc_machine.specs.Buffers.{buffers_fault}
use Rattle.ppc_machine.proofs.calls.buffers_fault.Given as goal

abbrev pub invariant-loop-b : goal.invariant-loop-b
invariant-loop-b l =
    buffers_fault l.mem l.f l.sig l.sig.buffers ≡ buffers_fault l.mem l.f l.sig (drop l.b-index l.sig.buffers)
