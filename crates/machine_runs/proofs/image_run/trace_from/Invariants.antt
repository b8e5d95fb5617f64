use Rattle.std.proofs.Common.{◌≡◌}
use Rattle.ppc_machine.specs.Externals.{external_at}
use Rattle.ppc_machine.specs.State.{state}
use Rattle.machine_runs.proofs.FlatRunning.{IsAfter}
use Rattle.machine_runs.proofs.image_run.trace_from.Given as goal

abbrev pub invariant-loop-i : goal.invariant-loop-i
invariant-loop-i l = record {
  after : IsAfter l.initial.cpu.stop (external_at l.ext) (state l.initial.cpu.processor l.initial.mem) l.replies l.i
      (state l.cpu.processor l.mem) l.events;
  stop : l.cpu.stop ≡ l.initial.cpu.stop;
}
