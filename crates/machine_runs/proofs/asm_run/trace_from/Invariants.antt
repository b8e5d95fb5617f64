use Rattle.std.proofs.Common.{◌≡◌, ◌+◌, ◌≤◌}
use Rattle.image_model.specs.Image.{Image}
use Rattle.name_addresses.specs.Given.{given}
use Rattle.machine_runs.specs.Traces.{asm_seen, stack_size}
use Rattle.machine_runs.proofs.AsmRunning.{IsAfter}
use Rattle.machine_runs.proofs.asm_run.trace_from.Given as goal

abbrev pub invariant-loop-i : goal.invariant-loop-i
invariant-loop-i l = record {
  after : (v : Image) → IsAfter l.code (asm_seen (given v l.placed.layout.now l.placed.program.now) l.placed.addresses.now)
      (stack_size l.placed.layout.now) l.initial.cpu.state l.replies l.i l.cpu.state l.cpu.deepest l.events;
  variables : l.cpu.variables ≡ l.initial.cpu.variables;
  blocks : l.cpu.state.next ≤ l.initial.cpu.state.next + l.i;
}
