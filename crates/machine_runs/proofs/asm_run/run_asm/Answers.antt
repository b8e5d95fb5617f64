use Rattle.std.proofs.Common.{◌≡◌, ap, subst, arith}
use Rattle.std.specs.Prelude.{IfOk}
use Rattle.name_addresses.specs.Given.{given}
use Rattle.asm_step.specs.LinkedCode.{Linked}
use Rattle.asm_step.specs.State.{State}
use Rattle.asm_machine.specs.Cpus.{Cpu}
use Rattle.asm_machine.specs.Executables.{linked}
use Rattle.machine_model.specs.AsmRuns.{asm_run}
use Rattle.machine_runs.specs.Traces.{asm_trace}
use Rattle.machine_runs.proofs.asm_run.run_asm.Goals as goal

pub trace_from-requires-clause-room : goal.trace_from-requires-clause-room
trace_from-requires-clause-room c =
    let none = ap (λ (x : Cpu). x.deepest) c.in_ok-cpu.ensures in
    omega (arith, none, c.stack-stack.ensures.layout.parts.stack.least_size)

pub returns : goal.returns
returns c =
    λ v.
    let g = given v c.args.layout.now c.args.program.now in
    let state = ap (λ (x : Cpu). x.state) c.in_ok-cpu.ensures in
    let P : Linked → Type 0 = λ code. IfOk c.trace_from.result (λ t. t ≡ asm_trace g c.args.addresses.now
    (λ m. asm_run code m c.in_ok-cpu.cpu.state c.args.replies.now) c.args.steps) in
    let Q : State → Type 0 = λ s. IfOk c.trace_from.result (λ t. t ≡ asm_trace g c.args.addresses.now
    (λ m. asm_run (linked c.args.program.now) m s c.args.replies.now) c.args.steps) in
    subst Q state (subst P c.in_ok-code.ensures (c.trace_from.ensures v))
