use Rattle.std.proofs.Common.{◌*◌, ap, subst, ◌∙◌}
use Rattle.std.specs.Prelude.{IfOk, replicate}
use Rattle.limits.specs.declared.TheConstants.{IMAGE_STEPS_A_STEP}
use Rattle.name_addresses.specs.Given.{given}
use Rattle.ppc_machine.specs.declared.cpu.Junk.{Junk}
use Rattle.machine_model.specs.FlatRuns.{image_run}
use Rattle.machine_runs.specs.declared.trace.Trace.{Trace}
use Rattle.machine_runs.specs.Traces.{flat_trace, stack_size}
use Rattle.run_verdicts.specs.declared.TheConstants.{FREE_BYTE}
use Rattle.run_verdicts.specs.Runs.{Compares, asm_trace_of}
use Rattle.run_verdicts.proofs.bound.run_placed.Goals as goal

pub returns : goal.returns
returns c =
    let g = given c.args.view.now c.args.layout.now c.args.program.now in
    let bs = c.args.addresses.now in
    let replies = c.args.replies.now in
    let asm = c.in_ok-asm.ensures c.args.view.now in
    let image = c.in_ok-image.ensures
    ∙ ap (λ (j : Junk). flat_trace (image_run g bs j (replicate (stack_size c.args.layout.now) FREE_BYTE) replies)
    (IMAGE_STEPS_A_STEP * c.args.steps)) c.free_junk.ensures in
    let P : Trace → Type 0 = λ t. IfOk c.compared.result (Compares c.args.program.now.units t c.in_ok-image.image) in
    let Q : Trace → Type 0 = λ t. IfOk c.compared.result (Compares c.args.program.now.units (asm_trace_of g bs replies c.args.steps) t) in
    subst Q image (subst P asm c.compared.ensures)
