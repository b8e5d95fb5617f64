use Rattle.std.proofs.Common.{◌≡◌, Bool, Some, None, length, ap, sym, subst, ◌∙◌}
use Rattle.std.specs.Option.{option_copied}
use Rattle.link_model.specs.Numbers.{variables}
use Rattle.asm_step.specs.LinkedCode.{Linked}
use Rattle.asm_step.specs.Steps.{asm_step}
use Rattle.asm_machine.specs.Cpus.{Hands}
use Rattle.machine_runs.specs.declared.trace.Outcome.TheVariants.{Full}
use Rattle.machine_runs.specs.declared.trace.Seen.{Seen}
use Rattle.machine_runs.specs.Steps.{CallAdds, IsAdded}
use Rattle.machine_runs.proofs.AsmAdvances.{adds_called}
use Rattle.machine_runs.proofs.FlatAdvances.{seen}
use Rattle.machine_runs.proofs.asm_run.advance.Goals as goal

pub returns-then-branch-clause-events : goal.returns-then-branch-clause-events
returns-then-branch-clause-events c =
    λ v.
    let p = c.args.placed.now.program.now in
    let count : c.args.cpu.now.variables ≡ length (variables p.units) =
    c.requires.variables ∙ ap (λ (x : Linked). x.variables) c.requires.program in
    let n = asm_step c.args.code.now c.args.cpu.now.state (option_copied c.args.reply) in
    let P : Seen → Type 0 = λ x. CallAdds x None c.args.events.now c.add.new.self in
    let Q : Bool → Type 0 = λ b. IsAdded (seen c.event-event.result c.step-answer.new.bytes) b c.args.events.now c.add.new.self in
    let event = ap (λ x. seen x c.step-answer.new.bytes) c.event-event.ensures in
    adds_called v c.args.placed.now.layout.now p c.args.placed.now.addresses.now _ n c.args.cpu.now.state c.step-answer.new.self.state
    c.in-Called.call c.step-answer.new.bytes None c.args.events.now c.add.new.self
    (sym c.fits-room.ensures ∙ c.if-not-room.false) c.in-Called.ensures.answer c.in-Called.ensures.read
    (subst (λ k. Hands k c.args.cpu.now.state n) count c.step-answer.ensures.hands)
    (subst P event (subst Q c.if-branch.true c.in_ok-add-in-Called.ensures))

pub returns-else-branch-clause-events : goal.returns-else-branch-clause-events
returns-else-branch-clause-events c =
    λ v.
    let p = c.args.placed.now.program.now in
    let count : c.args.cpu.now.variables ≡ length (variables p.units) =
    c.requires.variables ∙ ap (λ (x : Linked). x.variables) c.requires.program in
    let n = asm_step c.args.code.now c.args.cpu.now.state (option_copied c.args.reply) in
    let P : Seen → Type 0 = λ x. CallAdds x (Some Full) c.args.events.now c.add.new.self in
    let Q : Bool → Type 0 = λ b. IsAdded (seen c.event-event.result c.step-answer.new.bytes) b c.args.events.now c.add.new.self in
    let event = ap (λ x. seen x c.step-answer.new.bytes) c.event-event.ensures in
    adds_called v c.args.placed.now.layout.now p c.args.placed.now.addresses.now _ n c.args.cpu.now.state c.step-answer.new.self.state
    c.in-Called.call c.step-answer.new.bytes (Some Full) c.args.events.now c.add.new.self
    (sym c.fits-room.ensures ∙ c.if-not-room.false) c.in-Called.ensures.answer c.in-Called.ensures.read
    (subst (λ k. Hands k c.args.cpu.now.state n) count c.step-answer.ensures.hands)
    (subst P event (subst Q c.if-branch.false c.in_ok-add-in-Called.ensures))
