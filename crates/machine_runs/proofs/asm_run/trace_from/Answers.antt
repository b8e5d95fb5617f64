use Rattle.std.proofs.Common.{◌≡◌, ◌+◌, ℕ, suc, max, List, Some, None, ap, sym, subst, refl, ◌∙◌, arith}
use Rattle.std.specs.Prelude.{slice_get}
use Rattle.std.specs.Option.{option_copied}
use Rattle.name_addresses.specs.Given.{given}
use Rattle.asm_step.specs.Steps.{asm_step}
use Rattle.asm_machine.specs.Stacks.{frame_cells}
use Rattle.machine_runs.specs.declared.trace.Seen.{Seen}
use Rattle.machine_runs.specs.Steps.{AsmFits}
use Rattle.machine_runs.specs.Traces.{asm_seen, stack_size}
use Rattle.machine_runs.proofs.AsmAdvances.{ends_so, stays}
use Rattle.machine_runs.proofs.AsmRunning.{IsAfter, at_first, going}
use Rattle.machine_runs.proofs.asm_run.trace_from.Goals as goal

pub loop-i-init : goal.loop-i-init
loop-i-init c = record {
  after = λ v.
      let show = asm_seen (given v c.args.placed.now.layout.now c.args.placed.now.program.now) c.args.placed.now.addresses.now in
      let size = stack_size c.args.placed.now.layout.now in
      let count = c.requires.none ∙ ap (λ k. frame_cells k c.args.cpu.now.state.live) c.requires.variables in
      let P : List Seen → Type 0 = λ es. IsAfter c.args.code.now show size c.args.cpu.now.state c.args.replies.now 0 c.args.cpu.now.state
      c.args.cpu.now.deepest es in
      subst P (sym c.new-events.ensures) (at_first c.args.code.now show size c.args.cpu.now.state c.args.replies.now
      c.args.cpu.now.deepest count c.requires.room);
  variables = refl;
  blocks = omega arith;
}

pub returns-in-Some : goal.returns-in-Some
returns-in-Some c =
    λ v.
    let show = asm_seen (given v c.args.placed.now.layout.now c.args.placed.now.program.now) c.args.placed.now.addresses.now in
    let size = stack_size c.args.placed.now.layout.now in
    let n = asm_step c.args.code.now c.loop-i.cpu.state (option_copied c.reply_at-reply.result) in
    let reply = c.reply_at-reply.ensures ∙ ap (slice_get c.args.replies.now) c.count.ensures in
    let here = ap (asm_step c.args.code.now c.loop-i.cpu.state) reply in
    let count = c.loop-i.invariant.variables ∙ c.requires.variables in
    let deep = c.in_ok-advance.ensures.deepest ∙ ap (λ k. max c.loop-i.cpu.deepest (frame_cells k c.advance.new.cpu.state.live)) count in
    let adds : AsmFits show size c.advance.new.cpu.deepest c.loop-i.cpu.state n (Some c.in-Some.outcome) c.loop-i.events
    c.advance.new.events =
    subst (λ o. AsmFits show size c.advance.new.cpu.deepest c.loop-i.cpu.state n o c.loop-i.events c.advance.new.events) c.in-Some.is
    (c.in_ok-advance.ensures.events v) in
    c.ends.ensures.trace
    ∙ ends_so c.args.code.now show size c.args.cpu.now.state c.args.replies.now c.loop-i.i c.loop-i.cpu.state c.loop-i.cpu.deepest
    c.loop-i.events
    (c.loop-i.invariant.after v) n (sym here) c.in-Some.outcome c.advance.new.cpu.state c.advance.new.cpu.deepest c.advance.new.events
    c.args.steps
    (omega (arith, c.loop-i-test.true)) c.in_ok-advance.ensures.state deep adds

pub loop-i-preserved : goal.loop-i-preserved
loop-i-preserved c =
    let size = stack_size c.args.placed.now.layout.now in
    let n = asm_step c.args.code.now c.loop-i.cpu.state (option_copied c.reply_at-reply.result) in
    let reply = c.reply_at-reply.ensures ∙ ap (slice_get c.args.replies.now) c.count.ensures in
    let here = ap (asm_step c.args.code.now c.loop-i.cpu.state) reply in
    let count = c.loop-i.invariant.variables ∙ c.requires.variables in
    let deep = c.in_ok-advance.ensures.deepest ∙ ap (λ k. max c.loop-i.cpu.deepest (frame_cells k c.advance.new.cpu.state.live)) count in
    let next : suc c.loop-i.i ≡ c.loop-i.i + 1 = omega arith in
    record {
      after = λ v.
          let show = asm_seen (given v c.args.placed.now.layout.now c.args.placed.now.program.now) c.args.placed.now.addresses.now in
          let adds : AsmFits show size c.advance.new.cpu.deepest c.loop-i.cpu.state n None c.loop-i.events c.advance.new.events =
          subst (λ o. AsmFits show size c.advance.new.cpu.deepest c.loop-i.cpu.state n o c.loop-i.events c.advance.new.events) c.in-None.is
          (c.in_ok-advance.ensures.events v) in
          let P : ℕ → Type 0 = λ k. IsAfter c.args.code.now show size c.args.cpu.now.state c.args.replies.now k c.advance.new.cpu.state
          c.advance.new.cpu.deepest c.advance.new.events in
          subst P next (stays c.args.code.now show size c.args.cpu.now.state c.args.replies.now c.loop-i.i c.loop-i.cpu.state
          c.loop-i.cpu.deepest
          c.loop-i.events (c.loop-i.invariant.after v) n (sym here) c.advance.new.cpu.state c.advance.new.cpu.deepest c.advance.new.events
          c.in_ok-advance.ensures.state deep adds);
      variables = c.in_ok-advance.ensures.variables ∙ c.loop-i.invariant.variables;
      blocks = omega (arith, c.in_ok-advance.ensures.grows, c.loop-i.invariant.blocks);
    }

pub returns : goal.returns
returns c =
    λ v.
    let show = asm_seen (given v c.args.placed.now.layout.now c.args.placed.now.program.now) c.args.placed.now.addresses.now in
    let size = stack_size c.args.placed.now.layout.now in
    let last : c.loop-i.i ≡ c.args.steps = omega (arith, c.loop-i-test.false, c.loop-i.auto.i-end) in
    let P : ℕ → Type 0 = λ k. IsAfter c.args.code.now show size c.args.cpu.now.state c.args.replies.now k c.loop-i.cpu.state
    c.loop-i.cpu.deepest c.loop-i.events in
    c.ends-2.ensures.trace
    ∙ going c.args.code.now show size c.args.cpu.now.state c.args.replies.now c.args.steps c.loop-i.cpu.state c.loop-i.cpu.deepest
    c.loop-i.events
    (subst P last (c.loop-i.invariant.after v))
