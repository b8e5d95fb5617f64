use Rattle.std.proofs.Common.{◌≡◌, ◌+◌, ℕ, suc, Some, None, length, ap, sym, subst, ◌∙◌, arith}
use Rattle.std.specs.Prelude.{slice_get}
use Rattle.std.specs.Option.{option_copied}
use Rattle.ppc_machine.specs.Answers.{step_from}
use Rattle.ppc_machine.specs.Externals.{external_at}
use Rattle.ppc_machine.specs.State.{FlatState, state}
use Rattle.ppc_machine.specs.Steps.{flat_step}
use Rattle.machine_runs.specs.Steps.{FlatAdds}
use Rattle.machine_runs.proofs.FlatAdvances.{ends_so, stays}
use Rattle.machine_runs.proofs.FlatRunning.{IsAfter, going}
use Rattle.machine_runs.proofs.image_run.trace_from.Goals as goal

pub returns-in-Some : goal.returns-in-Some
returns-in-Some c =
    let t : FlatState = state c.loop-i.cpu.processor c.loop-i.mem in
    let out = external_at c.args.ext.now in
    let first : FlatState = state c.args.cpu.now.processor c.args.mem.now in
    let n = step_from c.loop-i.cpu c.args.ext.now (option_copied c.reply_at-reply.result) t in
    let reply = c.reply_at-reply.ensures ∙ ap (slice_get c.args.replies.now) c.count.ensures in
    let here : n ≡ flat_step c.args.cpu.now.stop t (out t.pc) (slice_get c.args.replies.now (length c.loop-i.events)) =
    ap (λ s. flat_step s t (out t.pc) (option_copied c.reply_at-reply.result)) c.loop-i.invariant.stop
    ∙ ap (flat_step c.args.cpu.now.stop t (out t.pc)) reply in
    let adds : FlatAdds n (Some c.in-Some.outcome) c.loop-i.events c.advance.new.events =
    subst (λ o. FlatAdds n o c.loop-i.events c.advance.new.events) c.in-Some.is c.in_ok-advance.ensures.events in
    c.ends.ensures.trace
    ∙ ends_so c.args.cpu.now.stop out first c.args.replies.now c.loop-i.i t c.loop-i.events c.loop-i.invariant.after n (sym here)
    c.in-Some.outcome c.advance.new.events c.args.steps (omega (arith, c.loop-i-test.true)) adds

pub loop-i-preserved : goal.loop-i-preserved
loop-i-preserved c =
    let t : FlatState = state c.loop-i.cpu.processor c.loop-i.mem in
    let u : FlatState = state c.advance.new.cpu.processor c.advance.new.mem in
    let out = external_at c.args.ext.now in
    let first : FlatState = state c.args.cpu.now.processor c.args.mem.now in
    let n = step_from c.loop-i.cpu c.args.ext.now (option_copied c.reply_at-reply.result) t in
    let reply = c.reply_at-reply.ensures ∙ ap (slice_get c.args.replies.now) c.count.ensures in
    let here : n ≡ flat_step c.args.cpu.now.stop t (out t.pc) (slice_get c.args.replies.now (length c.loop-i.events)) =
    ap (λ s. flat_step s t (out t.pc) (option_copied c.reply_at-reply.result)) c.loop-i.invariant.stop
    ∙ ap (flat_step c.args.cpu.now.stop t (out t.pc)) reply in
    let adds : FlatAdds n None c.loop-i.events c.advance.new.events =
    subst (λ o. FlatAdds n o c.loop-i.events c.advance.new.events) c.in-None.is c.in_ok-advance.ensures.events in
    let next : suc c.loop-i.i ≡ c.loop-i.i + 1 = omega arith in
    let P : ℕ → Type 0 = λ k. IsAfter c.args.cpu.now.stop out first c.args.replies.now k u c.advance.new.events in
    record {
      after = subst P next (stays c.args.cpu.now.stop out first c.args.replies.now c.loop-i.i t c.loop-i.events c.loop-i.invariant.after n
          (sym here) u c.advance.new.events c.in_ok-advance.ensures.state adds);
      stop = c.in_ok-advance.ensures.stop ∙ c.loop-i.invariant.stop;
    }

pub returns : goal.returns
returns c =
    let t : FlatState = state c.loop-i.cpu.processor c.loop-i.mem in
    let out = external_at c.args.ext.now in
    let first : FlatState = state c.args.cpu.now.processor c.args.mem.now in
    let last : c.loop-i.i ≡ c.args.steps = omega (arith, c.loop-i-test.false, c.loop-i.auto.i-end) in
    let P : ℕ → Type 0 = λ k. IsAfter c.args.cpu.now.stop out first c.args.replies.now k t c.loop-i.events in
    c.ends-2.ensures.trace
    ∙ going c.args.cpu.now.stop out first c.args.replies.now c.args.steps t c.loop-i.events (subst P last c.loop-i.invariant.after)
