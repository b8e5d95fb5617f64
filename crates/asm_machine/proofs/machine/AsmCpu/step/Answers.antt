use Rattle.std.proofs.Common.{◌≡◌, ◌≤◌, ◌+◌, ℕ, max, ap, arith, sym, subst, ◌∙◌}
use Rattle.std.specs.Option.{option_copied}
use Rattle.std.proofs.Math.Nat.{le-max_right, max-eq_left}
use Rattle.asm_mem.specs.Blocks.{total}
use Rattle.asm_step.specs.State.{State}
use Rattle.asm_step.specs.Steps.{asm_step, frame_comes}
use Rattle.asm_machine.specs.Cpus.{Cpu, Hands}
use Rattle.asm_machine.specs.Stacks.{frame_cells}
use Rattle.asm_machine.proofs.Stacking.{stack_total}
use Rattle.asm_machine.proofs.Stepping.{hands_step, stack_step, unmoved}
use Rattle.asm_machine.proofs.machine.AsmCpu.step.Goals as goal

pub invariant_of-self : goal.invariant_of-self
invariant_of-self c =
    let s = c.self.inside in
    let t = c.advance-answer.new.machine in
    let count = ap (λ (x : Cpu). x.variables) c.self.view_is in
    let keeps = stack_step s.variables s.base c.args.p.now (option_copied c.args.reply)
    (frame_comes c.args.p.now s.machine.place) c.advance-answer.result
    s.machine t (c.requires.program ∙ sym count) c.self.invariant.next c.advance-answer.ensures.answer c.self.invariant.stack in
    let sum = stack_total s.variables s.base t.live keeps.0 in
    let least = le-max_right s.deepest c.saturating_sub-frames.result in
    record {
      stack = keeps.0;
      next = omega (arith, keeps.1, c.self.invariant.next);
      few = c.self.invariant.few;
      deep = omega (arith, sum, least, c.cells.ensures, c.saturating_sub-frames.ensures, c.max-self-inside.ensures);
    }

pub returns-clause-deepest : goal.returns-clause-deepest
returns-clause-deepest c =
    let s = c.self.inside in
    let t = c.advance-answer.new.machine in
    let count = ap (λ (x : Cpu). x.variables) c.self.view_is in
    let keeps = stack_step s.variables s.base c.args.p.now (option_copied c.args.reply)
    (frame_comes c.args.p.now s.machine.place) c.advance-answer.result
    s.machine t (c.requires.program ∙ sym count) c.self.invariant.next c.advance-answer.ensures.answer c.self.invariant.stack in
    let sum = stack_total s.variables s.base t.live keeps.0 in
    let frames : c.saturating_sub-frames.result ≡ frame_cells s.variables t.live =
    omega (arith, sum, c.cells.ensures, c.saturating_sub-frames.ensures) in
    let P : Cpu → Type 0 = λ x. c.max-self-inside.result ≡ max x.deepest (frame_cells x.variables t.live) in
    subst P c.self.view_is (c.max-self-inside.ensures ∙ ap (λ (n : ℕ). max s.deepest n) frames)

pub returns-clause-unchanged : goal.returns-clause-unchanged
returns-clause-unchanged c =
    λ stops.
    let s = c.self.inside in
    let t = c.advance-answer.new.machine in
    let same : t ≡ s.machine =
    unmoved (asm_step c.args.p.now s.machine (option_copied c.args.reply)) (frame_comes c.args.p.now s.machine.place)
    c.advance-answer.result s.machine t c.advance-answer.ensures.answer stops in
    let sum = stack_total s.variables s.base s.machine.live c.self.invariant.stack in
    let cells = ap (λ (x : State). total x.live) same in
    let few : c.saturating_sub-frames.result ≤ s.deepest =
    omega (arith, sum, cells, c.cells.ensures, c.saturating_sub-frames.ensures, c.self.invariant.deep) in
    let deepest : c.max-self-inside.result ≡ s.deepest = c.max-self-inside.ensures ∙ max-eq_left few in
    let made : State → ℕ → Cpu = λ x n. record { state = x; variables = s.variables; deepest = n } in
    ap (λ (x : State). made x c.max-self-inside.result) same ∙ ap (λ (n : ℕ). made s.machine n) deepest ∙ c.self.view_is

pub returns-clause-grows : goal.returns-clause-grows
returns-clause-grows c =
    let s = c.self.inside in
    let t = c.advance-answer.new.machine in
    let count = ap (λ (x : Cpu). x.variables) c.self.view_is in
    let keeps = stack_step s.variables s.base c.args.p.now (option_copied c.args.reply) (frame_comes c.args.p.now s.machine.place)
    c.advance-answer.result
    s.machine t (c.requires.program ∙ sym count) c.self.invariant.next c.advance-answer.ensures.answer c.self.invariant.stack in
    let P : Cpu → Type 0 = λ x. t.next ≤ x.state.next + 1 in
    subst P c.self.view_is keeps.2

pub returns-clause-hands : goal.returns-clause-hands
returns-clause-hands c =
    let s = c.self.inside in
    let count = ap (λ (x : Cpu). x.variables) c.self.view_is in
    let P : Cpu → Type 0 = λ x. Hands x.variables x.state (asm_step c.args.p.now x.state (option_copied c.args.reply)) in
    subst P c.self.view_is
    (hands_step s.variables c.args.p.now (option_copied c.args.reply) s.machine (c.requires.program ∙ sym count) c.self.invariant.next)
