use Rattle.std.proofs.Common.{◌≡◌, ap, sym, ◌∙◌, subst, List, Some}
use Rattle.asm_mem.specs.Blocks.{Live, newest}
use Rattle.asm_step.specs.Answers.{Acts}
use Rattle.asm_step.specs.State.{State, Next}
use Rattle.asm_step.proofs.Framing.{popped_numbers}
use Rattle.asm_step.proofs.machine.Machine.free_frame.Goals as goal

pub returns-in-Some-newest : goal.returns-in-Some-newest
returns-in-Some-newest c =
    let s = c.args.self.now in
    let P : Next → Type 0 = λ n. Acts n c.free_over.result s c.free_over.new.self in
    let live : s.live ≡ c.self.inside.blocks.live = ap (λ (t : State). t.live) (sym c.self.view_is) in
    let first : newest s.live 0 ≡ Some c.in-Some.k = ap (λ (ks : List Live). newest ks 0) live ∙ sym c.newest.ensures ∙ c.in-Some.is in
    let second : newest s.live 1 ≡ Some c.in-Some-newest.j = ap (λ (ks : List Live). newest ks 1) live ∙ sym c.newest-in-Some.ensures
    ∙ c.in-Some-newest.is in
    subst P (popped_numbers c.args.p.now c.args.f c.args.i s c.args.n s.live c.in-Some.k c.in-Some-newest.j first second)
    c.free_over.ensures
