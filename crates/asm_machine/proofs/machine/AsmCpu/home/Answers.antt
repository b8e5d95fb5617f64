use Rattle.std.proofs.Common.{◌≡◌, Some, arith, subst}
use Rattle.asm_mem.specs.Blocks.{total_from}
use Rattle.asm_machine.specs.declared.machine.Home.TheVariants as homes
use Rattle.asm_machine.specs.Cpus.{Cpu}
use Rattle.asm_machine.specs.Stacks.{home}
use Rattle.asm_machine.proofs.Stacking.{home_frame, home_variable}
use Rattle.asm_machine.proofs.machine.AsmCpu.home.Goals as goal

pub returns-then-block-self : goal.returns-then-block-self
returns-then-block-self c =
    let s = c.self.inside in
    let b = c.args.block in
    let found : total_from b s.machine.live ≡ Some c.in-Some.cells = cc in
    let P : Cpu → Type 0 = λ x. Some (homes.Variable b) ≡ home x.variables b x.state.live in
    subst P c.self.view_is (home_variable s.variables s.base b c.in-Some.cells s.machine.live c.self.invariant.stack found (omega arith))

pub returns-else-block-self : goal.returns-else-block-self
returns-else-block-self c =
    let s = c.self.inside in
    let b = c.args.block in
    let m = c.saturating_sub.result in
    let found : total_from b s.machine.live ≡ Some c.in-Some.cells = cc in
    let P : Cpu → Type 0 = λ x. Some (homes.Frame m) ≡ home x.variables b x.state.live in
    subst P c.self.view_is
    (home_frame s.variables s.base b c.in-Some.cells m s.machine.live c.self.invariant.stack found (omega arith)
    (omega (arith, c.saturating_sub.ensures)))
