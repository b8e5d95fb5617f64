use Rattle.std.proofs.Common.{arith, sym, subst}
use Rattle.asm_syntax.specs.declared.instr.Instr.{Instr}
use Rattle.std.proofs.Common.{List}
use Rattle.asm_shapes.specs.Shapes.{HasShape}
use Rattle.asm_step.proofs.Fitting.{index_fits}
use Rattle.asm_step.proofs.executable.IndexedRoutine.instruction.Goals as goal

pub returns-then-i-code-clause-fits : goal.returns-then-i-code-clause-fits
returns-then-i-code-clause-fits c =
    let P : List Instr → Type 0 = λ code. HasShape code in
    index_fits c.code-code.result.now c.args.i c.index-code-i.result (subst P (sym c.code-code.ensures) c.self.invariant.0)
    (omega arith) c.index-code-i.is
