use Rattle.std.proofs.Common.{◌≡◌, Some, sym, arith}
use Rattle.ordered_tests.specs.Checks.{first_fault}
use Rattle.asm_shapes.specs.Shapes.{instr_tests, place_tests}
use Rattle.asm_shapes.proofs.ShapeLemmas.{numbered_place_fails}
use Rattle.asm_shapes.proofs.function.check_code.Goals as goal

pub returns-in_err-check_instr : goal.returns-in_err-check_instr
returns-in_err-check_instr g c =
    let fault = c.in_err-check_instr.field-0.0 in
    let code = g.C.Labelled.code c.args.code.now in
    let here : first_fault (instr_tests code c.loop-at.at c.index-instrs-at.result) ≡ Some fault = sym c.in_err-check_instr.ensures in
    let all = numbered_place_fails (place_tests code) c.code-instrs.result.now c.loop-at.at c.index-instrs-at.result fault
    (omega arith) c.index-instrs-at.is here in
    grind (arith, all)
