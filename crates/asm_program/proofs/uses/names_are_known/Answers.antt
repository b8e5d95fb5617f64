use Rattle.std.proofs.Common.{◌∙◌, ◌<◌, length, ap, subst, sym, arith}
use Rattle.ordered_tests.specs.Checks.{first_fault}
use Rattle.ordered_tests.specs.Steps.{all_pass}
use Rattle.std.specs.Prelude.{⊤}
use Rattle.ordered_tests.specs.Answers.{IsTold}
use Rattle.asm_syntax.specs.declared.unit.Unit.{Unit}
use Rattle.link_model.specs.LinkTests.{unit_name_tests, name_tests}
use Rattle.asm_program.specs.Faults.{told}
use Rattle.asm_program.proofs.UsedNames.{all_passed, one_failed}
use Rattle.asm_program.proofs.uses.names_are_known.Goals as goal

pub returns-in-Err : goal.returns-in-Err
returns-in-Err c =
    let units = c.args.units.now in let u = c.loop-u.u in let d = c.index-units-u.result in
    let lt : u < length units = omega arith in
    one_failed unit_name_tests units (first_fault (name_tests units)) (told c.in-Err.e) u d lt
    (subst (λ (unit : Unit). IsTold {T = ⊤} (told c.in-Err.e) (all_pass (unit_name_tests (u, unit)))) c.index-units-u.is c.in-Err.ensures)
    c.loop-u.invariant.left

pub loop-u-preserved : goal.loop-u-preserved
loop-u-preserved c =
    let units = c.args.units.now in let u = c.loop-u.u in let d = c.index-units-u.result in
    let lt : u < length units = omega arith in
    record {
      left = all_passed unit_name_tests units (first_fault (name_tests units)) u d lt
          (ap (λ (unit : Unit). all_pass (unit_name_tests (u, unit))) (sym c.index-units-u.is) ∙ c.in-Ok.ensures)
          c.loop-u.invariant.left;
    }
