use Rattle.std.proofs.Common.{◌<◌, ◌∙◌, ℕ, length, ap, arith}
use Rattle.std.specs.Prelude.{not}
use Rattle.ordered_tests.specs.Checks.{check, first_fault}
use Rattle.asm_syntax.specs.declared.unit.Unit.{Unit}
use Rattle.link_model.specs.declared.link_error.LinkError.TheVariants.{UnitTwice}
use Rattle.link_model.specs.LinkTests.{is_new_unit, unit_tests}
use Rattle.asm_program.proofs.Places.{place_passes, place_fails}
use Rattle.asm_program.proofs.UnitNames.{new_at, seen_more}
use Rattle.asm_program.proofs.units.units_are_new.Goals as goal

pub returns-then-contains : goal.returns-then-contains
returns-then-contains c =
    let units = c.args.units.now in let i = c.loop-i.i in let u = c.index-units-i.result in
    place_fails (λ (u : ℕ × Unit). check (is_new_unit units u) (UnitTwice u.0)) units (first_fault (unit_tests units)) i u (omega arith)
    (new_at units i u c.loop-i.seen c.bytes-name.result.now c.contains.result c.index-units-i.is c.bytes-name.ensures.text
    c.loop-i.invariant.seen c.contains.ensures
    ∙ ap not c.if-contains.true)
    c.loop-i.invariant.left

pub loop-i-preserved : goal.loop-i-preserved
loop-i-preserved c =
    let units = c.args.units.now in let i = c.loop-i.i in let u = c.index-units-i.result in
    let lt : i < length units = omega arith in
    record {
      seen = λ v. c.in-Ok.ensures v
          ∙ seen_more v units i u c.loop-i.seen c.bytes-name.result.now lt c.index-units-i.is c.bytes-name.ensures.text
          c.loop-i.invariant.seen;
      left = place_passes (λ (u : ℕ × Unit). check (is_new_unit units u) (UnitTwice u.0)) units (first_fault (unit_tests units)) i u lt
          (new_at units i u c.loop-i.seen c.bytes-name.result.now c.contains.result c.index-units-i.is c.bytes-name.ensures.text
          c.loop-i.invariant.seen c.contains.ensures
          ∙ ap not c.if-contains.false)
          c.loop-i.invariant.left;
    }
