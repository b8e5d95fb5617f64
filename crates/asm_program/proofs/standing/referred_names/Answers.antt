use Rattle.std.proofs.Common.{◌∙◌, ◌<◌, length, ap, arith}
use Rattle.std.proofs.Math.Seq.{take_all}
use Rattle.std.specs.List.{list_any}
use Rattle.asm_program.specs.Standing.{uses_external}
use Rattle.asm_program.proofs.StandingNames.{units_more, referred_is}
use Rattle.asm_program.proofs.standing.referred_names.Goals as goal

pub returns : goal.returns
returns c = λ v.
    let units = c.args.units.now in
    c.loop-unit.invariant.set v
    ∙ (ap (list_any (uses_external v)) (take_all c.loop-unit.unit-index units c.loop-unit-test.false) ∙ referred_is units v)

pub loop-unit-preserved : goal.loop-unit-preserved
loop-unit-preserved c =
    let lt : c.loop-unit.unit-index < length c.args.units.now = omega arith in
    record {
      set = λ v. units_more v c.loop-unit.referred c.add_unit.new.referred c.args.units.now c.loop-unit.unit-index c.unit-item.result lt
          c.unit-item.is (c.loop-unit.invariant.set v) (c.in_ok-add_unit.ensures v);
    }
