use Rattle.std.proofs.Common.{◌≡◌, ℕ, map, take}
use Rattle.ordered_tests.specs.Checks.{check, first_fault}
use Rattle.asm_syntax.specs.declared.unit.Unit.{Unit}
use Rattle.link_model.specs.declared.link_error.LinkError.TheVariants.{UnitTwice}
use Rattle.link_model.specs.LinkTests.{is_new_unit, unit_tests}
use Rattle.asm_program.proofs.Places.{fault_from}
use Rattle.asm_program.proofs.NameSets.{AreNames}
use Rattle.asm_program.proofs.UnitNames.{name}
use Rattle.asm_program.proofs.units.units_are_new.Given as goal

abbrev pub invariant-loop-i : goal.invariant-loop-i
invariant-loop-i l = record {
  seen : AreNames l.seen (map name (take l.i l.units));
  left : fault_from (λ (u : ℕ × Unit). check (is_new_unit l.units u) (UnitTwice u.0)) l.units l.i ≡ first_fault (unit_tests l.units);
}
