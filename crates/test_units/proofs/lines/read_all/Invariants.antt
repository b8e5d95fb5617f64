use Rattle.std.proofs.Common.{◌≡◌, true}
use Rattle.std.specs.List.{list_all}
use Rattle.asm_shapes.specs.Units.{unit_fits}
use Rattle.test_units.proofs.lines.read_all.Given as goal

abbrev pub invariant-loop-text : goal.invariant-loop-text
invariant-loop-text l = list_all unit_fits l.units.items ≡ true
