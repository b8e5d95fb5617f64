use Rattle.std.proofs.Common.{◌≡◌, true, length, drop}
use Rattle.std.specs.List.{list_all}
use Rattle.asm_shapes.specs.Units.{unit_fits}
use Rattle.judge_model.specs.Judge.{units_in}
use Rattle.simulation.specs.Judged.{contents}
use Rattle.simulation.specs.Units.{behind}
use Rattle.simulation.proofs.inputs.read_units.Given as goal

abbrev pub invariant-loop-u : goal.invariant-loop-u
invariant-loop-u l = record {
  read : behind l.units.items (units_in l.u (contents (drop l.u l.files))) ≡ units_in 0 (contents l.files);
  count : length l.units.items ≡ l.u;
  fit : list_all unit_fits l.units.items ≡ true;
}
