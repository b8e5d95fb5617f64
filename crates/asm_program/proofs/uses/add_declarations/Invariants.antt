use Rattle.std.proofs.Common.{◌≡◌, ◌++◌, take, map}
use Rattle.asm_shapes.specs.Units.{external_name}
use Rattle.asm_program.proofs.uses.add_declarations.Given as goal

abbrev pub invariant-loop-external : goal.invariant-loop-external
invariant-loop-external l = record {
  names : l.names ≡ l.initial.names ++ map external_name (take l.external-index l.unit.externals);
}
