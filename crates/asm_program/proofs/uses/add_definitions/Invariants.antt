use Rattle.std.proofs.Common.{◌≡◌, ◌++◌, take, map}
use Rattle.asm_shapes.specs.Units.{function_name, variable_name}
use Rattle.asm_program.proofs.uses.add_definitions.Given as goal

abbrev pub invariant-loop-function : goal.invariant-loop-function
invariant-loop-function l = record {
  names : l.names ≡ l.initial.names ++ map function_name (take l.function-index l.unit.functions);
}

abbrev pub invariant-loop-variable : goal.invariant-loop-variable
invariant-loop-variable l = record {
  names : l.names ≡ l.initial.names ++ map variable_name (take l.variable-index l.unit.variables);
}
