use Rattle.std.proofs.Common.{◌≡◌, ◌++◌, take}
use Rattle.std.specs.List.{flat_map}
use Rattle.link_model.specs.Program.{function_names, variable_names}
use Rattle.asm_program.proofs.uses.names_used.Given as goal

abbrev pub invariant-loop-function : goal.invariant-loop-function
invariant-loop-function l = record {
  names : l.names ≡ l.initial.names ++ flat_map function_names (take l.function-index l.unit.functions);
}

abbrev pub invariant-loop-variable : goal.invariant-loop-variable
invariant-loop-variable l = record {
  names : l.names ≡ flat_map function_names l.unit.functions ++ flat_map variable_names (take l.variable-index l.unit.variables);
}
