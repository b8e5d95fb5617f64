use Rattle.std.proofs.Common.{◌≡◌, ◌++◌, take, map}
use Rattle.link_model.specs.Program.{OfFunction, OfVariable, OfExternal}
use Rattle.asm_program.specs.Seen.{declaration_seen}
use Rattle.asm_program.proofs.declared.add_unit.Given as goal

abbrev pub invariant-loop-function : goal.invariant-loop-function
invariant-loop-function l = record {
  list : map declaration_seen l.list.items ≡ map declaration_seen l.initial.list.items
      ++ map (λ f. record { unit = l.u; item = OfFunction f }) (take l.function-index l.unit.functions);
}

abbrev pub invariant-loop-variable : goal.invariant-loop-variable
invariant-loop-variable l = record {
  list : map declaration_seen l.list.items ≡ map declaration_seen l.initial.list.items
      ++ map (λ x. record { unit = l.u; item = OfVariable x }) (take l.variable-index l.unit.variables);
}

abbrev pub invariant-loop-external : goal.invariant-loop-external
invariant-loop-external l = record {
  list : map declaration_seen l.list.items ≡ map declaration_seen l.initial.list.items
      ++ map (λ x. record { unit = l.u; item = OfExternal x }) (take l.external-index l.unit.externals);
}
