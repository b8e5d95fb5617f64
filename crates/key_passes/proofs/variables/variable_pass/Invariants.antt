use Rattle.std.proofs.Common.{◌≡◌, ◌++◌}
use Rattle.std.specs.List.{flat_map}
use Rattle.ordered_tests.specs.Checks.{first_fault}
use Rattle.link_model.specs.Program.{keys}
use Rattle.link_model.specs.Candidates.{Inputs}
use Rattle.link_model.specs.Binding.{numbered_keys}
use Rattle.link_model.specs.Claims.{key_variables}
use Rattle.link_model.specs.Passes.{variable_pass}
use Rattle.name_addresses.specs.Given.{given}
use Rattle.key_passes.proofs.Walks.{given_from, faults_from, variable_tests}
use Rattle.key_passes.proofs.variables.variable_pass.Given as goal

abbrev pub invariant-loop-k : goal.invariant-loop-k
invariant-loop-k g l = record {
  places : (let i : Inputs = given l.bound.segments.now l.bound.layout.now (g.P.KeyedProgram.program l.bound.program.now) in
      faults_from i (variable_tests i l.bound.addresses.now) l.k ≡ first_fault (variable_pass i l.bound.addresses.now));
  claims : (let i : Inputs = given l.bound.segments.now l.bound.layout.now (g.P.KeyedProgram.program l.bound.program.now) in
      l.claims ++ given_from (key_variables i l.bound.addresses.now) (keys i.program.units) l.k
      ≡ l.fn.claims ++ flat_map (key_variables i l.bound.addresses.now) (numbered_keys i));
}
