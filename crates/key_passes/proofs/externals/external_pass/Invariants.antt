use Rattle.std.proofs.Common.{◌≡◌}
use Rattle.std.specs.Ordering.{nat_cmp}
use Rattle.std.specs.BTreeSet.{contains}
use Rattle.ordered_tests.specs.Checks.{first_fault}
use Rattle.link_model.specs.Candidates.{Inputs}
use Rattle.link_model.specs.Passes.{external_pass}
use Rattle.name_addresses.specs.Given.{given}
use Rattle.key_passes.specs.Externals.{AreSeen}
use Rattle.key_passes.proofs.Walks.{faults_from, external_tests}
use Rattle.key_passes.proofs.externals.external_pass.Given as goal

abbrev pub invariant-loop-k : goal.invariant-loop-k
invariant-loop-k g l = record {
  places : (let i : Inputs = given l.bound.segments.now l.bound.layout.now (g.P.KeyedProgram.program l.bound.program.now) in
      faults_from i (external_tests i l.bound.addresses.now) l.k ≡ first_fault (external_pass i l.bound.addresses.now));
  seen : (let i : Inputs = given l.bound.segments.now l.bound.layout.now (g.P.KeyedProgram.program l.bound.program.now) in
      AreSeen i l.bound.addresses.now l.k (contains nat_cmp l.seen));
}
