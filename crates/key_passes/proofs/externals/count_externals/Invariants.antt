use Rattle.std.proofs.Common.{◌≡◌, ◌+◌, ◌≤◌, length, drop}
use Rattle.std.specs.List.{flat_map}
use Rattle.link_model.specs.Program.{keys}
use Rattle.link_model.specs.Numbers.{externals}
use Rattle.key_passes.proofs.Walks.{declared_externals}
use Rattle.key_passes.proofs.externals.count_externals.Given as goal

abbrev pub invariant-loop-k : goal.invariant-loop-k
invariant-loop-k g l = record {
  near : l.count ≤ l.k;
  counted : l.count + length (flat_map declared_externals (drop l.k (keys (g.P.KeyedProgram.program l.program).units)))
      ≡ length (externals (g.P.KeyedProgram.program l.program).units);
}
