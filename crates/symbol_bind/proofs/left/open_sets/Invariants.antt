use Rattle.std.proofs.Common.{◌≡◌, length, take}
use Rattle.std.specs.List.{flat_map}
use Rattle.link_model.specs.Program.{keys}
use Rattle.link_model.specs.Uses.{key_uses}
use Rattle.name_addresses.specs.Given.{given}
use Rattle.symbol_bind.specs.Open.{AreOpen}
use Rattle.symbol_bind.proofs.left.open_sets.Given as goal

abbrev pub invariant-loop-k : goal.invariant-loop-k
invariant-loop-k g l = record {
  count : length l.sets.items ≡ l.count;
  noted : AreOpen l.layout
      (flat_map (key_uses (given l.segments l.layout (g.P.KeyedProgram.program l.program)))
      (take l.k (keys (g.P.KeyedProgram.program l.program).units))) l.sets.items;
}
