use Rattle.std.proofs.Common.{◌≡◌, ℕ, length, map, take, Some, None}
use Rattle.ordered_tests.specs.Checks.{first_fault}
use Rattle.image_model.specs.Image.{Image}
use Rattle.link_model.specs.Binding.{bind_tests, binding}
use Rattle.link_model.specs.Program.{keys}
use Rattle.link_model.specs.Uses.{all_uses}
use Rattle.name_addresses.specs.Given.{given}
use Rattle.symbol_bind.specs.Offers.{all_offered}
use Rattle.symbol_bind.specs.Open.{AreOpen}
use Rattle.symbol_bind.proofs.bind.settle_all.Given as goal

abbrev pub invariant-loop-k : goal.invariant-loop-k
invariant-loop-k g l = record {
  count : length l.addresses.items ≡ l.k;
  bound : (v : Image) → l.offers ≡ all_offered v.symbols (keys (g.P.KeyedProgram.program l.program).units)
      → AreOpen l.layout (all_uses (given v l.layout (g.P.KeyedProgram.program l.program))) l.sets
      → map (λ (a : ℕ). Some a) l.addresses.items ≡ take l.k (binding (given v l.layout (g.P.KeyedProgram.program l.program)));
  passed : (v : Image) → l.offers ≡ all_offered v.symbols (keys (g.P.KeyedProgram.program l.program).units)
      → AreOpen l.layout (all_uses (given v l.layout (g.P.KeyedProgram.program l.program))) l.sets
      → first_fault (take l.k (bind_tests (given v l.layout (g.P.KeyedProgram.program l.program)))) ≡ None;
}
