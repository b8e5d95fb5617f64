use Rattle.std.proofs.Common.{◌≡◌, ◌≤◌, length, take}
use Rattle.symbol_index.specs.Index.{in_order}
use Rattle.symbol_bind.specs.Offers.{served}
use Rattle.symbol_bind.proofs.candidates.served.Given as goal

abbrev pub invariant-loop-place : goal.invariant-loop-place
invariant-loop-place l = record {
  values : l.values.items ≡ served l.name l.is_static (take l.place (in_order l.index));
  within : l.place ≤ length (in_order l.index);
}
