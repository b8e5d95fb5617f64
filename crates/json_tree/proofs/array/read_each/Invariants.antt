use Rattle.std.proofs.Common.{◌≡◌, length, drop, map}
use Rattle.serde_json.specs.View.{view}
use Rattle.json_tree.specs.Arrays.{each, each_from}
use Rattle.json_tree.proofs.Items.{with_front}
use Rattle.json_tree.proofs.array.read_each.Given as goal

abbrev pub invariant-loop-value : goal.invariant-loop-value
invariant-loop-value g l = record {
  count : length l.items.items ≡ l.value-index;
  rest : with_front l.items.items (each_from {S = Unit {0}} (λ left x. left) (λ left. g.P.Reads.reads) tt l.value-index
      (map view (drop l.value-index l.values))) ≡ each g.P.Reads.reads (map view l.values);
}
