use Rattle.std.proofs.Common.{◌≡◌, length, drop, map}
use Rattle.serde_json.specs.View.{view}
use Rattle.json_tree.specs.Arrays.{each_from}
use Rattle.json_tree.specs.NewNames.{with_name, with_names, each_named}
use Rattle.json_tree.proofs.Items.{with_front}
use Rattle.json_tree.proofs.taken.read_each_named.Given as goal

abbrev pub invariant-loop-value : goal.invariant-loop-value
invariant-loop-value g l = record {
  count : length l.items.items ≡ l.value-index;
  names : l.taken ≡ with_names l.initial.taken (map g.P.ReadsNamed.name_of l.items.items);
  rest : with_front l.items.items (each_from (λ left x. with_name left (g.P.ReadsNamed.name_of x)) g.P.ReadsNamed.reads l.taken
      l.value-index (map view (drop l.value-index l.values))) ≡ each_named g.P.ReadsNamed.name_of g.P.ReadsNamed.reads l.initial.taken
      (map view l.values);
}
