use Rattle.std.proofs.Common.{◌≡◌, [], drop, map}
use Rattle.serde_json.specs.View.{view}
use Rattle.layout_file.specs.LayoutTree.{pins_from}
use Rattle.layout_file.proofs.pins.read_each.Given as goal

abbrev pub invariant-loop-value : goal.invariant-loop-value
invariant-loop-value l = record {
  count : l.index ≡ l.value-index;
  rest : pins_from l.pins l.value-index (map view (drop l.value-index l.values)) ≡ pins_from [] 0 (map view l.values);
}
