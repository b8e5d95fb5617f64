use Rattle.std.proofs.Common.{◌≡◌, drop}
use Rattle.std.specs.List.{list_all}
use Rattle.dump_writer.proofs.types.types_of_list.Given as goal

abbrev pub invariant-loop-item : goal.invariant-loop-item
invariant-loop-item g l = list_all g.T.Typed.is_typed (drop l.item-index l.items) ≡ list_all g.T.Typed.is_typed l.items
