use Rattle.std.proofs.Common.{◌≡◌, drop, map}
use Rattle.asm_shapes.specs.Units.{are_apart}
use Rattle.asm_shapes.proofs.unit.are_apart.Given as goal

abbrev pub invariant-loop-item : goal.invariant-loop-item
invariant-loop-item g l =
    are_apart (map g.T.Named.name_of (drop l.item-index l.items)) (map g.U.Named.name_of l.others)
    ≡ are_apart (map g.T.Named.name_of l.items) (map g.U.Named.name_of l.others)
