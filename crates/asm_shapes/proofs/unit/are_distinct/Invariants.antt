use Rattle.std.proofs.Common.{◌≡◌, drop, map}
use Rattle.asm_shapes.specs.Units.{are_distinct}
use Rattle.asm_shapes.proofs.unit.are_distinct.Given as goal

abbrev pub invariant-loop-i : goal.invariant-loop-i
invariant-loop-i g l = are_distinct (map g.T.Named.name_of (drop l.i l.items)) ≡ are_distinct (map g.T.Named.name_of l.items)
