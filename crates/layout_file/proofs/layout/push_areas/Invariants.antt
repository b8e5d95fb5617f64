use Rattle.std.proofs.Common.{◌≡◌, ◌++◌, map, take}
use Rattle.word_ops.specs.Seen.{extent_of}
use Rattle.layout_file.proofs.layout.push_areas.Given as goal

abbrev pub invariant-loop-area : goal.invariant-loop-area
invariant-loop-area l = map extent_of l.ranges.items ≡ map extent_of l.initial.ranges.items ++ map (λ area. area.range)
    (take l.area-index l.areas)
