use Rattle.std.proofs.Common.{◌≡◌, ◌++◌, map, take}
use Rattle.word_ops.specs.Seen.{extent_of}
use Rattle.layout_file.proofs.layout.push_spans.Given as goal

abbrev pub invariant-loop-span : goal.invariant-loop-span
invariant-loop-span l = map extent_of l.ranges.items ≡ map extent_of l.initial.ranges.items ++ take l.span-index l.spans
