-- A range as contracts see it.
use Rattle.word_ops.specs.declared.range.Range.{Range}
use Rattle.word_ops.specs.Ranges.{Extent, extent}

abbrev pub extent_of : Range → Extent
extent_of range = extent range.lo range.hi
