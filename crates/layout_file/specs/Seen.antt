-- Areas as a layout has them.
use Rattle.word_ops.specs.Seen.{extent_of}
use Rattle.layout_model.specs.Layouts as layouts
use Rattle.layout_file.specs.declared.area.Area.{Area}

abbrev pub area_seen : Area → layouts.Area
area_seen area = record { range = extent_of area.range; kind = area.kind }
