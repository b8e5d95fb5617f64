use Rattle.std.proofs.Common.{◌≡◌, ◌&&◌, drop}
use Rattle.std.specs.List.{list_any}
use Rattle.word_ops.specs.Ranges.{is_inside}
use Rattle.word_ops.specs.Seen.{extent_of}
use Rattle.layout_model.specs.Layouts.{Area}
use Rattle.code_model.specs.Areas.{is_data_kind, is_in_one_area}
use Rattle.data_match.proofs.place.is_in_data_area.Given as goal

abbrev pub invariant-loop-i : goal.invariant-loop-i
invariant-loop-i l =
    list_any (λ (area : Area). is_data_kind l.writable area.kind && is_inside (extent_of l.range) area.range) (drop l.i l.layout.areas)
    ≡ is_in_one_area l.layout (is_data_kind l.writable) (extent_of l.range)
