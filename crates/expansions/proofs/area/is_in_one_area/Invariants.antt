use Rattle.std.proofs.Common.{◌≡◌, ◌&&◌, drop}
use Rattle.std.specs.List.{list_any}
use Rattle.word_ops.specs.Ranges.{extent, is_inside}
use Rattle.layout_model.specs.Layouts.{Area}
use Rattle.code_model.specs.Areas.{is_in_one_area}
use Rattle.expansions.specs.Parts.{is_kind_of}
use Rattle.expansions.proofs.area.is_in_one_area.Given as goal

abbrev pub invariant-loop-i : goal.invariant-loop-i
invariant-loop-i l =
    list_any (λ (area : Area). is_kind_of l.part area.kind && is_inside (extent l.lo l.hi) area.range) (drop l.i l.layout.areas)
    ≡ is_in_one_area l.layout (is_kind_of l.part) (extent l.lo l.hi)
