use Rattle.std.proofs.Common.{◌≡◌, false, ◌+◌, ◌&&◌, take}
use Rattle.std.specs.List.{list_any}
use Rattle.word_ops.specs.Ranges.{extent, is_inside}
use Rattle.layout_model.specs.Layouts.{Area}
use Rattle.code_model.specs.Areas.{is_code_kind}
use Rattle.coverage.proofs.kinds.is_in_code.Given as goal

abbrev pub invariant-loop-i : goal.invariant-loop-i
invariant-loop-i l =
    list_any (λ (area : Area). is_code_kind area.kind && is_inside (extent l.a (l.a + 4)) area.range) (take l.i l.layout.areas) ≡ false
