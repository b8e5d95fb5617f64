use Rattle.std.proofs.Common.{◌≡◌, ◌&&◌, drop}
use Rattle.std.specs.List.{list_any}
use Rattle.word_ops.specs.Ranges.{holds}
use Rattle.layout_model.specs.Layouts.{Area}
use Rattle.code_model.specs.SmallData.{is_register_of, is_in_small_data}
use Rattle.sda_match.proofs.area.is_in_small_data.Given as goal

abbrev pub invariant-loop-i : goal.invariant-loop-i
invariant-loop-i l =
    list_any (λ (area : Area). is_register_of l.r area.kind && holds l.a area.range) (drop l.i l.layout.areas)
    ≡ is_in_small_data l.layout l.r l.a
