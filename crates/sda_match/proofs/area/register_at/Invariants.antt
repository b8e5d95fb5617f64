use Rattle.std.proofs.Common.{◌≡◌, drop}
use Rattle.std.specs.List.{find}
use Rattle.word_ops.specs.Ranges.{holds}
use Rattle.layout_model.specs.Layouts.{Area}
use Rattle.sda_match.proofs.area.register_at.Given as goal

abbrev pub invariant-loop-i : goal.invariant-loop-i
invariant-loop-i l =
    find (λ (area : Area). holds l.a area.range) (drop l.i l.layout.areas)
    ≡ find (λ (area : Area). holds l.a area.range) l.layout.areas
