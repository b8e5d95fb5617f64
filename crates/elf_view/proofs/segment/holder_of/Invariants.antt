use Rattle.std.proofs.Common.{◌≡◌}
use Rattle.std.specs.Prelude.{find}
use Rattle.image_model.specs.Image.{segments_of}
use Rattle.image_model.specs.Loaded.{holds_range}
use Rattle.elf_view.specs.Left.{segments_from}
use Rattle.elf_view.proofs.segment.holder_of.Given as goal

abbrev pub invariant-loop-i : goal.invariant-loop-i
invariant-loop-i l = find (holds_range l.lo l.hi) (segments_of l.b) ≡ find (holds_range l.lo l.hi) (segments_from l.b l.i)
