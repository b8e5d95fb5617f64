use Rattle.std.proofs.Common.{◌≡◌}
use Rattle.std.specs.Prelude.{find}
use Rattle.image_model.specs.Image.{segments_of}
use Rattle.image_model.specs.Loaded.{covers}
use Rattle.elf_view.specs.Left.{segments_from}
use Rattle.elf_view.proofs.segment.segment_of.Given as goal

abbrev pub invariant-loop-i : goal.invariant-loop-i
invariant-loop-i l = find (covers l.a) (segments_of l.b) ≡ find (covers l.a) (segments_from l.b l.i)
