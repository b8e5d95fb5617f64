use Rattle.std.proofs.Common.{◌≡◌, ◌<◌, length}
use Rattle.std.specs.Prelude.{slice_get}
use Rattle.image_model.specs.Image.{segments_of}
use Rattle.elf_view.specs.Left.{segments_from}
use Rattle.elf_view.proofs.segment.segment.Given as goal

abbrev pub invariant-loop-i : goal.invariant-loop-i
invariant-loop-i l = record {
  same : slice_get (segments_of l.b) l.k ≡ slice_get (segments_from l.b l.i) l.left;
  within : l.left < length (segments_from l.b l.i);
}
