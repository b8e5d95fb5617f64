use Rattle.std.proofs.Common.{◌≡◌, ◌≤◌, ◌+◌, length}
use Rattle.image_model.specs.Image.{segments_of}
use Rattle.elf_view.specs.Left.{segments_from}
use Rattle.elf_view.proofs.segment.segment_count.Given as goal

abbrev pub invariant-loop-i : goal.invariant-loop-i
invariant-loop-i l = record { all : l.n + length (segments_from l.b l.i) ≡ length (segments_of l.b); most : l.n ≤ l.i }
