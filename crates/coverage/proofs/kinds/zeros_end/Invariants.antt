use Rattle.elf_view.specs.Views.{segment_seen}
use Rattle.coverage.specs.Kinds.{AreZero}
use Rattle.coverage.proofs.kinds.zeros_end.Given as goal

abbrev pub invariant-loop-b : goal.invariant-loop-b
invariant-loop-b l = AreZero (segment_seen l.segment) l.a l.b
