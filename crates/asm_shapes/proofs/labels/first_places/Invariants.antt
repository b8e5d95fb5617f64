use Rattle.asm_shapes.specs.Labels.{Places}
use Rattle.asm_shapes.proofs.labels.first_places.Given as goal

abbrev pub invariant-loop-at : goal.invariant-loop-at
invariant-loop-at l = Places l.code l.at l.places
