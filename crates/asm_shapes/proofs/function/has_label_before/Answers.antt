use Rattle.std.proofs.Common.{refl}
use Rattle.asm_shapes.proofs.LabelLemmas.{label_before}
use Rattle.asm_shapes.proofs.function.has_label_before.Goals as goal

pub returns-in-Some : goal.returns-in-Some
returns-in-Some g c =
    rw (label_before (g.C.Labelled.code c.args.code.now) c.args.at c.args.label, ← c.place.ensures, c.in-Some.is) refl

pub returns-in-None : goal.returns-in-None
returns-in-None g c =
    rw (label_before (g.C.Labelled.code c.args.code.now) c.args.at c.args.label, ← c.place.ensures, c.in-None.is) refl
