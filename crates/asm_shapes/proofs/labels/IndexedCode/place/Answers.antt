use Rattle.std.proofs.Common.{◌∙◌, sym}
use Rattle.std.proofs.lemmas.Iterator.Adapters.{position_from-zero}
use Rattle.asm_syntax.specs.Instructions.{is_label}
use Rattle.asm_shapes.proofs.LabelLemmas.{place_inside}
use Rattle.asm_shapes.proofs.labels.IndexedCode.place.Goals as goal

pub returns-clause-value : goal.returns-clause-value
returns-clause-value c =
    rw (← c.self.view_is) (c.copied.ensures ∙ c.get.ensures.value ∙ c.self.invariant c.args.label
    ∙ sym (position_from-zero (is_label c.args.label) c.self.inside.code.now))

pub returns-clause-inside : goal.returns-clause-inside
returns-clause-inside c = place_inside c.args.self.now c.args.label c.copied.result (returns-clause-value c)
