use Rattle.std.proofs.Common.{◌∙◌, ◌∷◌, []}
use Rattle.std.specs.Prelude.{codes}
use Rattle.isa_model.specs.Word.{word_digits}
use Rattle.text_model.specs.Lines.{line}
use Rattle.show_text.specs.Show.{segment_text}
use Rattle.show_text.proofs.TextLemmas.{one_more}
use Rattle.show_text.proofs.show.head_text.Goals as goal

pub loop-i-preserved : goal.loop-i-preserved
loop-i-preserved c =
    c.in_ok-push_segment.ensures
    ∙ one_more segment_text (line (codes "entry" ∷ word_digits c.args.view.now.entry ∷ [])) _ c.args.view.now.segments c.loop-i.i _
    c.segment.ensures.shown c.loop-i.invariant
