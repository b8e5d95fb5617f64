use Rattle.std.proofs.Common.{◌∙◌, ◌+◌, ◌*◌, arith}
use Rattle.show_text.specs.Show.{head_text, word_text}
use Rattle.show_text.proofs.TextLemmas.{one_more_number}
use Rattle.show_text.proofs.show.show_text.Goals as goal

pub loop-k-preserved : goal.loop-k-preserved
loop-k-preserved c =
    c.in_ok-push_word.ensures
    ∙ one_more_number (word_text c.args.view.now) (λ k. c.args.address + 4 * k) (head_text c.args.view.now) _ c.loop-k.k _ (omega arith)
    c.loop-k.invariant
