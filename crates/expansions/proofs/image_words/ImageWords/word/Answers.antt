use Rattle.std.proofs.Common.{rules, sym, ◌∙◌, ap, Some}
use Rattle.elf_view.specs.Views.{segment_seen}
use Rattle.image_model.proofs.Holders.{near_word}
use Rattle.expansions.proofs.image_words.ImageWords.word.Goals as goal

pub returns-then-has_word : goal.returns-then-has_word
returns-then-has_word c =
    ap (λ x. Some x) c.word.ensures
    ∙ sym (near_word c.args.self.now c.self.inside.home c.args.a (segment_seen c.in-Some.near) (search rules) (search rules)
    (search rules) (search rules))
