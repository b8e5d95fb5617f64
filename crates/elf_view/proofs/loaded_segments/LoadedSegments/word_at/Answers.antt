use Rattle.std.proofs.Common.{rules, Some, sym, ap, ◌∙◌}
use Rattle.image_model.proofs.Holders.{held_word}
use Rattle.elf_view.specs.Views.{segment_seen}
use Rattle.elf_view.proofs.loaded_segments.LoadedSegments.word_at.Goals as goal

pub returns-then-has_word : goal.returns-then-has_word
returns-then-has_word c =
    ap (λ x. Some x) c.word.ensures
    ∙ sym (held_word c.args.self.now c.args.a (segment_seen c.in_ok-s.s) c.holder.ensures.loadable (search rules) (search rules))
