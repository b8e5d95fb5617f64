use Rattle.std.proofs.Common.{◌≡◌, ◌++◌, ◌∷◌, [], take, string_bytes}
use Rattle.std.specs.Prelude.{codes}
use Rattle.std.specs.List.{flat_map}
use Rattle.isa_model.specs.Word.{word_digits}
use Rattle.text_model.specs.Lines.{line}
use Rattle.show_text.specs.Show.{segment_text}
use Rattle.show_text.proofs.show.head_text.Given as goal

abbrev pub invariant-loop-i : goal.invariant-loop-i
invariant-loop-i l =
    string_bytes l.out ≡ line (codes "entry" ∷ word_digits l.view.entry ∷ []) ++ flat_map segment_text (take l.i l.view.segments)
