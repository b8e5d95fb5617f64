use Rattle.std.proofs.Common.{◌≡◌, ◌++◌, string_bytes}
use Rattle.show_text.specs.Show.{head_text, words_text}
use Rattle.show_text.proofs.show.show_text.Given as goal

abbrev pub invariant-loop-k : goal.invariant-loop-k
invariant-loop-k l = string_bytes l.out ≡ head_text l.view ++ words_text l.view l.address l.k
