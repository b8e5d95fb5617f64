use Rattle.std.proofs.Common.{◌≡◌, ◌+◌, ◌-◌, ◌*◌}
use Rattle.code_model.specs.Addresses.{are_loaded}
use Rattle.expansions.proofs.image_words.ImageWords.are_loaded.Given as goal

abbrev pub invariant-loop-i : goal.invariant-loop-i
invariant-loop-i l = are_loaded l.self (l.a + 4 * l.i) (l.n - l.i) ≡ are_loaded l.self l.a l.n
