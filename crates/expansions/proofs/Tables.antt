-- Tables, one word further.
use Rattle.std.proofs.Common.{◌≡◌, ℕ, ◌+◌, ◌*◌, ◌<◌, List, ◌∷◌, length, drop, get_or, refl, ◌∙◌, arith}
use Rattle.std.specs.Prelude.{◌==◌}
use Rattle.std.proofs.lemmas.List.{at_drop_more}
use Rattle.ordered_tests.specs.Checks.{check, first_fault}
use Rattle.image_model.specs.Image.{Image}
use Rattle.asm_syntax.specs.declared.rule.Rule.TheVariants as rules
use Rattle.code_model.specs.WordChecks.{spot}
use Rattle.code_model.specs.Addresses.{loaded_word}
use Rattle.code_model.specs.FunctionChecks.{table_word_checks}

pub words_more : (v : Image) (label_at : ℕ → ℕ) (offset t i : ℕ) (labels : List ℕ) → i < length labels →
    first_fault (table_word_checks v label_at offset (t + 4 * i) i (drop i labels))
    ≡ first_fault (check (loaded_word v (t + 4 * i) == label_at (get_or labels i 0))
    (spot rules.TableWord offset i (label_at (get_or labels i 0)) (loaded_word v (t + 4 * i)))
    ∷ table_word_checks v label_at offset (t + 4 * (i + 1)) (i + 1) (drop (i + 1) labels))
words_more v label_at offset t i labels lt =
    let on : t + 4 * i + 4 ≡ t + 4 * (i + 1) = omega arith in
    at_drop_more (λ xs. first_fault (table_word_checks v label_at offset (t + 4 * i) i xs)) labels i 0 lt ∙ rw on refl
