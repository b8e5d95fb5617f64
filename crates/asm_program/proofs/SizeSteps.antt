-- The test of the bytes of variables, one key after another.
use Rattle.std.proofs.Common.{◌≡◌, ℕ, ◌+◌, ◌<◌, ◌≤◌, true, List, ◌∷◌, length, get_or, map, drop, refl, sym, ap, ◌∙◌, Option}
use Rattle.std.specs.Prelude.{nat_le}
use Rattle.std.proofs.lemmas.Bool.{le-leb}
use Rattle.std.proofs.lemmas.List.{drop_more}
use Rattle.limits.specs.declared.TheConstants.{MOST_PROGRAM_VARIABLE_BYTES}
use Rattle.ordered_tests.specs.Checks.{first_fault}
use Rattle.link_model.specs.declared.link_error.LinkError.{LinkError}
use Rattle.link_model.specs.Program.{Declaration}
use Rattle.link_model.specs.LinkTests.{item_size, size_tests}
use Rattle.asm_program.specs.declared.declared.Declared.{Declared}
use Rattle.asm_program.specs.Seen.{declaration_seen}

one_passes : (t : ℕ) (d : Declaration) (ds : List Declaration) → nat_le (t + item_size d.item) MOST_PROGRAM_VARIABLE_BYTES ≡ true
    → first_fault (size_tests t (d ∷ ds)) ≡ first_fault (size_tests (t + item_size d.item) ds)
one_passes t d ds h = rw h refl

pub size_passes : (keys : List Declared) (i : ℕ) (x : Declared) (t s : ℕ) (total : Option LinkError) → i < length keys → x ≡ get_or keys i x
    → s ≡ item_size (declaration_seen x).item → t + s ≤ MOST_PROGRAM_VARIABLE_BYTES
    → first_fault (size_tests t (map declaration_seen (drop i keys))) ≡ total
    → first_fault (size_tests (t + s) (map declaration_seen (drop (i + 1) keys))) ≡ total
size_passes keys i x t s total lt is size le so_far =
    let d = declaration_seen x in let rest = map declaration_seen (drop (i + 1) keys) in
    let fits : nat_le (t + item_size d.item) MOST_PROGRAM_VARIABLE_BYTES ≡ true =
    ap (λ n. nat_le (t + n) MOST_PROGRAM_VARIABLE_BYTES) (sym size) ∙ le-leb (t + s) MOST_PROGRAM_VARIABLE_BYTES le in
    ap (λ n. first_fault (size_tests (t + n) rest)) size
    ∙ (sym (ap (λ l. first_fault (size_tests t (map declaration_seen l))) (drop_more keys i x lt ∙ ap (λ e. e ∷ drop (i + 1) keys) (sym is))
    ∙ one_passes t d rest fits) ∙ so_far)
