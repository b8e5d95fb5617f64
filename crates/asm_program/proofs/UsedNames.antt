-- The tests of the names that units refer to.
use Rattle.std.proofs.Common.{◌≡◌, ℕ, ◌+◌, ◌<◌, ◌≤◌, ◌||◌, List, [], ◌∷◌, length, get_or, map, drop, Option, Some, None, Ok, refl, sym, ap}
use Rattle.std.proofs.Common.{◌∙◌}
use Rattle.std.specs.Prelude.{⊤}
use Rattle.std.specs.List.{list_any, flat_map, enumerate_from}
use Rattle.std.specs.Str.{bytes_eq}
use Rattle.std.proofs.lemmas.List.{drop_more, drop_all}
use Rattle.ordered_tests.specs.Checks.{Check, check, first_fault}
use Rattle.ordered_tests.specs.Steps.{unless, all_pass}
use Rattle.ordered_tests.specs.Answers.{IsTold}
use Rattle.ordered_tests.proofs.Faults.{first_fault_after, first_fault_before}
use Rattle.ordered_tests.proofs.Answers.{no_fault, one_fault}
use Rattle.asm_syntax.specs.declared.unit.Unit.{Unit}
use Rattle.link_model.specs.declared.link_error.LinkError.TheVariants.{Undeclared}
use Rattle.link_model.specs.Program.{defines, declares}

-- the tests by a set of what the unit defines or declares
pub tests_by_set : (u : ℕ) (unit : Unit) (set : List (List ℕ)) (names : List (List ℕ))
    → ((v : List ℕ) → list_any (bytes_eq v) set ≡ (defines unit v || declares unit v))
    → map (λ n. check (list_any (bytes_eq n) set) (Undeclared u n)) names
    ≡ map (λ n. check (defines unit n || declares unit n) (Undeclared u n)) names
tests_by_set u unit set [] h = refl
tests_by_set u unit set (n ∷ ns) h = λ k. check (h n k) (Undeclared u n) ∷ tests_by_set u unit set ns h k

-- the first fault of the numbered elements from the place i on, each of which has several tests
abbrev pub faults_from : {X F : Type 0} → (ℕ × X → List (Check F)) → List X → ℕ → Option F
faults_from g xs i = first_fault (flat_map g (enumerate_from i (drop i xs)))

module _ {X F : Type 0} (g : ℕ × X → List (Check F)) (xs : List X) (total : Option F) where
  pub all_passed : (i : ℕ) (d : X) → i < length xs → all_pass (g (i, get_or xs i d)) ≡ Ok tt → faults_from g xs i ≡ total
      → faults_from g xs (i + 1) ≡ total
  all_passed i d lt h so_far =
      sym (ap (λ l. first_fault (flat_map g (enumerate_from i l))) (drop_more xs i d lt)
      ∙ first_fault_after (g (i, get_or xs i d)) (flat_map g (enumerate_from (i + 1) (drop (i + 1) xs))) (no_fault _ h))
      ∙ so_far

  pub one_failed : (told : Option F) (i : ℕ) (d : X) → i < length xs → IsTold {T = ⊤} told (all_pass (g (i, get_or xs i d)))
      → faults_from g xs i ≡ total → IsTold {T = ⊤} told (unless total)
  one_failed None i d lt h so_far = tt
  one_failed (Some fault) i d lt h so_far =
      ap unless (sym so_far ∙ (ap (λ l. first_fault (flat_map g (enumerate_from i l))) (drop_more xs i d lt)
      ∙ first_fault_before (g (i, get_or xs i d)) (flat_map g (enumerate_from (i + 1) (drop (i + 1) xs))) fault (one_fault _ fault h)))

  pub all_done : (i : ℕ) → length xs ≤ i → faults_from g xs i ≡ total → unless total ≡ Ok tt
  all_done i le so_far = ap unless (sym so_far ∙ ap (λ l. first_fault (flat_map g (enumerate_from i l))) (drop_all i xs le))
