-- Tests of the numbered elements of a list, from the front.
use Rattle.std.proofs.Common.{◌≡◌, ℕ, ◌+◌, ◌<◌, ◌≤◌, true, false, List, ◌∷◌, length, get_or, map, drop, Option, Some, None, Ok, Err, refl}
use Rattle.std.proofs.Common.{sym, ap, ◌∙◌}
use Rattle.std.specs.Prelude.{Result, MatchOption, ⊤}
use Rattle.std.specs.List.{enumerate_from}
use Rattle.std.proofs.lemmas.List.{drop_more, drop_all}
use Rattle.ordered_tests.specs.Checks.{Check, first_fault}
use Rattle.ordered_tests.specs.Steps.{unless}
use Rattle.ordered_tests.specs.Answers.{IsTold}

passes_head : {F : Type 0} → (c : Check F) (cs : List (Check F)) → c.passes ≡ true → first_fault (c ∷ cs) ≡ first_fault cs
passes_head c cs h = rw h refl

fails_head : {F : Type 0} → (c : Check F) (cs : List (Check F)) → c.passes ≡ false → first_fault (c ∷ cs) ≡ Some c.fault
fails_head c cs h = rw h refl

-- an error that tells the fault that is due, if it tells one
pub told_fault : {F : Type 0} (o : Option F) (fault : F) (due : Result ⊤ F) → MatchOption o ⊤ (λ f. f ≡ fault) → due ≡ Err fault
    → IsTold {T = ⊤} o due
told_fault None fault due h e = tt
told_fault (Some f) fault due h e = e ∙ ap Err (sym h)

-- the first fault of the elements from the place i on
abbrev pub fault_from : {X F : Type 0} → (ℕ × X → Check F) → List X → ℕ → Option F
fault_from g xs i = first_fault (map g (enumerate_from i (drop i xs)))

module _ {X F : Type 0} (g : ℕ × X → Check F) (xs : List X) (total : Option F) where
  pub place_passes : (i : ℕ) (d : X) → i < length xs → (g (i, get_or xs i d)).passes ≡ true → fault_from g xs i ≡ total
      → fault_from g xs (i + 1) ≡ total
  place_passes i d lt h so_far =
      sym (ap (λ l. first_fault (map g (enumerate_from i l))) (drop_more xs i d lt)
      ∙ passes_head (g (i, get_or xs i d)) (map g (enumerate_from (i + 1) (drop (i + 1) xs))) h)
      ∙ so_far

  pub place_fails : (i : ℕ) (d : X) → i < length xs → (g (i, get_or xs i d)).passes ≡ false → fault_from g xs i ≡ total
      → unless total ≡ Err (g (i, get_or xs i d)).fault
  place_fails i d lt h so_far =
      ap unless (sym so_far ∙ (ap (λ l. first_fault (map g (enumerate_from i l))) (drop_more xs i d lt)
      ∙ fails_head (g (i, get_or xs i d)) (map g (enumerate_from (i + 1) (drop (i + 1) xs))) h))

  pub places_done : (i : ℕ) → length xs ≤ i → fault_from g xs i ≡ total → unless total ≡ Ok tt
  places_done i le so_far =
      ap unless (sym so_far ∙ ap (λ l. first_fault (map g (enumerate_from i l))) (drop_all i xs le))

-- ---- tests that take no number

module _ {X F : Type 0} (g : X → Check F) (xs : List X) (total : Option F) where
  pub element_passes : (i : ℕ) (d : X) → i < length xs → (g (get_or xs i d)).passes ≡ true → first_fault (map g (drop i xs)) ≡ total
      → first_fault (map g (drop (i + 1) xs)) ≡ total
  element_passes i d lt h so_far =
      sym (ap (λ l. first_fault (map g l)) (drop_more xs i d lt) ∙ passes_head (g (get_or xs i d)) (map g (drop (i + 1) xs)) h) ∙ so_far

  pub element_fails : (i : ℕ) (d : X) → i < length xs → (g (get_or xs i d)).passes ≡ false → first_fault (map g (drop i xs)) ≡ total
      → unless total ≡ Err (g (get_or xs i d)).fault
  element_fails i d lt h so_far =
      ap unless (sym so_far ∙ (ap (λ l. first_fault (map g l)) (drop_more xs i d lt)
      ∙ fails_head (g (get_or xs i d)) (map g (drop (i + 1) xs)) h))

  pub elements_done : (i : ℕ) → length xs ≤ i → first_fault (map g (drop i xs)) ≡ total → unless total ≡ Ok tt
  elements_done i le so_far = ap unless (sym so_far ∙ ap (λ l. first_fault (map g l)) (drop_all i xs le))
