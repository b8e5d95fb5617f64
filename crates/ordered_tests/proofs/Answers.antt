-- The tests of the numbers below n, as a loop makes them: each by a call that answers its first fault.
use Rattle.std.proofs.Common.{◌≡◌, ℕ, ◌+◌, ◌<◌, ◌≤◌, List, Option, Some, None, Ok, Err, refl, sym, ap, ◌∙◌}
use Rattle.std.specs.Prelude.{⊤}
use Rattle.ordered_tests.specs.Checks.{Check, first_fault, each_check, from_to}
use Rattle.ordered_tests.specs.Steps.{unless, all_pass}
use Rattle.ordered_tests.specs.Answers.{IsTold}
use Rattle.ordered_tests.proofs.Faults.{each_number_passes, each_number_fails, from_to_end}

pub no_fault : {F : Type 0} → (f : Option F) → unless f ≡ Ok tt → f ≡ None
no_fault None h = refl
no_fault (Some fault) h = absurd (cc)

pub one_fault : {F : Type 0} → (f : Option F) (fault : F) → unless f ≡ Err fault → f ≡ Some fault
one_fault None fault h = absurd (cc)
one_fault (Some other) fault h = let s : other ≡ fault = cc in ap Some s

module _ {F : Type 0} (g : ℕ → List (Check F)) (i n : ℕ) (total : Option F) where
  -- the tests of the number i pass
  pub number_left : i < n → all_pass (g i) ≡ Ok tt → first_fault (each_check g (from_to i n)) ≡ total
      → first_fault (each_check g (from_to (i + 1) n)) ≡ total
  number_left lt h so_far = sym (each_number_passes g i n lt (no_fault (first_fault (g i)) h)) ∙ so_far

  -- one of them fails, or memory ran out
  pub number_ends : (told : Option F) → i < n → IsTold {T = ⊤} told (all_pass (g i)) → first_fault (each_check g (from_to i n)) ≡ total
      → IsTold {T = ⊤} told (unless total)
  number_ends None lt h so_far = tt
  number_ends (Some fault) lt h so_far =
      ap unless (sym so_far ∙ each_number_fails g i n fault lt (one_fault (first_fault (g i)) fault h))

  -- no number is left
  pub numbers_done : n ≤ i → first_fault (each_check g (from_to i n)) ≡ total → unless total ≡ Ok tt
  numbers_done le so_far = ap unless (sym so_far ∙ ap (λ ns. first_fault (each_check g ns)) (from_to_end i n le))
