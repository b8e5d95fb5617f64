-- Tests of which none fails have no place that fails.
use Rattle.std.proofs.Common.{◌≡◌, ℕ, suc, List, [], ◌∷◌, Option, Some, None, refl, ap, inl, inr}
use Rattle.std.specs.Prelude.{option_map}
use Rattle.std.proofs.lemmas.Bool.{cases_Bool}
use Rattle.ordered_tests.specs.Checks.{Check, first_fault}
use Rattle.coverage.specs.Orders.{failing_place}

pub no_failing_place : {F : Type 0} (cs : List (Check F)) → (let none : Option F = None in first_fault cs ≡ none)
    → (let none : Option ℕ = None in failing_place cs ≡ none)
no_failing_place [] h = refl
no_failing_place (c ∷ cs) h = elim (cases_Bool c.passes) [
  | inl t ↦ rw t (ap (option_map suc) (no_failing_place cs (rw t at h)))
  | inr f ↦ (let e = (rw f at h) in absurd (cc))
]
