-- What the answer of all passes tells of a match.
use Rattle.std.proofs.Common.{◌≡◌, Some, None, Ok, Err}
use Rattle.std.specs.Prelude.{Result, IfOk, IfErr}
use Rattle.ordered_tests.specs.Checks.{first_fault}
use Rattle.link_model.specs.Candidates.{Inputs}
use Rattle.link_model.specs.Binding.{addresses}
use Rattle.link_model.specs.Parts.{Matches}
use Rattle.link_model.specs.Passes.{passes}
use Rattle.link_laws.specs.Laws.{PlacesDecide}
use Rattle.key_passes.specs.declared.fault.CheckFault.{CheckFault}
use Rattle.key_passes.specs.declared.fault.CheckFault.TheVariants.{No, Memory}
use Rattle.key_passes.specs.Answers.{Decides}
use Rattle.image_check.specs.Places.{IsNo}

module _ (g : Inputs) (law : PlacesDecide g) (A : Type 0) where
  pub yes_matches : (Q : A → Type 0) (r : Result A CheckFault) → Decides (first_fault (passes g (addresses g))) r → IfOk r Q
      → IfOk r (λ a. Matches g × Q a)
  yes_matches Q (Ok a) decided h = (law.none.0 decided, h)
  yes_matches Q (Err e) decided h = tt

  pub no_is_first : (r : Result A CheckFault) → Decides (first_fault (passes g (addresses g))) r → IfErr r (IsNo g)
  no_is_first (Ok a) decided = tt
  no_is_first (Err (No f)) decided = record {
    first = decided;
    fails = law.one f decided;
    unmatched = λ m. let none = law.none.1 m in absurd (cc);
  }
  no_is_first (Err Memory) decided = tt
