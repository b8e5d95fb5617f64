-- What the answers about an image tell of its places.
use Rattle.std.specs.Prelude.{◌≡◌, ℕ, List, ◌++◌, Option, Some, None, ⊤}
use Rattle.ordered_tests.specs.Checks.{Check, first_fault}
use Rattle.link_model.specs.declared.fault.Fault.{Fault}
use Rattle.link_model.specs.Candidates.{Inputs}
use Rattle.link_model.specs.Binding.{addresses}
use Rattle.link_model.specs.Parts.{Matches}
use Rattle.link_model.specs.Passes.{bound_pass, external_pass, FailsAt, First}
use Rattle.key_passes.specs.declared.fault.CheckFault.{CheckFault}
use Rattle.key_passes.specs.declared.fault.CheckFault.TheVariants.{No, Memory}

-- that each key has an address, and where the external keys are
unfoldable pub bound_places : Inputs → List (Check Fault)
bound_places g = bound_pass g ++ external_pass g (addresses g)

-- the fault is that of the first place that fails, and the image does not match
pub record IsRefuted (g : Inputs) (f : Fault) : Type 0 where
  pub first : First g f
  pub fails : FailsAt g f
  pub unmatched : Matches g → ⊥

-- want of memory tells nothing of the image
abbrev pub IsNo : Inputs → CheckFault → Type 0
IsNo g (No f) = IsRefuted g f
IsNo g Memory = ⊤
