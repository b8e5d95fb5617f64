-- The passes one behind the other.
use Rattle.std.proofs.Common.{◌≡◌, ℕ, List, ◌++◌, Option, Some, None, Ok, Err, refl, ◌∙◌}
use Rattle.std.specs.Prelude.{Result}
use Rattle.image_model.specs.Image.{Image}
use Rattle.layout_model.specs.Layouts.{Layout}
use Rattle.link_model.specs.Program.{Program}
use Rattle.link_model.specs.Passes.{external_pass}
use Rattle.name_addresses.specs.Given.{given}
use Rattle.ordered_tests.specs.Checks.{Check, first_fault}
use Rattle.ordered_tests.proofs.Faults.{first_fault_after, first_fault_before}
use Rattle.link_model.specs.declared.fault.Fault.{Fault}
use Rattle.key_passes.specs.declared.fault.CheckFault.{CheckFault}
use Rattle.key_passes.specs.declared.fault.CheckFault.TheVariants.{No, Memory}
use Rattle.key_passes.specs.Answers.{Decides}

-- no place of the first pass fails
pub decides_after : {T : Type 0} (xs ys : List (Check Fault)) (r : Result T CheckFault)
    → (let none : Option Fault = None in first_fault xs ≡ none)
    → Decides (first_fault ys) r → Decides (first_fault (xs ++ ys)) r
decides_after xs ys (Ok x) none d = first_fault_after xs ys none ∙ d
decides_after xs ys (Err (No f)) none d = first_fault_after xs ys none ∙ d
decides_after xs ys (Err Memory) none d = tt

-- a place of the first pass fails, or memory ran out
pub decides_before : (S T : Type 0) (xs ys : List (Check Fault)) (e : CheckFault) → Decides {T = S} (first_fault xs) (Err e)
    → Decides {T = T} (first_fault (xs ++ ys)) (Err e)
decides_before S T xs ys (No f) d = first_fault_before xs ys f d
decides_before S T xs ys Memory d = tt

-- the places of the external keys by equal images and equal addresses
pub external_same : (v w : Image) (l : Layout) (p : Program) (bs cs : List ℕ) → v ≡ w → bs ≡ cs
    → external_pass (given v l p) bs ≡ external_pass (given w l p) cs
external_same v w l p bs cs e f = rw (e, f) refl
