-- The tests of the bytes, then those of the place.
use Rattle.std.proofs.Common.{◌≡◌, ℕ, List, Option, Some, None, refl, ◌∙◌}
use Rattle.std.specs.List.{flat_map}
use Rattle.ordered_tests.specs.Checks.{first_fault}
use Rattle.ordered_tests.proofs.Faults.{first_fault_after, first_fault_before}
use Rattle.image_model.specs.Image.{Image}
use Rattle.layout_model.specs.Layouts.{Layout}
use Rattle.asm_syntax.specs.declared.unit.Variable.{Variable}
use Rattle.code_model.specs.declared.spot.Spot.{Spot}
use Rattle.code_model.specs.Variables.{init_bytes, data_checks, data_place_checks, variable_checks}
use Rattle.data_match.specs.Stretches.{bytes_fault}

bytes_first : (v : Image) (f : List ℕ → ℕ) (a : ℕ) (x : Variable) →
    first_fault (data_checks v f a x) ≡ bytes_fault v a 0 (flat_map (init_bytes f) x.init)
unfolding data_checks bytes_fault
bytes_first v f a x = refl

pub bytes_decide : (v : Image) (l : Layout) (f : List ℕ → ℕ) (n a : ℕ) (x : Variable) (s : Spot) →
    bytes_fault v a 0 (flat_map (init_bytes f) x.init) ≡ Some s → first_fault (variable_checks v l f n a x) ≡ Some s
bytes_decide v l f n a x s h = first_fault_before (data_checks v f a x) (data_place_checks v l n a x) s (bytes_first v f a x ∙ h)

pub place_decides : (v : Image) (l : Layout) (f : List ℕ → ℕ) (n a : ℕ) (x : Variable) →
    (let none : Option Spot = None in bytes_fault v a 0 (flat_map (init_bytes f) x.init) ≡ none) →
    first_fault (variable_checks v l f n a x) ≡ first_fault (data_place_checks v l n a x)
place_decides v l f n a x h = first_fault_after (data_checks v f a x) (data_place_checks v l n a x) (bytes_first v f a x ∙ h)
