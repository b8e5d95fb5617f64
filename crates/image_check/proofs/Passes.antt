-- All passes, grouped as they are made.
use Rattle.std.proofs.Common.{◌≡◌, ℕ, List, ◌++◌, Ok, Err, refl, sym, ap, ◌∙◌, subst, append_assoc}
use Rattle.std.specs.Prelude.{Result}
use Rattle.ordered_tests.specs.Checks.{Check, first_fault}
use Rattle.image_model.specs.Image.{Image}
use Rattle.link_model.specs.declared.fault.Fault.{Fault}
use Rattle.link_model.specs.Candidates.{Inputs}
use Rattle.link_model.specs.Claims.{claims}
use Rattle.link_model.specs.Overlaps.{overlap_pass}
use Rattle.link_model.specs.Passes.{entry_pass, bound_pass, external_pass, function_pass, variable_pass, stray_pass, key_passes, passes}
use Rattle.key_passes.specs.declared.fault.CheckFault.{CheckFault}
use Rattle.key_passes.specs.Answers.{Decides}

regroup : {A : Type 0} (e b x f v o s : List A)
    → (e ++ (b ++ (x ++ (f ++ (v ++ o))))) ++ s ≡ e ++ (b ++ ((x ++ (f ++ v)) ++ (o ++ s)))
regroup e b x f v o s = simp append_assoc

-- the external keys, the functions and the variables
abbrev pub key_places : Inputs → List ℕ → List (Check Fault)
key_places g bs = external_pass g bs ++ (function_pass g bs ++ variable_pass g bs)

-- the claims and all loaded addresses
abbrev pub address_places : Inputs → List ℕ → List (Check Fault)
address_places g bs = overlap_pass (claims g bs) ++ stray_pass g.image g.layout (claims g bs)

abbrev pub all_places : Inputs → List ℕ → List (Check Fault)
all_places g bs = entry_pass g.image ++ (bound_pass g ++ (key_places g bs ++ address_places g bs))

passes_are : (g : Inputs) (bs : List ℕ) → passes g bs ≡ all_places g bs
unfolding passes key_passes
passes_are g bs = regroup (entry_pass g.image) (bound_pass g) (external_pass g bs) (function_pass g bs) (variable_pass g bs)
    (overlap_pass (claims g bs)) (stray_pass g.image g.layout (claims g bs))

pub decides_passes : (T : Type 0) (g : Inputs) (bs : List ℕ) (r : Result T CheckFault) → Decides (first_fault (all_places g bs)) r
    → Decides (first_fault (passes g bs)) r
decides_passes T g bs r d = subst (λ (cs : List (Check Fault)). Decides {T = T} (first_fault cs) r) (sym (passes_are g bs)) d

-- what holds by equal images and equal addresses
pub moved : (P : Image → List ℕ → Type 0) (v w : Image) (bs cs : List ℕ) → v ≡ w → bs ≡ cs → P v bs → P w cs
moved P v w bs cs e f h = subst (λ x. P x cs) e (subst (λ y. P v y) f h)
