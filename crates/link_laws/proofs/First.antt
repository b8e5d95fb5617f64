-- An image matches exactly where no place fails, and where some does, one is the first.
use Rattle.std.proofs.Common.{◌≡◌, suc, ◌⊎◌, inl, inr, true, false, List, [], ◌∷◌, Some, None, refl, ◌∙◌, subst, arith}
use Rattle.std.specs.Prelude.{Option, Any}
use Rattle.std.proofs.lemmas.Bool.{cases_Bool}
use Rattle.ordered_tests.specs.Checks.{Check, first_fault}
use Rattle.ordered_tests.proofs.Lists.{each_at}
use Rattle.ordered_tests.proofs.Faults.{first_fault_after, front_passes, rest_passes, each_passes_of, none_fails}
use Rattle.image_model.specs.Segments.{IsLoadable}
use Rattle.link_model.specs.declared.fault.Fault.{Fault}
use Rattle.link_model.specs.Candidates.{Inputs}
use Rattle.link_model.specs.Binding.{addresses}
use Rattle.link_model.specs.Claims.{claims}
use Rattle.link_model.specs.Parts.{Matches}
use Rattle.link_model.specs.Passes.{stray_pass, key_passes, passes}
use Rattle.link_laws.specs.Laws.{NoFault, PlacesDecide}
use Rattle.link_laws.proofs.Passes.{parts_pass, parts_hold}
use Rattle.link_laws.proofs.Strays.{no_strays, strays_pass}

-- ---- a list of tests

abbrev Failing : Fault → Check Fault → Type 0
Failing f c = (c.passes ≡ false) × (c.fault ≡ f)

fault_or : (o : Option Fault) → NoFault o ⊎ ((f : Fault) × (o ≡ Some f))
fault_or None = inl refl
fault_or (Some f) = inr (f, refl)

none_or_some : (o : Option Fault) (f : Fault) → NoFault o → o ≡ Some f → ⊥
none_or_some o f n s = absurd (cc)

-- the first fault is that of a test that fails
first_any : (cs : List (Check Fault)) (f : Fault) → first_fault cs ≡ Some f → Any (Failing f) cs
first_any [] f h = absurd (cc)
first_any (c ∷ cs) f h = elim (cases_Bool c.passes) [
  | inl t ↦ (let r = first_any cs f (rw t at h) in let lt = r.2 in (suc r.0, r.1, omega arith, r.3, r.4))
  | inr n ↦ (let e : Some c.fault ≡ Some f = (rw n at h) in (0, c, omega arith, refl, (n, cc)))
]

-- where a test fails, there is a first fault
any_first : (cs : List (Check Fault)) (f : Fault) → Any (Failing f) cs → (first : Fault) × (first_fault cs ≡ Some first)
any_first cs f a = elim (fault_or (first_fault cs)) [
  | inr s ↦ s
  | inl none ↦ (
      let all = each_at (λ (c : Check Fault). c.passes ≡ true) cs (each_passes_of cs none) a.0 a.1 a.2 in
      let here : (a.1).passes ≡ true = subst (λ (c : Check Fault). c.passes ≡ true) a.3 all in
      let fails = a.4.0 in absurd (cc))
]

-- ---- the passes

matches_none : (g : Inputs) → Matches g → NoFault (first_fault (passes g (addresses g)))
unfolding passes
matches_none g m =
    let bs = addresses g in
    let strays = stray_pass g.image g.layout (claims g bs) in
    first_fault_after (key_passes g bs) strays (none_fails (key_passes g bs) (parts_pass g bs m))
    ∙ strays_pass g.image g.layout (claims g bs) m.covered

none_matches : (g : Inputs) → IsLoadable g.image → NoFault (first_fault (passes g (addresses g))) → Matches g
unfolding passes
none_matches g k h =
    let bs = addresses g in
    let strays = stray_pass g.image g.layout (claims g bs) in
    parts_hold g bs (each_passes_of (key_passes g bs) (front_passes (key_passes g bs) strays h))
    (no_strays g.image g.layout (claims g bs) k (rest_passes (key_passes g bs) strays h))

pub places_decide : (g : Inputs) → IsLoadable g.image → PlacesDecide g
places_decide g k = record {
  none = (none_matches g k, matches_none g);
  some = λ f a. any_first (passes g (addresses g)) f a;
  one = λ f h. first_any (passes g (addresses g)) f h;
}
