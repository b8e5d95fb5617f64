-- The tests of binding against the places of the keys.
use Rattle.std.proofs.Common.{◌≡◌, ℕ, zero, suc, ◌+◌, ◌<◌, Bool, true, false, List, [], ◌∷◌, ◌++◌, length, map, Option, Some, None, refl}
use Rattle.std.proofs.Common.{sym, ap, ◌∙◌, subst, arith, inl, inr, if◌then◌else◌}
use Rattle.std.specs.Prelude.{Err, slice_get, is_some, not, ◌||◌, ◌&&◌, ◌==◌, option_map}
use Rattle.std.specs.List.{list_all, flat_map, enumerate_from}
use Rattle.std.proofs.lemmas.Bool.{and_parts, cases_Bool}
use Rattle.ordered_tests.specs.Checks.{Check, check, first_fault}
use Rattle.ordered_tests.proofs.Faults.{first_fault_after, first_fault_before}
use Rattle.link_laws.proofs.Items.{number_from}
use Rattle.code_model.specs.declared.spot.Spot.{Spot}
use Rattle.code_model.specs.WordChecks.{spot}
use Rattle.asm_syntax.specs.declared.rule.Rule.TheVariants as rules
use Rattle.link_model.specs.declared.fault.Fault.{Fault}
use Rattle.link_model.specs.declared.link_error.BindFault.{BindFault}
use Rattle.link_model.specs.declared.link_error.BindFault.TheVariants.{NoSymbol, NoneFits, SeveralFit, Memory}
use Rattle.link_model.specs.Program.{Declaration, keys, name_of}
use Rattle.link_model.specs.Numbers.{unit_name}
use Rattle.link_model.specs.Overlaps.{fault_at}
use Rattle.link_model.specs.Candidates.{Inputs, candidates}
use Rattle.link_model.specs.Uses.{Use, all_uses}
use Rattle.link_model.specs.Binding.{numbered_keys, fitting_candidates, address_of, binding, fault_of_key, bind_test, bind_tests}
use Rattle.link_model.specs.Passes.{at_key, bound_checks, bound_pass}
use Rattle.symbol_bind.specs.Bound.{IsFirstUnbound}
use Rattle.key_passes.specs.declared.fault.CheckFault.{CheckFault}
use Rattle.key_passes.specs.declared.fault.CheckFault.TheVariants as checks
use Rattle.key_passes.specs.declared.fault.CheckFault.TheVariants.{No}
use Rattle.key_passes.specs.Answers.{IsNoOf, Decides}
use Rattle.image_check.specs.Bound.{key_in, spot_of, NamesKey, IsToldBy}

-- the tests of one key
first_bound : (k offered fit : ℕ) (o t b : Bool) → (offered == 0) ≡ o → (fit == 0) ≡ t
    → first_fault (bound_checks offered fit b) ≡ (if b then None else Some (spot_of (fault_of_key k offered fit)))
first_bound k offered fit o t true p q = refl
first_bound k offered fit true t false p q = rw p refl
first_bound k offered fit false true false p q = rw (p, q) refl
first_bound k offered fit false false false p q = rw (p, q) refl

-- its key is the one that is tested
key_of_fault : (k offered fit : ℕ) (o t : Bool) → (offered == 0) ≡ o → (fit == 0) ≡ t → key_in (fault_of_key k offered fit) ≡ k
key_of_fault k offered fit true t p q = rw p refl
key_of_fault k offered fit false true p q = rw (p, q) refl
key_of_fault k offered fit false false p q = rw (p, q) refl

abbrev tests_of : Inputs → List Use → ℕ × Declaration → List (Check Spot)
tests_of g uses k = bound_checks (length (candidates g.image k.1)) (length (fitting_candidates g uses k)) (is_some (address_of g uses k))

abbrev places_of : Inputs → List Use → ℕ × Declaration → List (Check Fault)
places_of g uses k = map (at_key g k.1) (tests_of g uses k)

first_at_key : (g : Inputs) (d : Declaration) (cs : List (Check Spot))
    → first_fault (map (at_key g d) cs)
    ≡ option_map (λ (s : Spot). fault_at (unit_name g.program.units d.unit) (name_of d) s None) (first_fault cs)
first_at_key g d [] = refl
first_at_key g d (c ∷ cs) = elim (cases_Bool c.passes) [ inl t ↦ rw t (first_at_key g d cs) | inr f ↦ rw f refl ]

abbrev told_at : Inputs → Declaration → Spot → Fault
told_at g d s = fault_at (unit_name g.program.units d.unit) (name_of d) s None

abbrev fault_in : Inputs → List Use → ℕ × Declaration → BindFault
fault_in g uses k = fault_of_key k.0 (length (candidates g.image k.1)) (length (fitting_candidates g uses k))

key_first : (g : Inputs) (uses : List Use) (k : ℕ × Declaration) → first_fault (places_of g uses k)
    ≡ option_map (told_at g k.1) (if is_some (address_of g uses k) then None else Some (spot_of (fault_in g uses k)))
key_first g uses k =
    let offered = length (candidates g.image k.1) in
    let fit = length (fitting_candidates g uses k) in
    first_at_key g k.1 (tests_of g uses k)
    ∙ ap (option_map (told_at g k.1)) (first_bound k.0 offered fit (offered == 0) (fit == 0) (is_some (address_of g uses k)) refl refl)

key_at : (g : Inputs) (uses : List Use) (k : ℕ × Declaration) (b : Bool) → is_some (address_of g uses k) ≡ b
    → first_fault (places_of g uses k) ≡ option_map (told_at g k.1) (if b then None else Some (spot_of (fault_in g uses k)))
key_at g uses k b h =
    key_first g uses k ∙ ap (λ (t : Bool). option_map (told_at g k.1) (if t then None else Some (spot_of (fault_in g uses k)))) h

-- the first key without an address
record IsUnbound (g : Inputs) (uses : List Use) (ks : List (ℕ × Declaration)) (f : BindFault) : Type 0 where
  place : ℕ
  key : ℕ × Declaration
  at : slice_get ks place ≡ Some key
  named : key_in f ≡ key.0
  first : first_fault (flat_map (places_of g uses) ks) ≡ Some (told_at g key.1 (spot_of f))

unbound_first : (g : Inputs) (uses : List Use) (k : ℕ × Declaration) (ks : List (ℕ × Declaration)) (f : BindFault)
    → is_some (address_of g uses k) ≡ false → fault_in g uses k ≡ f → IsUnbound g uses (k ∷ ks) f
unbound_first g uses k ks f none is =
    let offered = length (candidates g.image k.1) in
    let fit = length (fitting_candidates g uses k) in
    record {
      place = 0;
      key = k;
      at = refl;
      named = ap key_in (sym is) ∙ key_of_fault k.0 offered fit (offered == 0) (fit == 0) refl refl;
      first = first_fault_before (places_of g uses k) (flat_map (places_of g uses) ks) (told_at g k.1 (spot_of f))
          (key_at g uses k false none ∙ ap (λ (x : BindFault). Some (told_at g k.1 (spot_of x))) is);
    }

unbound_later : (g : Inputs) (uses : List Use) (k : ℕ × Declaration) (ks : List (ℕ × Declaration)) (f : BindFault)
    → is_some (address_of g uses k) ≡ true → IsUnbound g uses ks f → IsUnbound g uses (k ∷ ks) f
unbound_later g uses k ks f some u = record {
  place = suc u.place;
  key = u.key;
  at = u.at;
  named = u.named;
  first = first_fault_after (places_of g uses k) (flat_map (places_of g uses) ks) (key_at g uses k true some) ∙ u.first;
}

find_unbound : (g : Inputs) (uses : List Use) (ks : List (ℕ × Declaration)) (f : BindFault)
    → first_fault (map (bind_test g uses) ks) ≡ Some f → IsUnbound g uses ks f
find_unbound g uses [] f h = absurd (cc)
find_unbound g uses (k ∷ ks) f h = elim (cases_Bool (is_some (address_of g uses k))) [
  | inl t ↦ unbound_later g uses k ks f t (find_unbound g uses ks f (rw t at h))
  | inr n ↦ (let e : Some (fault_in g uses k) ≡ Some f = (rw n at h) in unbound_first g uses k ks f n (cc))
]

-- a key without an address, and its fault
pub record IsToldUnbound (g : Inputs) (f : BindFault) : Type 0 where
  pub key : Declaration
  pub at : slice_get (keys g.program.units) (key_in f) ≡ Some key
  pub first : first_fault (bound_pass g) ≡ Some (fault_at (unit_name g.program.units key.unit) (name_of key) (spot_of f) None)

pub bind_fails : (g : Inputs) (f : BindFault) → first_fault (bind_tests g) ≡ Some f → IsToldUnbound g f
unfolding bind_tests bound_pass
bind_fails g f h =
    let u = find_unbound g (all_uses g) (numbered_keys g) f h in
    let n = number_from 0 (keys g.program.units) u.place u.key u.at in
    let e = n.0 in
    let s : key_in f ≡ u.place = (u.named ∙ (let t : u.key.0 ≡ u.place = omega arith in t)) in
    record { key = u.key.1; at = rw s n.1; first = u.first }

all_bound : (g : Inputs) (uses : List Use) (ks : List (ℕ × Declaration)) → list_all is_some (map (address_of g uses) ks) ≡ true
    → (let none : Option Fault = None in first_fault (flat_map (places_of g uses) ks) ≡ none)
all_bound g uses [] h = refl
all_bound g uses (k ∷ ks) h =
    let p = and_parts (is_some (address_of g uses k)) (list_all is_some (map (address_of g uses) ks)) h in
    first_fault_after (places_of g uses k) (flat_map (places_of g uses) ks) (key_at g uses k true p.0) ∙ all_bound g uses ks p.1

pub bind_passes : (g : Inputs) → list_all is_some (binding g) ≡ true → (let none : Option Fault = None in first_fault (bound_pass g) ≡ none)
unfolding binding bound_pass
bind_passes g h = all_bound g (all_uses g) (numbered_keys g) h

-- ---- what is told of a fault of binding

place_below : {X : Type 0} (xs : List X) (k : ℕ) (x : X) → slice_get xs k ≡ Some x → k < length xs
place_below [] k x h = absurd (cc)
place_below (y ∷ ys) zero x h = omega arith
place_below (y ∷ ys) (suc k) x h = let lt = place_below ys k x h in omega arith

names_key : (g : Inputs) (f : BindFault) → first_fault (bind_tests g) ≡ Some f → key_in f < length (keys g.program.units)
names_key g f h = let u = bind_fails g f h in place_below (keys g.program.units) (key_in f) u.key u.at

pub unbound_key : (g : Inputs) (f : BindFault) → IsFirstUnbound g f → NamesKey (keys g.program.units) f
unbound_key g (NoSymbol k) h = names_key g (NoSymbol k) h
unbound_key g (NoneFits k) h = names_key g (NoneFits k) h
unbound_key g (SeveralFit k n) h = names_key g (SeveralFit k n) h
unbound_key g Memory h = tt

told_is : (total : Option Fault) (fault : Fault) (e : CheckFault) → total ≡ Some fault → IsNoOf fault e
    → Decides {T = Unit {0}} total (Err e)
told_is total fault (No f) first is = first ∙ ap Some (sym is)
told_is total fault checks.Memory first is = tt

abbrev told_key : (g : Inputs) (f : BindFault) (e : CheckFault) → Type 0
told_key g f e = (d : Declaration) → slice_get (keys g.program.units) (key_in f) ≡ Some d →
    IsNoOf (fault_at (unit_name g.program.units d.unit) (name_of d) (spot_of f) None) e

told_unbound : (g : Inputs) (f : BindFault) (e : CheckFault) → first_fault (bind_tests g) ≡ Some f → told_key g f e
    → Decides {T = Unit {0}} (first_fault (bound_pass g)) (Err e)
told_unbound g f e h t =
    let u = bind_fails g f h in
    told_is (first_fault (bound_pass g)) (fault_at (unit_name g.program.units u.key.unit) (name_of u.key) (spot_of f) None)
    e u.first (t u.key u.at)

pub told_first : (g : Inputs) (f : BindFault) (e : CheckFault) → IsFirstUnbound g f → IsToldBy g.program.units f e
    → Decides {T = Unit {0}} (first_fault (bound_pass g)) (Err e)
told_first g (NoSymbol k) e h t = told_unbound g (NoSymbol k) e h t
told_first g (NoneFits k) e h t = told_unbound g (NoneFits k) e h t
told_first g (SeveralFit k n) e h t = told_unbound g (SeveralFit k n) e h t
told_first g Memory e h t = let P : CheckFault → Type 0 = λ x. Decides {T = Unit {0}} (first_fault (bound_pass g)) (Err x) in
    subst P (sym t) tt
