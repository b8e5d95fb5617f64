-- The addresses and the tests of all keys, one key after another.
use Rattle.std.proofs.Common.{◌≡◌, ℕ, ◌+◌, ◌<◌, inl, inr, Bool, true, false, List, [], ◌∷◌, ◌++◌, length, map, take, drop, get_or, Option}
use Rattle.std.proofs.Common.{Some, None, refl, sym, ◌∙◌, ap, subst, arith, append-nil}
use Rattle.std.specs.Prelude.{is_some, unwrap_or, slice_get}
use Rattle.std.specs.List.{list_all, flat_map, enumerate_from}
use Rattle.std.proofs.lemmas.List.{take_more, take_all, take-append-drop, take-map, map_push, length-map, get_or-map}
use Rattle.std.proofs.lemmas.List.Concat.{flat_map-append}
use Rattle.std.proofs.lemmas.List.FromFn.{length-enumerate_from, get_or-enumerate_from}
use Rattle.std.proofs.lemmas.Option.{get_or_from_slice_get, slice_get_within}
use Rattle.ordered_tests.specs.Checks.{Check, first_fault}
use Rattle.ordered_tests.proofs.Faults.{first_fault_after, first_fault_before}
use Rattle.link_model.specs.declared.link_error.BindFault.{BindFault}
use Rattle.link_model.specs.declared.link_error.BindFault.TheVariants.{NoSymbol, NoneFits, SeveralFit, Memory}
use Rattle.link_model.specs.Program.{Declaration, keys}
use Rattle.link_model.specs.Candidates.{Inputs}
use Rattle.link_model.specs.Uses.{Use, all_uses, key_uses}
use Rattle.link_model.specs.Binding.{address_of, addresses, bind_test, bind_tests, binding, numbered_keys}
use Rattle.layout_model.specs.Layouts.{Layout}
use Rattle.symbol_bind.specs.declared.address_set.AddressSet.{AddressSet}
use Rattle.symbol_bind.specs.Bound.{IsFirstUnbound}
use Rattle.symbol_bind.specs.Open.{AreOpen, IsOpen}

-- one more element of a list that is made of another
next_of : {X Y : Type 0} (f : X → Y) (xs : List X) (k : ℕ) (x : X) → k < length xs → get_or xs k x ≡ x
    → take (k + 1) (map f xs) ≡ take k (map f xs) ++ f x ∷ []
next_of f xs k x lt is =
    let low : k < length (map f xs) = omega (arith, lt, length-map xs f) in
    take_more (map f xs) k (f x) low ∙ ap (λ y. take k (map f xs) ++ y ∷ []) (get_or-map f xs k x (f x) lt ∙ ap f is)

numbered_at : (ks : List Declaration) (k : ℕ) (d : Declaration) → slice_get ks k ≡ Some d → get_or (enumerate_from 0 ks) k (k, d) ≡ (k, d)
numbered_at ks k d at =
    get_or-enumerate_from 0 ks k (k, d) (slice_get_within ks k d at)
    ∙ (let e : 0 + k ≡ k = omega arith in ap (λ (n : ℕ). (n, get_or ks k d)) e
    ∙ ap (λ (x : Declaration). (k, x)) (get_or_from_slice_get ks k d d at))

numbered_within : (ks : List Declaration) (k : ℕ) (d : Declaration) → slice_get ks k ≡ Some d → k < length (enumerate_from 0 ks)
numbered_within ks k d at = omega (arith, slice_get_within ks k d at, length-enumerate_from 0 ks)

-- ---- addresses

pub bound_more : (g : Inputs) (k : ℕ) (d : Declaration) (a : ℕ) → slice_get (keys g.program.units) k ≡ Some d
    → address_of g (all_uses g) (k, d) ≡ Some a → take (k + 1) (binding g) ≡ take k (binding g) ++ Some a ∷ []
unfolding binding
bound_more g k d a at is =
    let ks = keys g.program.units in
    next_of (address_of g (all_uses g)) (enumerate_from 0 ks) k (k, d) (numbered_within ks k d at) (numbered_at ks k d at)
    ∙ ap (λ o. take k (binding g) ++ o ∷ []) is

pub bound_all : (g : Inputs) (n : ℕ) (values : List ℕ) → n ≡ length (keys g.program.units)
    → map (λ (a : ℕ). Some a) values ≡ take n (binding g)
    → map (λ (a : ℕ). Some a) values ≡ binding g
unfolding binding
bound_all g n values count is =
    let ks = keys g.program.units in
    is ∙ take_all n (binding g)
    (omega (arith, count, length-map (enumerate_from 0 ks) (address_of g (all_uses g)), length-enumerate_from 0 ks))

same_values : (values : List ℕ) → map (λ (b : Option ℕ). unwrap_or b 0) (map (λ (a : ℕ). Some a) values) ≡ values
same_values [] = refl
same_values (a ∷ values) = ap (λ xs. a ∷ xs) (same_values values)

-- where each key has an address, those are the addresses
pub same_addresses : (g : Inputs) (values : List ℕ) → map (λ (a : ℕ). Some a) values ≡ binding g → values ≡ addresses g
unfolding addresses
same_addresses g values is = sym (same_values values) ∙ ap (map (λ (b : Option ℕ). unwrap_or b 0)) is

each_is_some : (values : List ℕ) → list_all (λ (a : Option ℕ). is_some a) (map (λ (a : ℕ). Some a) values) ≡ true
each_is_some [] = refl
each_is_some (a ∷ values) = each_is_some values

pub each_bound : (g : Inputs) (values : List ℕ) → map (λ (a : ℕ). Some a) values ≡ binding g
    → list_all (λ (a : Option ℕ). is_some a) (binding g) ≡ true
each_bound g values is = subst (λ bs. list_all (λ (a : Option ℕ). is_some a) bs ≡ true) is (each_is_some values)

-- ---- tests

test_next : (g : Inputs) (k : ℕ) (d : Declaration) → slice_get (keys g.program.units) k ≡ Some d
    → take (k + 1) (bind_tests g) ≡ take k (bind_tests g) ++ bind_test g (all_uses g) (k, d) ∷ []
unfolding bind_tests
test_next g k d at =
    let ks = keys g.program.units in
    next_of (bind_test g (all_uses g)) (enumerate_from 0 ks) k (k, d) (numbered_within ks k d at) (numbered_at ks k d at)

one_passes : (c : Check BindFault) → c.passes ≡ true → first_fault (c ∷ []) ≡ None
one_passes c h = rw h refl

one_fails : (c : Check BindFault) → c.passes ≡ false → first_fault (c ∷ []) ≡ Some c.fault
one_fails c h = rw h refl

pub passed_more : (g : Inputs) (k : ℕ) (d : Declaration) (a : ℕ) → slice_get (keys g.program.units) k ≡ Some d
    → address_of g (all_uses g) (k, d) ≡ Some a → first_fault (take k (bind_tests g)) ≡ None
    → first_fault (take (k + 1) (bind_tests g)) ≡ None
passed_more g k d a at is before =
    let c : Check BindFault = bind_test g (all_uses g) (k, d) in
    let passes : c.passes ≡ true = ap (λ (o : Option ℕ). is_some o) is in
    ap first_fault (test_next g k d at) ∙ (first_fault_after (take k (bind_tests g)) (c ∷ []) before ∙ one_passes c passes)

first_fails : (g : Inputs) (k : ℕ) (d : Declaration) → slice_get (keys g.program.units) k ≡ Some d → address_of g (all_uses g) (k, d) ≡ None
    → first_fault (take k (bind_tests g)) ≡ None → first_fault (bind_tests g) ≡ Some (bind_test g (all_uses g) (k, d)).fault
first_fails g k d at is before =
    let c : Check BindFault = bind_test g (all_uses g) (k, d) in
    let fails : c.passes ≡ false = ap (λ (o : Option ℕ). is_some o) is in
    let here : first_fault (take (k + 1) (bind_tests g)) ≡ Some c.fault =
    ap first_fault (test_next g k d at) ∙ (first_fault_after (take k (bind_tests g)) (c ∷ []) before ∙ one_fails c fails) in
    ap first_fault (sym (take-append-drop (k + 1) (bind_tests g)))
    ∙ first_fault_before (take (k + 1) (bind_tests g)) (drop (k + 1) (bind_tests g)) c.fault here

is_first : (g : Inputs) (f : BindFault) → first_fault (bind_tests g) ≡ Some f → IsFirstUnbound g f
is_first g (NoSymbol k) h = h
is_first g (NoneFits k) h = h
is_first g (SeveralFit k n) h = h
is_first g Memory h = tt

pub first_unbound : (g : Inputs) (k : ℕ) (d : Declaration) (f : BindFault) → slice_get (keys g.program.units) k ≡ Some d
    → (address_of g (all_uses g) (k, d) ≡ None) × (f ≡ (bind_test g (all_uses g) (k, d)).fault) → first_fault (take k (bind_tests g)) ≡ None
    → IsFirstUnbound g f
first_unbound g k d f at fails before =
    is_first g f (first_fails g k d at fails.0 before ∙ ap (λ (e : BindFault). Some e) (sym fails.1))

-- ---- uses

pub uses_more : (g : Inputs) (ks : List Declaration) (k : ℕ) (d : Declaration) → slice_get ks k ≡ Some d
    → flat_map (key_uses g) (take (k + 1) ks) ≡ flat_map (key_uses g) (take k ks) ++ key_uses g d
uses_more g ks k d at =
    let more : take (k + 1) ks ≡ take k ks ++ d ∷ [] =
    take_more ks k d (slice_get_within ks k d at) ∙ ap (λ (x : Declaration). take k ks ++ x ∷ []) (get_or_from_slice_get ks k d d at) in
    ap (flat_map (key_uses g)) more
    ∙ (flat_map-append (key_uses g) (take k ks) (d ∷ []) ∙ ap (λ us. flat_map (key_uses g) (take k ks) ++ us) (append-nil (key_uses g d)))

pub uses_whole : (g : Inputs) (n : ℕ) → n ≡ length (keys g.program.units)
    → flat_map (key_uses g) (take n (keys g.program.units)) ≡ all_uses g
unfolding all_uses
uses_whole g n count = ap (flat_map (key_uses g)) (take_all n (keys g.program.units) (omega (arith, count)))

-- ---- what is open for one key

pub open_at : (l : Layout) (uses : List Use) (sets : List AddressSet) (k : ℕ) (set : AddressSet) → AreOpen l uses sets → k < length sets
    → set ≡ get_or sets k set → IsOpen l uses k set
open_at l uses sets k set all lt is = let P : AddressSet → Type 0 = λ s. IsOpen l uses k s in subst P (sym is) (all k set lt)

pub open_by : (l : Layout) (uses others : List Use) (sets : List AddressSet) → uses ≡ others → AreOpen l uses sets → AreOpen l others sets
open_by l uses others sets same all = let P : List Use → Type 0 = λ us. AreOpen l us sets in subst P same all
