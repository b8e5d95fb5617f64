-- A fault of linking names one of the units.
use Rattle.std.proofs.Common.{◌≡◌, ℕ, zero, suc, ◌+◌, ◌<◌, Bool, true, false, ◌&&◌, List, [], ◌∷◌, length, Some, sym, arith, if◌then◌else◌}
use Rattle.std.proofs.Common.{subst}
use Rattle.std.specs.Prelude.{slice_get, flat_map}
use Rattle.std.specs.List.{enumerate_from}
use Rattle.ordered_tests.specs.Checks.{Check, first_fault}
use Rattle.ordered_tests.specs.Lists.{EachOf}
use Rattle.ordered_tests.proofs.Lists.{each_append}
use Rattle.asm_syntax.specs.declared.unit.Unit.{Unit}
use Rattle.link_model.specs.declared.link_error.LinkError.{LinkError}
use Rattle.link_model.specs.Program.{Item, Declaration, unit_declarations, declarations, keys, is_key, same_key, is_global_definition}
use Rattle.link_model.specs.Program.{joins, is_external, names_used}
use Rattle.link_model.specs.LinkTests.{unit_tests, repeat_tests, unit_name_tests, name_tests, same_external, item_size, size_tests}
use Rattle.link_model.specs.LinkTests.{link_tests}
use Rattle.link_laws.proofs.Items.{each_item, each_mapped, each_filter, each_first, number_from}
use Rattle.simulation.specs.Units.{NamesUnit}

-- each test's fault names one of n units
abbrev Within : ℕ → List (Check LinkError) → Type 0
Within n tests = EachOf (λ (c : Check LinkError). NamesUnit n c.fault) tests

abbrev IsOf : ℕ → Declaration → Type 0
IsOf n d = d.unit < n

get_below : {X : Type 0} (xs : List X) (i : ℕ) (x : X) → slice_get xs i ≡ Some x → i < length xs
get_below [] i x h = absurd (cc)
get_below (y ∷ ys) zero x h = omega arith
get_below (y ∷ ys) (suc i) x h = let r = get_below ys i x h in omega (arith, r)

numbers_below : {X : Type 0} (xs : List X) → EachOf (λ (u : ℕ × X). u.0 < length xs) (enumerate_from 0 xs)
numbers_below xs = each_item _ (enumerate_from 0 xs) (λ i u h.
    let r = number_from 0 xs i u h in
    let e = r.0 in
    let s : u.0 ≡ i = omega arith in
    subst (λ k. k < length xs) (sym s) (get_below xs i u.1 r.1))

unit_each : (n u : ℕ) (unit : Unit) → u < n → EachOf (IsOf n) (unit_declarations u unit)
unit_each n u unit h =
    each_append (IsOf n) _ _
    (each_mapped (λ f. u < n) (IsOf n) _ unit.functions (λ f e. e) (each_item (λ f. u < n) unit.functions (λ i f e. h)))
    (each_append (IsOf n) _ _
    (each_mapped (λ x. u < n) (IsOf n) _ unit.variables (λ x e. e) (each_item (λ x. u < n) unit.variables (λ i x e. h)))
    (each_mapped (λ x. u < n) (IsOf n) _ unit.externals (λ x e. e) (each_item (λ x. u < n) unit.externals (λ i x e. h))))

each_flat : {X Y : Type 0} (P : X → Type 0) (Q : Y → Type 0) (f : X → List Y) (xs : List X) → ((x : X) → P x → EachOf Q (f x)) →
    EachOf P xs → EachOf Q (flat_map f xs)
each_flat P Q f [] h e = tt
each_flat P Q f (x ∷ xs) h e = each_append Q (f x) (flat_map f xs) (h x e.0) (each_flat P Q f xs h e.1)

declarations_each : (units : List Unit) → EachOf (IsOf (length units)) (declarations units)
unfolding declarations
declarations_each units =
    each_flat (λ (u : ℕ × Unit). u.0 < length units) (IsOf (length units)) (λ (u : ℕ × Unit). unit_declarations u.0 u.1)
    (enumerate_from 0 units) (λ u h. unit_each (length units) u.0 u.1 h) (numbers_below units)

keys_each : (units : List Unit) → EachOf (IsOf (length units)) (keys units)
unfolding keys
keys_each units = each_first (IsOf (length units)) same_key [] _
    (each_filter (IsOf (length units)) (λ d. is_key units d.item) (declarations units) (declarations_each units))

numbered_each : {X : Type 0} (P : X → Type 0) (k : ℕ) (xs : List X) → EachOf P xs → EachOf (λ (x : ℕ × X). P x.1) (enumerate_from k xs)
numbered_each P k [] e = tt
numbered_each P k (x ∷ xs) e = (e.0, numbered_each P (k + 1) xs e.1)

repeats_within : (n : ℕ) (alike : Item → Item → Bool) (fault : Declaration → LinkError) (ds : List Declaration) →
    ((d : Declaration) → d.unit < n → NamesUnit n (fault d)) → EachOf (IsOf n) ds → Within n (repeat_tests alike fault ds)
repeats_within n alike fault ds h e =
    each_mapped (λ (d : ℕ × Declaration). d.1.unit < n) (λ (c : Check LinkError). NamesUnit n c.fault) _ (enumerate_from 0 ds)
    (λ d s. h d.1 s) (numbered_each (IsOf n) 0 ds e)

units_within : (units : List Unit) → Within (length units) (unit_tests units)
units_within units =
    each_mapped (λ (u : ℕ × Unit). u.0 < length units) (λ (c : Check LinkError). NamesUnit (length units) c.fault) _
    (enumerate_from 0 units) (λ u h. h) (numbers_below units)

names_within : (units : List Unit) → Within (length units) (name_tests units)
names_within units =
    each_flat (λ (u : ℕ × Unit). u.0 < length units) (λ (c : Check LinkError). NamesUnit (length units) c.fault) unit_name_tests
    (enumerate_from 0 units) (λ u h.
    each_mapped (λ n. u.0 < length units) (λ (c : Check LinkError). NamesUnit (length units) c.fault) _ (names_used u.1) (λ n e. e)
    (each_item (λ n. u.0 < length units) (names_used u.1) (λ i n e. h))) (numbers_below units)

sizes_within : (n before : ℕ) (ds : List Declaration) → EachOf (IsOf n) ds → Within n (size_tests before ds)
sizes_within n before [] e = tt
sizes_within n before (d ∷ ds) e = (e.0, sizes_within n (before + item_size d.item) ds e.1)

tests_within : (units : List Unit) (entry : List ℕ) → Within (length units) (link_tests units entry)
unfolding link_tests
tests_within units entry =
    let n = length units in
    let P : Check LinkError → Type 0 = λ c. NamesUnit n c.fault in
    each_append P _ _ (units_within units)
    (each_append P _ _ (repeats_within n joins _ _ (λ d h. h) (each_filter (IsOf n) is_global_definition (declarations units)
    (declarations_each units)))
    (each_append P _ _ (names_within units)
    (each_append P _ _
    (repeats_within n same_external _ _ (λ d h. h)
    (each_filter (IsOf n) (λ d. is_external d.item && is_key units d.item) (declarations units) (declarations_each units)))
    (tt, sizes_within n 0 (keys units) (keys_each units)))))

first_within : (n : ℕ) (tests : List (Check LinkError)) (e : LinkError) → Within n tests → first_fault tests ≡ Some e → NamesUnit n e
first_within n [] e w h = absurd (cc)
first_within n (c ∷ cs) e w h = at c.passes (first_within n cs e w.1) h
  where
    at : (b : Bool) → (first_fault cs ≡ Some e → NamesUnit n e) → (if b then first_fault cs else Some c.fault) ≡ Some e → NamesUnit n e
    at true rest g = rest g
    at false rest g = let s : c.fault ≡ e = cc in subst (NamesUnit n) s w.0

pub names_unit : (units : List Unit) (entry : List ℕ) (e : LinkError) → first_fault (link_tests units entry) ≡ Some e
    → NamesUnit (length units) e
names_unit units entry e h = first_within (length units) (link_tests units entry) e (tests_within units entry) h
