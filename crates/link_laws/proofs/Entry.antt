-- The entry of linked units is a key, and a function.
use Rattle.std.proofs.Common.{◌≡◌, ℕ, zero, suc, ◌<◌, inl, inr, Bool, true, false, not, ◌&&◌, ◌||◌, List, [], ◌∷◌, get_or, take, Some}
use Rattle.std.proofs.Common.{refl, sym, ◌∙◌, ap, subst, cond}
use Rattle.std.specs.Prelude.{slice_get, filter}
use Rattle.std.specs.List.{list_any, enumerate_from}
use Rattle.std.specs.Str.{bytes_eq}
use Rattle.std.proofs.lemmas.Bool.{and_parts, and_from, or_cases, both_ways, cases_order, not-true}
use Rattle.std.proofs.lemmas.List.Quantifiers.{position-Some}
use Rattle.std.proofs.lemmas.Option.{slice_get-get_or}
use Rattle.ordered_tests.specs.Checks.{Check, check}
use Rattle.ordered_tests.specs.Lists.{EachOf}
use Rattle.ordered_tests.proofs.Faults.{each_passes_of}
use Rattle.ordered_tests.proofs.Lists.{each_get}
use Rattle.asm_syntax.specs.declared.instr.Function.{Function}
use Rattle.asm_syntax.specs.declared.unit.Variable.{Variable}
use Rattle.asm_syntax.specs.declared.unit.Unit.{Unit}
use Rattle.link_model.specs.declared.link_error.LinkError.{LinkError}
use Rattle.link_model.specs.declared.link_error.LinkError.TheVariants.{DefinedTwice}
use Rattle.link_model.specs.Program.{Program, Item, OfFunction, OfVariable, OfExternal, Declaration, name_of, is_static, is_external}
use Rattle.link_model.specs.Program.{is_global_definition, declarations, defines_global, stays_external, is_key, same_key, keys}
use Rattle.link_model.specs.Program.{is_global_named, joins}
use Rattle.link_model.specs.Numbers.{is_entry, entry_key}
use Rattle.link_model.specs.LinkTests.{is_like_earlier, definition_tests, IsLinked}
use Rattle.link_laws.specs.Laws.{of_function, HasEntry}
use Rattle.link_laws.proofs.Items.{each_item, each_unmapped, each_first, each_of_all, any_get, any_item}
use Rattle.link_laws.proofs.KeyTests.{numbered, take_get}
use Rattle.link_laws.proofs.Names.{same_names, names_same, key_any, position_some, global_alike, global_parts, global_from}
use Rattle.link_laws.proofs.Linked.{definitions_pass, has_entry}

-- ---- two global definitions of one name

abbrev globals : List Unit → List Declaration
globals units = filter is_global_definition (declarations units)

abbrev IsLikeEarlier : List Declaration → ℕ × Declaration → Type 0
IsLikeEarlier ds d = is_like_earlier joins (take d.0 ds) d.1 ≡ true

abbrev Holds : Check LinkError → Type 0
Holds c = c.passes ≡ true

-- the earlier joins with the later
joined : (p : Program) → IsLinked p → (i j : ℕ) (a b : Declaration) → i < j → slice_get (globals p.units) i ≡ Some a →
    slice_get (globals p.units) j ≡ Some b → name_of a ≡ name_of b → joins a.item b.item ≡ true
joined p k i j a b lt ai bj same =
    let ds = globals p.units in
    let of_b = λ (e : Declaration). not (bytes_eq (name_of e) (name_of b)) || joins e.item b.item in
    let one = each_get (IsLikeEarlier ds) (enumerate_from 0 ds)
    (each_unmapped (IsLikeEarlier ds) Holds
    (λ (d : ℕ × Declaration). check (is_like_earlier joins (take d.0 ds) d.1) (DefinedTwice d.1.unit (name_of d.1)))
    (enumerate_from 0 ds) (λ x h. h) (each_passes_of (definition_tests p.units) (definitions_pass p k))) j (j, b) (numbered ds j b bj) in
    let two = each_get (λ (e : Declaration). of_b e ≡ true) (take j ds) (each_of_all of_b (take j ds) one) i a (take_get ds j i a lt ai) in
    let eq = bytes_eq (name_of a) (name_of b) in
    elim (or_cases (not eq) (joins a.item b.item) two) [
      | inl n ↦ absurd (both_ways eq (not-true eq n) (names_same (name_of a) (name_of b) same))
      | inr t ↦ t
    ]

-- so one is not a variable and the other a function
no_variable : (p : Program) → IsLinked p → (i j : ℕ) (d e : Declaration) (x : Variable) (f : Function) →
    slice_get (globals p.units) i ≡ Some d → slice_get (globals p.units) j ≡ Some e → name_of d ≡ name_of e →
    d.item ≡ OfVariable x → e.item ≡ OfFunction f → ⊥
no_variable p k i j d e x f di ej same dx ef = elim (cases_order i j) [
  | inl q ↦ (
      let s : Some d ≡ Some e = sym di ∙ ap (slice_get (globals p.units)) q ∙ ej in
      let t : d ≡ e = cc in
      let u : OfVariable x ≡ OfFunction f = sym dx ∙ ap (λ (r : Declaration). r.item) t ∙ ef in absurd (cc))
  | inr (inl lt) ↦ (
      let j1 : joins d.item e.item ≡ true = joined p k i j d e lt di ej same in
      let j2 = subst (λ b. joins d.item b ≡ true) ef j1 in
      let t : joins (OfVariable x) (OfFunction f) ≡ true = subst (λ a. joins a (OfFunction f) ≡ true) dx j2 in absurd (cc))
  | inr (inr lt) ↦ (
      let j1 : joins e.item d.item ≡ true = joined p k j i e d lt ej di (sym same) in
      let j2 = subst (λ b. joins e.item b ≡ true) dx j1 in
      let t : joins (OfFunction f) (OfVariable x) ≡ true = subst (λ a. joins a (OfVariable x) ≡ true) ef j2 in absurd (cc))
]

filter_get : {X : Type 0} (p : X → Bool) (xs : List X) (i : ℕ) (x : X) → slice_get xs i ≡ Some x → p x ≡ true →
    (j : ℕ) × (slice_get (filter p xs) j ≡ Some x)
filter_get p [] i x e h = absurd (cc)
filter_get p (y ∷ ys) zero x e h = let s : y ≡ x = cc in (0, rw (ap p s ∙ h) (ap (λ z. Some z) s))
filter_get p (y ∷ ys) (suc i) x e h = at (p y) (filter_get p ys i x e h)
  where
    at : (b : Bool) → (j : ℕ) × (slice_get (filter p ys) j ≡ Some x) →
        (j : ℕ) × (slice_get (cond b (y ∷ filter p ys) (filter p ys)) j ≡ Some x)
    at true r = (suc r.0, r.1)
    at false r = r

-- ---- each key is declared

abbrev pub IsDeclared : List Unit → Declaration → Type 0
IsDeclared units d = (i : ℕ) × (slice_get (declarations units) i ≡ Some d)

abbrev pub IsKept : List Unit → Declaration → Type 0
IsKept units d = IsDeclared units d × (is_key units d.item ≡ true)

each_kept : {X : Type 0} (P : X → Type 0) (q : X → Bool) (xs : List X) → EachOf P xs → EachOf (λ x. P x × (q x ≡ true)) (filter q xs)
each_kept P q [] e = tt
each_kept P q (x ∷ xs) e = at (q x) refl (each_kept P q xs e.1)
  where
    at : (b : Bool) → q x ≡ b → EachOf (λ x. P x × (q x ≡ true)) (filter q xs) →
        EachOf (λ x. P x × (q x ≡ true)) (cond b (x ∷ filter q xs) (filter q xs))
    at true h r = ((e.0, h), r)
    at false h r = r

pub keys_kept : (units : List Unit) → EachOf (IsKept units) (keys units)
unfolding keys
keys_kept units =
    let test = λ (d : Declaration). is_key units d.item in
    each_first (IsKept units) same_key [] (filter test (declarations units))
    (each_kept (IsDeclared units) test (declarations units) (each_item (IsDeclared units) (declarations units) (λ i x h. (i, h))))

-- ---- the entry

entry_function : (entry : List ℕ) (item : Item) → is_entry entry item ≡ true →
    (f : Function) × (item ≡ OfFunction f) × (f.is_static ≡ false) × (f.name ≡ entry)
entry_function entry (OfFunction f) h =
    let t = and_parts (not f.is_static) (bytes_eq f.name entry) h in (f, refl, not-true f.is_static t.0, same_names f.name entry t.1)
entry_function entry (OfVariable x) h = absurd (cc)
entry_function entry (OfExternal x) h = absurd (cc)

entry_named : (units : List Unit) (entry : List ℕ) (d : Declaration) → is_entry entry d.item ≡ true →
    (is_global_named entry d ≡ true) × (is_key units d.item ≡ true)
entry_named units entry d t =
    let c = entry_function entry d.item t in
    let f : Function = c.0 in
    let of = λ (item : Item). (is_global_named entry (record { unit = d.unit; item = item }) ≡ true) × (is_key units item ≡ true) in
    subst of (sym c.1) (global_from entry (of_function d.unit f) c.3 c.2, refl)

abbrev defines_name : List ℕ → Declaration → Bool
defines_name n d = is_global_definition d && bytes_eq (name_of d) n

entry_defines : (units : List Unit) (entry : List ℕ) (i : ℕ) (d : Declaration) (f : Function) →
    slice_get (declarations units) i ≡ Some d → d.item ≡ OfFunction f → f.is_static ≡ false → f.name ≡ entry →
    defines_global units entry ≡ true
unfolding defines_global
entry_defines units entry i d f at is s n =
    any_get (defines_name entry) (declarations units) i d at
    (subst (λ (item : Item). defines_name entry (record { unit = d.unit; item = item }) ≡ true) (sym is)
    (and_from (not f.is_static) (bytes_eq f.name entry) (rw s refl) (names_same f.name entry n)))

-- the declaration d of the function f has the entry's name
record IsEntryAt (p : Program) (d : Declaration) (f : Function) (i : ℕ) : Type 0 where
  pub at : slice_get (declarations p.units) i ≡ Some d
  pub is : d.item ≡ OfFunction f
  pub global : f.is_static ≡ false
  pub named : f.name ≡ p.entry

-- the first key with the entry's name is the function
named_is_entry : (p : Program) → IsLinked p → (d0 d : Declaration) (f0 : Function) (i0 : ℕ) → IsEntryAt p d0 f0 i0 → IsKept p.units d →
    name_of d ≡ p.entry → is_static d ≡ false → (item : Item) → d.item ≡ item → is_entry p.entry d.item ≡ true
named_is_entry p k d0 d f0 i0 e0 kept name static (OfFunction f) is =
    let same : f.name ≡ p.entry = sym (ap (λ (z : Item). name_of (record { unit = d.unit; item = z })) is) ∙ name in
    let global : f.is_static ≡ false = sym (ap (λ (z : Item). is_static (record { unit = d.unit; item = z })) is) ∙ static in
    subst (λ (z : Item). is_entry p.entry z ≡ true) (sym is)
    (and_from (not f.is_static) (bytes_eq f.name p.entry) (rw global refl) (names_same f.name p.entry same))
named_is_entry p k d0 d f0 i0 e0 kept name static (OfVariable x) is =
    let inner : not (is_external d.item) ≡ true = subst (λ z. not (is_external z) ≡ true) (sym is) refl in
    let global : is_global_definition d ≡ true = and_from (not (is_external d.item)) (not (is_static d)) inner (rw static refl) in
    let global0 : is_global_definition d0 ≡ true =
    subst (λ (z : Item). is_global_definition (record { unit = d0.unit; item = z }) ≡ true) (sym e0.is) (rw e0.global refl) in
    let a = filter_get is_global_definition (declarations p.units) kept.0.0 d kept.0.1 global in
    let b = filter_get is_global_definition (declarations p.units) i0 d0 e0.at global0 in
    let name0 : name_of d0 ≡ p.entry = ap (λ (z : Item). name_of (record { unit = d0.unit; item = z })) e0.is ∙ e0.named in
    absurd (no_variable p k a.0 b.0 d d0 x f0 a.1 b.1 (name ∙ sym name0) is e0.is)
named_is_entry p k d0 d f0 i0 e0 kept name static (OfExternal x) is =
    let stays : stays_external p.units x.name ≡ true = subst (λ z. is_key p.units z ≡ true) is kept.1 in
    let same : x.name ≡ p.entry = sym (ap (λ (z : Item). name_of (record { unit = d.unit; item = z })) is) ∙ name in
    let none = not-true (defines_global p.units x.name) (and_parts (not (defines_global p.units x.name)) _ stays).0 in
    let some = subst (λ n. defines_global p.units n ≡ true) (sym same)
    (entry_defines p.units p.entry i0 d0 f0 e0.at e0.is e0.global e0.named) in
    absurd (both_ways (defines_global p.units x.name) none some)

abbrev entry_test : Program → Declaration → Bool
entry_test p d = is_entry p.entry d.item

-- some key is the entry
entry_stands : (p : Program) → IsLinked p → list_any (entry_test p) (keys p.units) ≡ true
entry_stands p k =
    let h = has_entry p k in
    let e = any_item (entry_test p) (declarations p.units) h in
    let d0 : Declaration = e.1 in
    let c = entry_function p.entry d0.item e.3 in
    let pos = key_any p.units (is_global_named p.entry) (entry_test p) (global_alike p.entry) (λ x t. entry_named p.units p.entry x t) h in
    let found = position-Some (is_global_named p.entry) (keys p.units) pos.0 d0 pos.1 in
    let d : Declaration = get_or (keys p.units) pos.0 d0 in
    let at : slice_get (keys p.units) pos.0 ≡ Some d = slice_get-get_or (keys p.units) pos.0 d0 found.0 in
    let named = global_parts p.entry d found.1 in
    let e0 : IsEntryAt p d0 c.0 e.0 = record { at = e.2; is = c.1; global = c.2; named = c.3 } in
    any_get (entry_test p) (keys p.units) pos.0 d at
    (named_is_entry p k d0 d c.0 e.0 e0 (each_get (IsKept p.units) (keys p.units)
    (keys_kept p.units) pos.0 d at) named.0 named.1 d.item refl)

pub entry_is : (p : Program) → IsLinked p → HasEntry p
unfolding entry_key
entry_is p k =
    let h = entry_stands p k in
    let pos = position_some (entry_test p) (keys p.units) h in
    let d0 : Declaration = (any_item (entry_test p) (keys p.units) h).1 in
    let found = position-Some (entry_test p) (keys p.units) pos.0 d0 pos.1 in
    let d : Declaration = get_or (keys p.units) pos.0 d0 in
    let at : slice_get (keys p.units) pos.0 ≡ Some d = slice_get-get_or (keys p.units) pos.0 d0 found.0 in
    let c = entry_function p.entry d.item found.1 in record {
      key = pos.0;
      unit = d.unit;
      function = c.0;
      is = at ∙ ap (λ (z : Item). Some (record { unit = d.unit; item = z })) c.1;
      named = c.3;
      global = c.2;
      first = pos.1;
    }
