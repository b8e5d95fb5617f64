-- A name that a unit uses, and that it defines or declares, means a key.
use Rattle.std.proofs.Common.{◌≡◌, ℕ, zero, suc, ◌<◌, ◌⊎◌, inl, inr, Bool, true, false, not, ◌&&◌, ◌||◌, List, [], ◌∷◌, length, map}
use Rattle.std.proofs.Common.{position, Some, refl, sym, ◌∙◌, ap, subst, arith, if◌then◌else◌, cond}
use Rattle.std.specs.Prelude.{slice_get, filter, ◌==◌}
use Rattle.std.specs.List.{list_any, enumerate_from, position_or_len}
use Rattle.std.specs.Str.{bytes_eq}
use Rattle.std.specs.Cmp.Lexicographic.{bytes_decides}
use Rattle.std.proofs.lemmas.Bool.{and_parts, and_from, or_cases, both_ways, cases_Bool, not-true, lt-ltb, eqb-true, eq-eqb}
use Rattle.asm_syntax.specs.declared.instr.Function.{Function}
use Rattle.asm_syntax.specs.declared.unit.Variable.{Variable}
use Rattle.asm_syntax.specs.declared.unit.External.{External}
use Rattle.asm_syntax.specs.declared.unit.Unit.{Unit}
use Rattle.link_model.specs.Sets.{first_of_each}
use Rattle.link_model.specs.Program.{Item, OfFunction, OfVariable, OfExternal, Declaration, name_of, item_is_static, is_static}
use Rattle.link_model.specs.Program.{is_external, is_global_definition, unit_declarations, declarations, names_used, defines, declares}
use Rattle.link_model.specs.Program.{defines_global, is_referred, stays_external, is_key, same_key, keys, is_static_named, is_global_named}
use Rattle.link_model.specs.Program.{unit_declares, resolve}
use Rattle.link_laws.specs.Laws.{of_function, of_variable}
use Rattle.link_laws.proofs.Items.{any_get, any_item, any_left, any_right, any_flat}
use Rattle.link_laws.proofs.KeyTests.{numbered}

pub same_names : (a b : List ℕ) → bytes_eq a b ≡ true → a ≡ b
same_names a b h = (bytes_decides a b).0 h

pub names_same : (a b : List ℕ) → a ≡ b → bytes_eq a b ≡ true
names_same a b h = (bytes_decides a b).1 h

-- ---- lists

any_map : {X Y : Type 0} (p : Y → Bool) (f : X → Y) (xs : List X) (i : ℕ) (x : X) → slice_get xs i ≡ Some x → p (f x) ≡ true →
    list_any p (map f xs) ≡ true
any_map p f [] i x e h = absurd (cc)
any_map p f (y ∷ ys) zero x e h = let s : y ≡ x = cc in rw (ap (λ z. p (f z)) s ∙ h) refl
any_map p f (y ∷ ys) (suc i) x e h = rw (any_map p f ys i x e h) (grind arith)

seen_any : {X : Type 0} (alike : X → X → Bool) (p : X → Bool) (x : X) (seen : List X) → ((y : X) → alike x y ≡ true → p y ≡ true) →
    list_any (alike x) seen ≡ true → list_any p seen ≡ true
seen_any alike p x [] k h = absurd (cc)
seen_any alike p x (y ∷ ys) k h = elim (or_cases (alike x y) (list_any (alike x) ys) h) [
  | inl t ↦ rw (k y t) refl
  | inr t ↦ rw (seen_any alike p x ys k t) (grind arith)
]

abbrev AmongFirst : {X : Type 0} → (X → X → Bool) → (X → Bool) → List X → List X → Type 0
AmongFirst alike p seen firsts = (list_any p seen ≡ true) ⊎ (list_any p firsts ≡ true)

-- what passes stands among the first of each, where those that are alike pass too
first_any : {X : Type 0} (alike : X → X → Bool) (p : X → Bool) (seen xs : List X) →
    ((x y : X) → p x ≡ true → alike x y ≡ true → p y ≡ true) → list_any p xs ≡ true →
    AmongFirst alike p seen (first_of_each alike seen xs)
first_any alike p seen [] k h = absurd (cc)
first_any alike p seen (x ∷ xs) k h = elim (or_cases (p x) (list_any p xs) h) [
  | inl t ↦ here (list_any (alike x) seen) refl t
  | inr t ↦ there (list_any (alike x) seen) refl (first_any alike p seen xs k t) (first_any alike p (x ∷ seen) xs k t)
]
  where
    here : (b : Bool) → list_any (alike x) seen ≡ b → p x ≡ true →
        AmongFirst alike p seen (if b then first_of_each alike seen xs else x ∷ first_of_each alike (x ∷ seen) xs)
    here true e t = inl (seen_any alike p x seen (λ y a. k x y t a) e)
    here false e t = inr (rw t refl)

    there : (b : Bool) → list_any (alike x) seen ≡ b → AmongFirst alike p seen (first_of_each alike seen xs) →
        AmongFirst alike p (x ∷ seen) (first_of_each alike (x ∷ seen) xs) →
        AmongFirst alike p seen (if b then first_of_each alike seen xs else x ∷ first_of_each alike (x ∷ seen) xs)
    there true e one two = one
    there false e one two = elim two [
      | inl q ↦ elim (or_cases (p x) (list_any p seen) q) [ inl t ↦ inr (rw t refl) | inr t ↦ inl t ]
      | inr q ↦ inr (rw q (grind arith))
    ]

first_below : {X : Type 0} (p : X → Bool) (xs : List X) → list_any p xs ≡ true → position_or_len p xs < length xs
first_below p [] h = absurd (cc)
first_below p (x ∷ xs) h = elim (cases_Bool (p x)) [
  | inl t ↦ rw t (omega arith)
  | inr f ↦ (let rest : list_any p xs ≡ true = rw f at h in let lt = first_below p xs rest in rw f (omega arith))
]

pub position_some : {X : Type 0} (p : X → Bool) (xs : List X) → list_any p xs ≡ true → (j : ℕ) × (position p xs ≡ Some j)
position_some p xs h = (position_or_len p xs, rw (lt-ltb (position_or_len p xs) (length xs) (first_below p xs h)) refl)

any_kept : {X : Type 0} (p q r : X → Bool) (xs : List X) → ((x : X) → q x ≡ true → (p x ≡ true) × (r x ≡ true)) →
    list_any q xs ≡ true → list_any p (filter r xs) ≡ true
any_kept p q r [] k h = absurd (cc)
any_kept p q r (x ∷ xs) k h = elim (or_cases (q x) (list_any q xs) h) [
  | inl t ↦ rw ((k x t).1) (rw ((k x t).0) refl)
  | inr t ↦ at (r x) (any_kept p q r xs k t)
]
  where
    at : (b : Bool) → list_any p (filter r xs) ≡ true → list_any p (cond b (x ∷ filter r xs) (filter r xs)) ≡ true
    at true e = rw e (grind arith)
    at false e = e

-- ---- declarations and keys

-- a declaration of a unit passes a test
declared_any : (units : List Unit) (p : Declaration → Bool) (u : ℕ) (unit : Unit) → slice_get units u ≡ Some unit →
    list_any p (unit_declarations u unit) ≡ true → list_any p (declarations units) ≡ true
unfolding declarations
declared_any units p u unit e h =
    any_flat p (λ (q : ℕ × Unit). unit_declarations q.0 q.1) (enumerate_from 0 units) u (u, unit) (numbered units u unit e) h

-- keys of one name share the test p, and a declaration that passes q passes p and is a key
pub key_any : (units : List Unit) (p q : Declaration → Bool) → ((x y : Declaration) → p x ≡ true → same_key x y ≡ true → p y ≡ true) →
    ((x : Declaration) → q x ≡ true → (p x ≡ true) × (is_key units x.item ≡ true)) →
    list_any q (declarations units) ≡ true → (j : ℕ) × (position p (keys units) ≡ Some j)
unfolding keys
key_any units p q alike stands h =
    let kept = filter (λ d. is_key units d.item) (declarations units) in
    elim (first_any same_key p [] kept alike (any_kept p q (λ d. is_key units d.item) (declarations units) stands h)) [
      | inl e ↦ absurd (cc)
      | inr e ↦ position_some p (keys units) e
    ]

-- ---- names

static_parts : (u : ℕ) (n : List ℕ) (d : Declaration) → is_static_named u n d ≡ true →
    (name_of d ≡ n) × (is_static d ≡ true) × (d.unit ≡ u)
static_parts u n d h =
    let a = and_parts (bytes_eq (name_of d) n && is_static d) (d.unit == u) h in
    let b = and_parts (bytes_eq (name_of d) n) (is_static d) a.0 in
    (same_names (name_of d) n b.0, b.1, eqb-true d.unit u a.1)

static_from : (u : ℕ) (n : List ℕ) (d : Declaration) → name_of d ≡ n → is_static d ≡ true → d.unit ≡ u → is_static_named u n d ≡ true
static_from u n d a b c =
    and_from (bytes_eq (name_of d) n && is_static d) (d.unit == u)
    (and_from (bytes_eq (name_of d) n) (is_static d) (names_same (name_of d) n a) b) (eq-eqb d.unit u c)

pub global_parts : (n : List ℕ) (d : Declaration) → is_global_named n d ≡ true → (name_of d ≡ n) × (is_static d ≡ false)
global_parts n d h =
    let a = and_parts (bytes_eq (name_of d) n) (not (is_static d)) h in
    (same_names (name_of d) n a.0, not-true (is_static d) a.1)

pub global_from : (n : List ℕ) (d : Declaration) → name_of d ≡ n → is_static d ≡ false → is_global_named n d ≡ true
global_from n d a b = and_from (bytes_eq (name_of d) n) (not (is_static d)) (names_same (name_of d) n a) (rw b refl)

-- what two declarations of one key share
key_parts : (x y : Declaration) → same_key x y ≡ true →
    (name_of x ≡ name_of y) × ((if is_static x then is_static y && (x.unit == y.unit) else not (is_static y)) ≡ true)
key_parts x y s =
    let rest = if is_static x then is_static y && (x.unit == y.unit) else not (is_static y) in
    let b = and_parts (bytes_eq (name_of x) (name_of y)) rest s in (same_names (name_of x) (name_of y) b.0, b.1)

static_alike : (u : ℕ) (n : List ℕ) (x y : Declaration) → is_static_named u n x ≡ true → same_key x y ≡ true →
    is_static_named u n y ≡ true
static_alike u n x y h s =
    let a = static_parts u n x h in
    let b = key_parts x y s in
    let c : (is_static y && (x.unit == y.unit)) ≡ true = rw (a.1) at (b.1) in
    let d = and_parts (is_static y) (x.unit == y.unit) c in
    static_from u n y (sym b.0 ∙ a.0) d.0 (sym (eqb-true x.unit y.unit d.1) ∙ a.2)

pub global_alike : (n : List ℕ) (x y : Declaration) → is_global_named n x ≡ true → same_key x y ≡ true → is_global_named n y ≡ true
global_alike n x y h s =
    let a = global_parts n x h in
    let b = key_parts x y s in
    let c : not (is_static y) ≡ true = rw (a.1) at (b.1) in
    global_from n y (sym b.0 ∙ a.0) (not-true (is_static y) c)

static_is_key : (units : List Unit) (item : Item) → item_is_static item ≡ true → is_key units item ≡ true
static_is_key units (OfFunction f) h = refl
static_is_key units (OfVariable x) h = refl
static_is_key units (OfExternal x) h = absurd (cc)

pub definition_is_key : (units : List Unit) (item : Item) → is_external item ≡ false → is_key units item ≡ true
definition_is_key units (OfFunction f) h = refl
definition_is_key units (OfVariable x) h = refl
definition_is_key units (OfExternal x) h = absurd (cc)

-- ---- what a unit defines

abbrev global_definition_of : List ℕ → Declaration → Bool
global_definition_of n d = is_global_definition d && bytes_eq (name_of d) n

abbrev HasDefinition : List Unit → ℕ → List ℕ → Type 0
HasDefinition units u n = (list_any (is_static_named u n) (declarations units) ≡ true) ⊎ (defines_global units n ≡ true)

-- a test that an item passes in its unit passes among the unit's declarations
abbrev IsOfUnit : ℕ → Unit → Item → Type 0
IsOfUnit u unit item =
    (p : Declaration → Bool) → p (record { unit = u; item = item }) ≡ true → list_any p (unit_declarations u unit) ≡ true

item_defined : (units : List Unit) (u : ℕ) (unit : Unit) (n : List ℕ) (item : Item) → slice_get units u ≡ Some unit →
    is_external item ≡ false → IsOfUnit u unit item → name_of (record { unit = u; item = item }) ≡ n → HasDefinition units u n
unfolding defines_global
item_defined units u unit n item e d in_unit name =
    let here : Declaration = record { unit = u; item = item } in
    elim (cases_Bool (item_is_static item)) [
      | inl t ↦ inl (declared_any units (is_static_named u n) u unit e (in_unit (is_static_named u n) (static_from u n here name t refl)))
      | inr f ↦ inr (declared_any units (global_definition_of n) u unit e (in_unit (global_definition_of n)
          (and_from (is_global_definition here) (bytes_eq (name_of here) n)
          (and_from (not (is_external item)) (not (item_is_static item)) (rw d refl) (rw f refl)) (names_same (name_of here) n name))))
    ]

abbrev of_external : ℕ → External → Declaration
of_external u x = record { unit = u; item = OfExternal x }

function_in_unit : (u : ℕ) (unit : Unit) (i : ℕ) (f : Function) → slice_get unit.functions i ≡ Some f → IsOfUnit u unit (OfFunction f)
function_in_unit u unit i f e p h = any_left p (map (of_function u) unit.functions) _ (any_map p (of_function u) unit.functions i f e h)

variable_in_unit : (u : ℕ) (unit : Unit) (i : ℕ) (x : Variable) → slice_get unit.variables i ≡ Some x → IsOfUnit u unit (OfVariable x)
variable_in_unit u unit i x e p h =
    any_right p (map (of_function u) unit.functions) _ (any_left p (map (of_variable u) unit.variables) _
    (any_map p (of_variable u) unit.variables i x e h))

external_in_unit : (u : ℕ) (unit : Unit) (i : ℕ) (x : External) → slice_get unit.externals i ≡ Some x → IsOfUnit u unit (OfExternal x)
external_in_unit u unit i x e p h =
    any_right p (map (of_function u) unit.functions) _ (any_right p (map (of_variable u) unit.variables) _
    (any_map p (of_external u) unit.externals i x e h))

defined : (units : List Unit) (u : ℕ) (unit : Unit) (n : List ℕ) → slice_get units u ≡ Some unit → defines unit n ≡ true →
    HasDefinition units u n
defined units u unit n e h =
    let is_function = λ (f : Function). bytes_eq f.name n in
    let is_variable = λ (x : Variable). bytes_eq x.name n in
    elim (or_cases (list_any is_function unit.functions) (list_any is_variable unit.variables) h) [
      | inl t ↦ (
          let r = any_item is_function unit.functions t in
          item_defined units u unit n (OfFunction r.1) e refl (function_in_unit u unit r.0 r.1 r.2) (same_names r.1.name n r.3))
      | inr t ↦ (
          let r = any_item is_variable unit.variables t in
          item_defined units u unit n (OfVariable r.1) e refl (variable_in_unit u unit r.0 r.1 r.2) (same_names r.1.name n r.3))
    ]

-- ---- the key of a name

pub static_key : (units : List Unit) (u : ℕ) (n : List ℕ) → list_any (is_static_named u n) (declarations units) ≡ true →
    (j : ℕ) × (position (is_static_named u n) (keys units) ≡ Some j)
static_key units u n h =
    key_any units (is_static_named u n) (is_static_named u n) (static_alike u n)
    (λ x t. (t, static_is_key units x.item (static_parts u n x t).1)) h

global_key : (units : List Unit) (n : List ℕ) → defines_global units n ≡ true →
    (j : ℕ) × (position (is_global_named n) (keys units) ≡ Some j)
unfolding defines_global
global_key units n h = key_any units (is_global_named n) (global_definition_of n) (global_alike n) (λ x t.
    let a = and_parts (is_global_definition x) (bytes_eq (name_of x) n) t in
    let b = and_parts (not (is_external x.item)) (not (is_static x)) a.0 in (
      global_from n x (same_names (name_of x) n a.1) (not-true (is_static x) b.1),
      definition_is_key units x.item (not-true (is_external x.item) b.0),
    )) h

abbrev is_external_named : List ℕ → Item → Bool
is_external_named n (OfExternal x) = bytes_eq x.name n
is_external_named n _ = false

external_parts : (units : List Unit) (n : List ℕ) (u : ℕ) (item : Item) → stays_external units n ≡ true →
    is_external_named n item ≡ true → (is_global_named n (record { unit = u; item = item }) ≡ true) × (is_key units item ≡ true)
external_parts units n u (OfExternal x) s h =
    let e = same_names x.name n h in
    (global_from n (of_external u x) e refl, subst (λ m. stays_external units m ≡ true) (sym e) s)
external_parts units n u (OfFunction f) s h = absurd (cc)
external_parts units n u (OfVariable x) s h = absurd (cc)

external_key : (units : List Unit) (u : ℕ) (unit : Unit) (n : List ℕ) → slice_get units u ≡ Some unit → declares unit n ≡ true →
    stays_external units n ≡ true → (j : ℕ) × (position (is_global_named n) (keys units) ≡ Some j)
external_key units u unit n e d s =
    let r = any_item (λ (x : External). bytes_eq x.name n) unit.externals d in
    key_any units (is_global_named n) (λ p. is_external_named n p.item) (global_alike n)
    (λ x t. external_parts units n x.unit x.item s t)
    (declared_any units (λ p. is_external_named n p.item) u unit e
    (external_in_unit u unit r.0 r.1 r.2 (λ p. is_external_named n p.item) r.3))

abbrev pub uses : List ℕ → Unit → Bool
uses n unit = list_any (λ m. bytes_eq m n) (names_used unit)

stays : (units : List Unit) (u : ℕ) (unit : Unit) (n : List ℕ) → slice_get units u ≡ Some unit → uses n unit ≡ true →
    declares unit n ≡ true → defines_global units n ≡ false → defines unit n ≡ false → stays_external units n ≡ true
unfolding is_referred
stays units u unit n e used d g l =
    let here : ((uses n unit && declares unit n) && not (defines unit n)) ≡ true =
    and_from (uses n unit && declares unit n) (not (defines unit n)) (and_from (uses n unit) (declares unit n) used d) (rw l refl) in
    and_from (not (defines_global units n)) _ (rw g refl)
    (any_get (λ (m : Unit). uses n m && declares m n && not (defines m n)) units u unit e here)

pub resolves : (units : List Unit) (u : ℕ) (unit : Unit) (n : List ℕ) → slice_get units u ≡ Some unit → uses n unit ≡ true →
    (defines unit n || declares unit n) ≡ true → (j : ℕ) × (resolve units u n ≡ Some j)
unfolding resolve
resolves units u unit n e used known = elim (cases_Bool (list_any (is_static_named u n) (declarations units))) [
  | inl t ↦ (let k = static_key units u n t in (k.0, rw t k.1))
  | inr f ↦ elim (cases_Bool (defines_global units n)) [
    | inl t ↦ (let k = global_key units n t in (k.0, rw (f, t) k.1))
    | inr g ↦ elim (cases_Bool (defines unit n)) [
      | inl d ↦ elim (defined units u unit n e d) [ inl t ↦ absurd (both_ways _ f t) | inr t ↦ absurd (both_ways _ g t) ]
      | inr l ↦ (
          let d : declares unit n ≡ true = rw l at known in
          let at : unit_declares units u n ≡ true = rw e d in
          let k = external_key units u unit n e d (stays units u unit n e used d g l) in
          (k.0, rw (f, g, at) k.1))
    ]
  ]
]
