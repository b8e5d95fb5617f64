-- What a name means in a unit, by look-ups among the keys.
use Rattle.std.proofs.Common.{◌≡◌, ℕ, zero, suc, ◌+◌, ◌<◌, Bool, true, false, ◌&&◌, ◌||◌, not, List, [], ◌∷◌, ◌++◌, map, position, Option}
use Rattle.std.proofs.Common.{Some, None, refl, sym, ◌∙◌, ap, arith, if◌then◌else◌}
use Rattle.std.specs.Prelude.{slice_get, is_some, ◌==◌}
use Rattle.std.specs.Cmp.{both_ways}
use Rattle.std.specs.List.{list_any, flat_map, enumerate_from}
use Rattle.std.specs.Option.{option_map_or}
use Rattle.std.specs.Str.{bytes_eq}
use Rattle.std.proofs.lemmas.Bool.{and_parts, and_from, not-true}
use Rattle.std.proofs.lemmas.List.Folds.{list_any-append}
use Rattle.ordered_tests.proofs.Lists.{each_get}
use Rattle.asm_syntax.specs.declared.instr.Function.{Function}
use Rattle.asm_syntax.specs.declared.unit.Variable.{Variable}
use Rattle.asm_syntax.specs.declared.unit.External.{External}
use Rattle.asm_syntax.specs.declared.unit.Unit.{Unit}
use Rattle.link_model.specs.Program.{Item, OfFunction, OfVariable, OfExternal, Declaration, name_of, is_static, is_external}
use Rattle.link_model.specs.Program.{is_global_definition, unit_declarations, declarations, declares, defines_global, is_key, keys}
use Rattle.link_model.specs.Program.{is_static_named, is_global_named, unit_declares, resolve}
use Rattle.link_laws.proofs.Items.{any_get, any_item}
use Rattle.link_laws.proofs.Names.{static_key, global_parts, names_same}
use Rattle.link_laws.proofs.Entry.{IsKept, keys_kept}
use Rattle.asm_program.specs.Scopes.{is_of}
use Rattle.asm_program.proofs.ScopedNames.{static_is, global_is}
use Rattle.asm_program.proofs.KeyLists.{is_there, position_is}
use Rattle.asm_program.proofs.NameSets.{bytes_eq_swap}
use Rattle.linked_program.specs.Linked.{resolve_global}
use Rattle.linked_program.specs.Tables.{is_external_of}

-- ---- choices

if_true : {X : Type 0} (b : Bool) (x y : X) → b ≡ true → (if b then x else y) ≡ x
if_true true x y h = refl
if_true false x y h = cc

if_false : {X : Type 0} (b : Bool) (x y : X) → b ≡ false → (if b then x else y) ≡ y
if_false true x y h = cc
if_false false x y h = refl

if_same : {X : Type 0} (b : Bool) (x y : X) → x ≡ y → (if b then x else y) ≡ y
if_same true x y h = h
if_same false x y h = refl

-- ---- places among the keys

has_place : {X : Type 0} (p : X → Bool) (xs : List X) → is_some (position p xs) ≡ list_any p xs
has_place p xs = ap is_some (sym (position_is p xs)) ∙ is_there p 0 xs

key_of_place : (units : List Unit) (d : Declaration) (k : ℕ) → slice_get (keys units) k ≡ Some d → IsKept units d
key_of_place units d k at = each_get (IsKept units) (keys units) (keys_kept units) k d at

-- what passes among the keys passes among the declarations
any_declared : (units : List Unit) (p : Declaration → Bool) → list_any p (keys units) ≡ true → list_any p (declarations units) ≡ true
any_declared units p h =
    let r = any_item p (keys units) h in
    let kept = key_of_place units r.1 r.0 r.2 in
    any_get p (declarations units) kept.0.0 r.1 kept.0.1 r.3

static_there : (units : List Unit) (u : ℕ) (n : List ℕ)
    → list_any (is_static_named u n) (declarations units) ≡ is_some (position (is_static_named u n) (keys units))
static_there units u n =
    both_ways (list_any (is_static_named u n) (declarations units)) (is_some (position (is_static_named u n) (keys units)))
    (λ h. let r = static_key units u n h in ap is_some r.1)
    (λ h. any_declared units (is_static_named u n) (sym (has_place (is_static_named u n) (keys units)) ∙ h))

-- ---- a static name

static_place : (units : List Unit) (u : ℕ) (n : List ℕ) (o : Option ℕ) → o ≡ position (is_of (u + 1, n)) (keys units)
    → position (is_static_named u n) (keys units) ≡ o
static_place units u n o h = (λ i. position (λ d. static_is u n d i) (keys units)) ∙ sym h

pub resolve_static : (units : List Unit) (u : ℕ) (n : List ℕ) (k : ℕ) → Some k ≡ position (is_of (u + 1, n)) (keys units)
    → Some k ≡ resolve units u n
unfolding resolve
resolve_static units u n k h =
    let place = static_place units u n (Some k) h in
    let there = static_there units u n ∙ ap is_some place in
    sym (if_true (list_any (is_static_named u n) (declarations units)) (position (is_static_named u n) (keys units))
    (resolve_global units u n) there ∙ place)

pub resolve_other : (units : List Unit) (u : ℕ) (n : List ℕ)
    → (let none : Option ℕ = None in none ≡ position (is_of (u + 1, n)) (keys units))
    → resolve_global units u n ≡ resolve units u n
unfolding resolve
resolve_other units u n h =
    let place = static_place units u n None h in
    let there = static_there units u n ∙ ap is_some place in
    sym (if_false (list_any (is_static_named u n) (declarations units)) (position (is_static_named u n) (keys units))
    (resolve_global units u n) there)

-- ---- a global name

global_place : (units : List Unit) (n : List ℕ) (o : Option ℕ) → o ≡ position (is_of (0, n)) (keys units)
    → position (is_global_named n) (keys units) ≡ o
global_place units n o h = (λ i. position (λ d. global_is n d i) (keys units)) ∙ sym h

no_external : (units : List Unit) (n : List ℕ) (item : Item) → is_key units item ≡ true → (u : ℕ)
    → name_of (record { unit = u; item = item }) ≡ n → defines_global units n ≡ true → not (is_external item) ≡ true
no_external units n (OfFunction f) kept u name h = refl
no_external units n (OfVariable x) kept u name h = refl
no_external units n (OfExternal x) kept u name h =
    let gone = not-true (defines_global units x.name) (and_parts (not (defines_global units x.name)) _ kept).0 in
    let there : defines_global units x.name ≡ true = ap (defines_global units) name ∙ h in
    absurd (cc)

-- a key with a global name is a definition exactly where the name is defined
pub definition_is : (units : List Unit) (n : List ℕ) (k : ℕ) (d : Declaration) → slice_get (keys units) k ≡ Some d
    → is_global_named n d ≡ true
    → not (is_external d.item) ≡ defines_global units n
unfolding defines_global
definition_is units n k d at named =
    let parts = global_parts n d named in
    let kept = key_of_place units d k at in
    both_ways (not (is_external d.item)) (defines_global units n)
    (λ h. any_get (λ e. is_global_definition e && bytes_eq (name_of e) n) (declarations units) kept.0.0 d kept.0.1
    (and_from (is_global_definition d) (bytes_eq (name_of d) n)
    (and_from (not (is_external d.item)) (not (is_static d)) h (rw parts.1 refl)) (names_same (name_of d) n parts.0)))
    (λ h. no_external units n d.item kept.1 d.unit parts.0 h)

pub global_none : (units : List Unit) (u : ℕ) (n : List ℕ) → (let none : Option ℕ = None in none ≡ position (is_of (0, n)) (keys units))
    → (let none : Option ℕ = None in none ≡ resolve_global units u n)
global_none units u n h =
    sym (if_same (defines_global units n || unit_declares units u n) (position (is_global_named n) (keys units)) None
    (global_place units n None h))

-- d: whether the key is a definition; t: whether the unit declares the name
pub global_some : (units : List Unit) (u : ℕ) (n : List ℕ) (k : ℕ) (d t : Bool) → Some k ≡ position (is_of (0, n)) (keys units)
    → d ≡ defines_global units n → t ≡ unit_declares units u n → (d || t) ≡ true → Some k ≡ resolve_global units u n
global_some units u n k d t h e f both =
    sym (if_true (defines_global units n || unit_declares units u n) (position (is_global_named n) (keys units)) None
    ((λ i. sym e i || sym f i) ∙ both) ∙ global_place units n (Some k) h)

pub global_not : (units : List Unit) (u : ℕ) (n : List ℕ) (d t : Bool)
    → d ≡ defines_global units n → t ≡ unit_declares units u n → (d || t) ≡ false
    → (let none : Option ℕ = None in none ≡ resolve_global units u n)
global_not units u n d t e f neither =
    sym (if_false (defines_global units n || unit_declares units u n) (position (is_global_named n) (keys units)) None
    ((λ i. sym e i || sym f i) ∙ neither))

-- ---- the externals of a unit

module _ (u : ℕ) (n : List ℕ) where
  of_functions : (k : ℕ) (fs : List Function) → list_any (is_external_of (u, n)) (map (λ f. record { unit = k; item = OfFunction f }) fs)
      ≡ false
  of_functions k [] = refl
  of_functions k (f ∷ fs) = of_functions k fs

  of_variables : (k : ℕ) (xs : List Variable) → list_any (is_external_of (u, n)) (map (λ x. record { unit = k; item = OfVariable x }) xs)
      ≡ false
  of_variables k [] = refl
  of_variables k (x ∷ xs) = of_variables k xs

  one_step : (e b c : Bool) → ((e && b) || (e && c)) ≡ (e && (b || c))
  one_step true b c = refl
  one_step false b c = refl

  no_step : (e : Bool) → false ≡ (e && false)
  no_step true = refl
  no_step false = refl

  of_externals : (k : ℕ) (xs : List External) → list_any (is_external_of (u, n)) (map (λ x. record { unit = k; item = OfExternal x }) xs)
      ≡ (u == k && list_any (λ (x : External). bytes_eq x.name n) xs)
  of_externals k [] = no_step (u == k)
  of_externals k (x ∷ xs) =
      (λ i. (u == k && bytes_eq_swap n x.name i) || of_externals k xs i)
      ∙ one_step (u == k) (bytes_eq x.name n) (list_any (λ (x : External). bytes_eq x.name n) xs)

  or_last : (a b c : Bool) → a ≡ false → b ≡ false → (a || (b || c)) ≡ c
  or_last true b c h k = cc
  or_last false true c h k = cc
  or_last false false c h k = refl

  in_unit : (k : ℕ) (unit : Unit) → list_any (is_external_of (u, n)) (unit_declarations k unit) ≡ (u == k && declares unit n)
  in_unit k unit =
      let fs = map (λ f. record { unit = k; item = OfFunction f }) unit.functions in
      let vs = map (λ x. record { unit = k; item = OfVariable x }) unit.variables in
      let es = map (λ x. record { unit = k; item = OfExternal x }) unit.externals in
      list_any-append (is_external_of (u, n)) fs (vs ++ es)
      ∙ (ap (λ b. list_any (is_external_of (u, n)) fs || b) (list_any-append (is_external_of (u, n)) vs es)
      ∙ (or_last (list_any (is_external_of (u, n)) fs) (list_any (is_external_of (u, n)) vs) (list_any (is_external_of (u, n)) es)
      (of_functions k unit.functions) (of_variables k unit.variables) ∙ of_externals k unit.externals))

abbrev from : ℕ → List Unit → List Declaration
from k units = flat_map (λ (u : ℕ × Unit). unit_declarations u.0 u.1) (enumerate_from k units)

apart : (u k : ℕ) (b : Bool) → u < k → (u == k && b) ≡ false
apart u k b lt = let e : (u == k) ≡ false = grind arith in rw e refl

here : (k : ℕ) (b : Bool) → (k + 0 == k && b) ≡ b
here k b = let e : (k + 0 == k) ≡ true = grind arith in rw e refl

below : (u : ℕ) (n : List ℕ) (k : ℕ) (units : List Unit) → u < k → list_any (is_external_of (u, n)) (from k units) ≡ false
below u n k [] lt = refl
below u n k (unit ∷ units) lt =
    list_any-append (is_external_of (u, n)) (unit_declarations k unit) (from (k + 1) units)
    ∙ (ap (λ b. b || list_any (is_external_of (u, n)) (from (k + 1) units)) (in_unit u n k unit ∙ apart u k (declares unit n) lt)
    ∙ below u n (k + 1) units (omega arith))

or_false : (a b : Bool) → b ≡ false → (a || b) ≡ a
or_false true b h = refl
or_false false b h = h

at_unit : (n : List ℕ) (k j : ℕ) (units : List Unit)
    → list_any (is_external_of (k + j, n)) (from k units) ≡ option_map_or (λ unit. declares unit n) (slice_get units j) false
at_unit n k zero [] = refl
at_unit n k (suc j) [] = refl
at_unit n k zero (unit ∷ units) =
    list_any-append (is_external_of (k + 0, n)) (unit_declarations k unit) (from (k + 1) units)
    ∙ (or_false (list_any (is_external_of (k + 0, n)) (unit_declarations k unit))
    (list_any (is_external_of (k + 0, n)) (from (k + 1) units))
    (below (k + 0) n (k + 1) units (omega arith)) ∙ (in_unit (k + 0) n k unit ∙ here k (declares unit n)))
at_unit n k (suc j) (unit ∷ units) =
    let e : k + suc j ≡ k + 1 + j = omega arith in
    let past : (k + suc j == k && declares unit n) ≡ false = (let f : (k + suc j == k) ≡ false = grind arith in rw f refl) in
    list_any-append (is_external_of (k + suc j, n)) (unit_declarations k unit) (from (k + 1) units)
    ∙ (ap (λ b. b || list_any (is_external_of (k + suc j, n)) (from (k + 1) units)) (in_unit (k + suc j) n k unit ∙ past)
    ∙ (ap (λ u. list_any (is_external_of (u, n)) (from (k + 1) units)) e ∙ at_unit n (k + 1) j units))

pub declares_is : (units : List Unit) (u : ℕ) (n : List ℕ) → list_any (is_external_of (u, n)) (declarations units) ≡ unit_declares units u n
unfolding declarations
declares_is units u n =
    let e : u ≡ 0 + u = omega arith in
    ap (λ v. list_any (is_external_of (v, n)) (from 0 units)) e ∙ at_unit n 0 u units
