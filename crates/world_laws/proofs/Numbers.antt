-- Functions, variables and externals by their numbers, and the keys that they are.
use Rattle.std.proofs.Common.{◌≡◌, ℕ, zero, suc, ◌+◌, ◌<◌, Bool, true, false, List, [], ◌∷◌, length, map, Option, Some, None, refl, sym}
use Rattle.std.proofs.Common.{ap, ◌∙◌, subst, arith, if◌then◌else◌}
use Rattle.std.specs.Prelude.{slice_get, slice_index_or, is_some, position, option_map, unwrap_or, ◌||◌}
use Rattle.std.specs.List.{enumerate_from, list_any}
use Rattle.std.specs.Option.{option_map_or}
use Rattle.asm_syntax.specs.declared.instr.Function.{Function}
use Rattle.asm_syntax.specs.declared.instr.Instr.{Instr}
use Rattle.asm_syntax.specs.declared.unit.Unit.{Unit}
use Rattle.asm_syntax.specs.declared.unit.Variable.{Variable}
use Rattle.link_model.specs.declared.key.KeyKind.{KeyKind}
use Rattle.link_model.specs.declared.key.KeyKind.TheVariants as kinds
use Rattle.link_model.specs.Numbers.{is_function, is_variable, item_variables, item_kind, key_of, number_before, numbers_of, variables}
use Rattle.link_model.specs.Program.{Declaration, Item, OfFunction, OfVariable, OfExternal, keys, declarations, resolve, is_static_named}
use Rattle.link_model.specs.Program.{is_global_named, defines_global, unit_declares}
use Rattle.asm_values.specs.Operands.{kind_at}
use Rattle.asm_step.specs.LinkedCode.{Routine}
use Rattle.asm_machine.specs.Executables.{routine_of, item_routines, routines, key_kind, key_kinds}
use Rattle.world_laws.proofs.Elements.{get_some, get_or_is, map_get, map_long, numbered_get, numbered_long, position_below}
use Rattle.world_laws.proofs.KindNumbers.{Picks, Picked, Passed, Member, member, counted, once}

abbrev pub declaration : ℕ → Item → Declaration
declaration u item = record { unit = u; item = item }

-- ---- functions

abbrev function_pick : List Unit → Declaration → List Routine
function_pick units d = item_routines units d.unit d.item

functions_pick : (units : List Unit) (d : Declaration) → Picks is_function (function_pick units) d
functions_pick units d = at d.item refl
  where
    at : (i : Item) → d.item ≡ i → Picks is_function (function_pick units) d
    at (OfFunction f) q = Picked (routine_of units d.unit f) (ap is_function q) (ap (item_routines units d.unit) q)
    at (OfVariable x) q = Passed (ap is_function q) (ap (item_routines units d.unit) q)
    at (OfExternal x) q = Passed (ap is_function q) (ap (item_routines units d.unit) q)

-- the key of a function
pub record FunctionIs (units : List Unit) (f : ℕ) (r : Routine) : Type 0 where
  pub key : ℕ
  pub unit : ℕ
  pub function : Function
  pub is : slice_get (keys units) key ≡ Some (declaration unit (OfFunction function))
  pub number : key_of units (kinds.Function f) ≡ Some key
  pub routine : r ≡ routine_of units unit function

pub function_is : (units : List Unit) (f : ℕ) (r : Routine) → slice_get (routines units) f ≡ Some r → FunctionIs units f r
unfolding routines key_of
function_is units f r h =
    let m = member is_function (function_pick units) (functions_pick units) (keys units) 0 f r h in
    let z : 0 + m.place ≡ m.place = omega arith in
    by m.of m.place m.is m.kind m.picked (m.number ∙ ap Some z)
  where
    by : (d : Declaration) → (place : ℕ) → slice_get (keys units) place ≡ Some d → is_function d.item ≡ true
        → function_pick units d ≡ r ∷ []
        → slice_get (numbers_of is_function units) f ≡ Some place → FunctionIs units f r
    by d place is kind picked number = at d.item refl
      where
        at : (i : Item) → d.item ≡ i → FunctionIs units f r
        at (OfFunction x) q =
            let e : item_routines units d.unit (OfFunction x) ≡ r ∷ [] = ap (item_routines units d.unit) (sym q) ∙ picked in
            let s : routine_of units d.unit x ≡ r = cc in
            record {
              key = place;
              unit = d.unit;
              function = x;
              is = is ∙ ap (λ i. Some (declaration d.unit i)) q;
              number = number;
              routine = sym s;
            }
        at (OfVariable x) q = let e : is_function (OfVariable x) ≡ true = ap is_function (sym q) ∙ kind in cc
        at (OfExternal x) q = let e : is_function (OfExternal x) ≡ true = ap is_function (sym q) ∙ kind in cc

-- each function is another key
pub function_once : (units : List Unit) (f h k : ℕ) → key_of units (kinds.Function f) ≡ Some k → key_of units (kinds.Function h) ≡ Some k
    → f ≡ h
unfolding key_of
function_once units f h k a b = once is_function (function_pick units) (keys units) 0 f h k a b

-- ---- variables

variables_pick : (d : Declaration) → Picks is_variable (λ (e : Declaration). item_variables e.item) d
variables_pick d = at d.item refl
  where
    at : (i : Item) → d.item ≡ i → Picks is_variable (λ (e : Declaration). item_variables e.item) d
    at (OfVariable x) q = Picked x (ap is_variable q) (ap item_variables q)
    at (OfFunction f) q = Passed (ap is_variable q) (ap item_variables q)
    at (OfExternal x) q = Passed (ap is_variable q) (ap item_variables q)

-- the key of a variable
pub record VariableIs (units : List Unit) (v : ℕ) (x : Variable) : Type 0 where
  pub key : ℕ
  pub unit : ℕ
  pub is : slice_get (keys units) key ≡ Some (declaration unit (OfVariable x))
  pub number : key_of units (kinds.Variable v) ≡ Some key

pub variable_is : (units : List Unit) (v : ℕ) (x : Variable) → slice_get (variables units) v ≡ Some x → VariableIs units v x
unfolding variables key_of
variable_is units v x h =
    let m = member is_variable (λ (e : Declaration). item_variables e.item) variables_pick (keys units) 0 v x h in
    let z : 0 + m.place ≡ m.place = omega arith in
    by m.of m.place m.is m.kind m.picked (m.number ∙ ap Some z)
  where
    by : (d : Declaration) → (place : ℕ) → slice_get (keys units) place ≡ Some d → is_variable d.item ≡ true
        → item_variables d.item ≡ x ∷ []
        → slice_get (numbers_of is_variable units) v ≡ Some place → VariableIs units v x
    by d place is kind picked number = at d.item refl
      where
        at : (i : Item) → d.item ≡ i → VariableIs units v x
        at (OfVariable y) q =
            let e : item_variables (OfVariable y) ≡ x ∷ [] = ap item_variables (sym q) ∙ picked in
            let s : y ≡ x = cc in
            record {
              key = place;
              unit = d.unit;
              is = is ∙ ap (λ i. Some (declaration d.unit i)) q
                  ∙ ap (λ z. Some (declaration d.unit (OfVariable z))) s;
              number = number;
            }
        at (OfFunction f) q = let e : is_variable (OfFunction f) ≡ true = ap is_variable (sym q) ∙ kind in cc
        at (OfExternal y) q = let e : is_variable (OfExternal y) ≡ true = ap is_variable (sym q) ∙ kind in cc

pub variable_once : (units : List Unit) (v u k : ℕ) → key_of units (kinds.Variable v) ≡ Some k → key_of units (kinds.Variable u) ≡ Some k
    → v ≡ u
unfolding key_of
variable_once units v u k a b = once is_variable (λ (e : Declaration). item_variables e.item) (keys units) 0 v u k a b

-- ---- keys

pub kinds_long : (units : List Unit) → length (key_kinds units) ≡ length (keys units)
unfolding key_kinds
kinds_long units = map_long (key_kind units) (enumerate_from 0 (keys units)) ∙ numbered_long 0 (keys units)

pub kind_is : (units : List Unit) (k : ℕ) (d : Declaration) → slice_get (keys units) k ≡ Some d
    → kind_at (key_kinds units) k ≡ item_kind units k d.item
unfolding key_kinds
kind_is units k d h =
    let z : 0 + k ≡ k = omega arith in
    get_or_is (map (key_kind units) (enumerate_from 0 (keys units))) k (item_kind units k d.item) (kinds.External 0)
    (map_get (key_kind units) (enumerate_from 0 (keys units)) k ∙ ap (option_map (key_kind units)) (numbered_get 0 (keys units) k d h)
    ∙ ap (λ n. Some (item_kind units n d.item)) z)

-- the number of a function's key
pub function_number : (units : List Unit) (k u : ℕ) (f : Function) → slice_get (keys units) k ≡ Some (declaration u (OfFunction f))
    → (key_of units (kinds.Function (number_before is_function units k)) ≡ Some k)
    × (number_before is_function units k < length (routines units))
unfolding key_of routines
function_number units k u f h =
    let z : 0 + k ≡ k = omega arith in
    let c = counted is_function (function_pick units) (functions_pick units) (keys units) 0 k (declaration u (OfFunction f)) h refl in
    (c.0 ∙ ap Some z, c.1)

pub variable_number : (units : List Unit) (k u : ℕ) (x : Variable) → slice_get (keys units) k ≡ Some (declaration u (OfVariable x))
    → (key_of units (kinds.Variable (number_before is_variable units k)) ≡ Some k)
    × (number_before is_variable units k < length (variables units))
unfolding key_of variables
variable_number units k u x h =
    let z : 0 + k ≡ k = omega arith in
    let c = counted is_variable (λ (e : Declaration). item_variables e.item) variables_pick (keys units) 0 k
    (declaration u (OfVariable x)) h refl in
    (c.0 ∙ ap Some z, c.1)

-- a name that means a key
pub resolve_below : (units : List Unit) (u : ℕ) (n : List ℕ) (j : ℕ) → resolve units u n ≡ Some j → j < length (keys units)
unfolding resolve
resolve_below units u n j h =
    at (list_any (is_static_named u n) (declarations units)) (defines_global units n || unit_declares units u n) h
  where
    at : (a b : Bool)
        → (if a then position (is_static_named u n) (keys units) else if b then position (is_global_named n) (keys units) else None)
        ≡ Some j
        → j < length (keys units)
    at true b e = position_below (is_static_named u n) (keys units) j e
    at false true e = position_below (is_global_named n) (keys units) j e
    at false false e = cc
