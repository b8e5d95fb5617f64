-- Each key is a definition or a declaration of a unit, with what the tests of units tell of it.
use Rattle.std.proofs.Common.{◌≡◌, ℕ, ◌+◌, true, ◌&&◌, List, [], ◌∷◌, length, map, Some, arith}
use Rattle.std.specs.Prelude.{slice_get, flat_map, nat_le}
use Rattle.std.specs.List.{list_all, enumerate_from}
use Rattle.std.proofs.lemmas.Bool.{and_parts}
use Rattle.limits.specs.declared.TheConstants.{MOST_INSTRUCTIONS}
use Rattle.ordered_tests.specs.Lists.{EachOf}
use Rattle.ordered_tests.proofs.Lists.{each_append, each_get}
use Rattle.asm_syntax.specs.declared.instr.Function.{Function}
use Rattle.asm_syntax.specs.declared.unit.Unit.{Unit}
use Rattle.asm_shapes.specs.Shapes.{is_valid_code, HasShape}
use Rattle.asm_shapes.specs.Units.{unit_fits, function_fits, variable_fits, external_fits, counts_fit, are_distinct, unit_names, table_fits}
use Rattle.asm_shapes.proofs.ShapeLemmas.{valid_shape}
use Rattle.link_model.specs.Program.{Item, OfFunction, OfVariable, OfExternal, Declaration, unit_declarations, declarations, is_key}
use Rattle.link_model.specs.Program.{same_key, keys}
use Rattle.link_laws.specs.Laws.{of_function}
use Rattle.link_laws.proofs.Items.{each_item, each_mapped, each_filter, each_first, each_of_all, flat_each, number_from}

-- ---- where an item stands

abbrev StandsIn : Unit → Item → Type 0
StandsIn unit (OfFunction f) = (m : ℕ) × (slice_get unit.functions m ≡ Some f)
StandsIn unit (OfVariable x) = (m : ℕ) × (slice_get unit.variables m ≡ Some x)
StandsIn unit (OfExternal x) = (m : ℕ) × (slice_get unit.externals m ≡ Some x)

pub record IsIn (units : List Unit) (d : Declaration) : Type 0 where
  pub unit : Unit
  pub at : slice_get units d.unit ≡ Some unit
  pub stands : StandsIn unit d.item

each_indexed : {X Y : Type 0} (P : Y → Type 0) (f : X → Y) (xs : List X) →
    ((i : ℕ) (x : X) → slice_get xs i ≡ Some x → P (f x)) → EachOf P (map f xs)
each_indexed P f xs h = each_mapped (λ x. P (f x)) P f xs (λ x e. e) (each_item (λ x. P (f x)) xs h)

unit_each : (units : List Unit) (n : ℕ) (unit : Unit) → slice_get units n ≡ Some unit → EachOf (IsIn units) (unit_declarations n unit)
unit_each units n unit e =
    each_append (IsIn units) _ _
    (each_indexed (IsIn units) _ unit.functions (λ m f h. record { unit = unit; at = e; stands = (m, h) }))
    (each_append (IsIn units) _ _
    (each_indexed (IsIn units) _ unit.variables (λ m f h. record { unit = unit; at = e; stands = (m, h) }))
    (each_indexed (IsIn units) _ unit.externals (λ m f h. record { unit = unit; at = e; stands = (m, h) })))

declarations_each : (units : List Unit) → EachOf (IsIn units) (declarations units)
unfolding declarations
declarations_each units =
    flat_each (IsIn units) (λ (u : ℕ × Unit). unit_declarations u.0 u.1) (enumerate_from 0 units) (λ i u h.
    let r = number_from 0 units i u h in
    let e = r.0 in
    let s : u.0 ≡ i = omega arith in unit_each units u.0 u.1 (rw s r.1))

keys_each : (units : List Unit) → EachOf (IsIn units) (keys units)
unfolding keys
keys_each units = each_first (IsIn units) same_key [] _
    (each_filter (IsIn units) (λ d. is_key units d.item) (declarations units) (declarations_each units))

pub key_in : (units : List Unit) (k : ℕ) (d : Declaration) → slice_get (keys units) k ≡ Some d → IsIn units d
key_in units k d h = each_get (IsIn units) (keys units) (keys_each units) k d h

-- ---- what the tests of units tell of an item

abbrev pub ItemFits : Item → Type 0
ItemFits (OfFunction f) = function_fits f ≡ true
ItemFits (OfVariable x) = variable_fits x ≡ true
ItemFits (OfExternal x) = external_fits x ≡ true

abbrev pub Fits : Declaration → Type 0
Fits d = ItemFits d.item

unit_items : (n : ℕ) (u : Unit) → unit_fits u ≡ true → EachOf Fits (unit_declarations n u)
unit_items n u h =
    let few = counts_fit u && are_distinct (unit_names u) in
    let fs = list_all function_fits u.functions in
    let vs = list_all variable_fits u.variables in
    let all = and_parts (few && fs && vs) (list_all external_fits u.externals) h in
    let some = and_parts (few && fs) vs all.0 in
    let first = and_parts few fs some.0 in
    each_append Fits _ _ (each_mapped _ Fits _ u.functions (λ x e. e) (each_of_all function_fits u.functions first.1))
    (each_append Fits _ _ (each_mapped _ Fits _ u.variables (λ x e. e) (each_of_all variable_fits u.variables some.1))
    (each_mapped _ Fits _ u.externals (λ x e. e) (each_of_all external_fits u.externals all.1)))

items_from : (n : ℕ) (units : List Unit) → list_all unit_fits units ≡ true →
    EachOf Fits (flat_map (λ (u : ℕ × Unit). unit_declarations u.0 u.1) (enumerate_from n units))
items_from n [] h = tt
items_from n (u ∷ units) h =
    let t = and_parts (unit_fits u) (list_all unit_fits units) h in
    each_append Fits (unit_declarations n u) _ (unit_items n u t.0) (items_from (n + 1) units t.1)

declarations_fit : (units : List Unit) → list_all unit_fits units ≡ true → EachOf Fits (declarations units)
unfolding declarations
declarations_fit units h = items_from 0 units h

keys_fit : (units : List Unit) → list_all unit_fits units ≡ true → EachOf Fits (keys units)
unfolding keys
keys_fit units h = each_first Fits same_key [] _
    (each_filter Fits (λ d. is_key units d.item) (declarations units) (declarations_fit units h))

pub key_fits : (units : List Unit) → list_all unit_fits units ≡ true → (k : ℕ) (d : Declaration) → slice_get (keys units) k ≡ Some d →
    Fits d
key_fits units h k d key = each_get Fits (keys units) (keys_fit units h) k d key

pub shape_of_key : (units : List Unit) → list_all unit_fits units ≡ true → (k u : ℕ) (f : Function) →
    slice_get (keys units) k ≡ Some (of_function u f) → HasShape f.code
shape_of_key units h k u f key =
    let rest = nat_le (length f.code) MOST_INSTRUCTIONS && list_all table_fits f.code in
    valid_shape f.code (and_parts rest (is_valid_code f.code) (key_fits units h k (of_function u f) key)).1
