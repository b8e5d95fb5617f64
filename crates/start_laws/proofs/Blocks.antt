-- The blocks of the variables at first.
use Rattle.std.proofs.Common.{◌≡◌, ℕ, zero, suc, ◌+◌, ◌<◌, ◌≤◌, Bool, true, false, List, [], ◌∷◌, ◌++◌, length, map, Option, Some, None}
use Rattle.std.proofs.Common.{refl, sym, ap, ◌∙◌, subst, arith, if◌then◌else◌}
use Rattle.std.specs.Prelude.{slice_get, slice_index_or, filter, flat_map, option_map}
use Rattle.std.specs.List.{enumerate_from}
use Rattle.asm_syntax.specs.declared.unit.Unit.{Unit}
use Rattle.asm_syntax.specs.declared.unit.Variable.{Variable}
use Rattle.link_model.specs.declared.key.KeyKind.TheVariants as kinds
use Rattle.link_model.specs.Numbers.{is_variable, key_of, variables}
use Rattle.link_model.specs.Program.{Declaration, Item, OfVariable, keys}
use Rattle.asm_mem.specs.Blocks.{Live, new_block}
use Rattle.asm_machine.specs.Variables.{item_block, variable_block, variable_blocks, variable_keys}
use Rattle.asm_machine.proofs.Keys.{variables_counted}
use Rattle.world_laws.proofs.Elements.{get_some, get_or_is, map_get, map_long, numbered_get, numbered_long}
use Rattle.world_laws.proofs.KindNumbers.{Picks, Picked, Passed, member}
use Rattle.world_laws.proofs.Numbers.{declaration, VariableIs}
use Rattle.start_laws.proofs.Lists.{down, reverse_down}

-- ---- the declarations that are variables

abbrev own : Declaration → List Declaration
own d = if is_variable d.item then d ∷ [] else []

own_pick : (d : Declaration) → Picks is_variable own d
own_pick d = at (is_variable d.item) refl
  where
    at : (t : Bool) → is_variable d.item ≡ t → Picks is_variable own d
    at true e = Picked d e (rw e refl)
    at false e = Passed e (rw e refl)

filtered : (ds : List Declaration) → flat_map own ds ≡ filter (λ (d : Declaration). is_variable d.item) ds
filtered [] = refl
filtered (d ∷ ds) = at (is_variable d.item) refl (filtered ds)
  where
    at : (t : Bool) → is_variable d.item ≡ t → flat_map own ds ≡ filter (λ (d : Declaration). is_variable d.item) ds
        → flat_map own (d ∷ ds) ≡ filter (λ (d : Declaration). is_variable d.item) (d ∷ ds)
    at true e r = rw e (ap (λ l. d ∷ l) r)
    at false e r = rw e r

-- the declaration of the variable number v is that of its key
pub declared : (units : List Unit) (v : ℕ) (x : Variable) (k : VariableIs units v x) (d : Declaration)
    → slice_get (variable_keys units) v ≡ Some d
    → d ≡ declaration k.unit (OfVariable x)
unfolding variable_keys key_of
declared units v x k d h =
    let m = member is_variable own own_pick (keys units) 0 v d (ap (λ l. slice_get l v) (filtered (keys units)) ∙ h) in
    let z : 0 + m.place ≡ m.place = omega arith in
    let same : Some m.place ≡ Some k.key = ap Some (sym z) ∙ sym m.number ∙ k.number in
    let place : m.place ≡ k.key = cc in
    let q : Some m.of ≡ Some (declaration k.unit (OfVariable x)) = sym m.is ∙ ap (slice_get (keys units)) place ∙ k.is in
    let of : m.of ≡ declaration k.unit (OfVariable x) = cc in
    let one : own m.of ≡ m.of ∷ [] = ap (λ t. if t then m.of ∷ [] else []) m.kind in
    let e : m.of ∷ [] ≡ d ∷ [] = sym one ∙ m.picked in
    let f : m.of ≡ d = cc in
    sym f ∙ of

-- ---- the blocks by number

pub blocks_down : (units : List Unit) → variable_blocks units (variable_keys units)
    ≡ down (λ v. slice_index_or (map (variable_block units) (enumerate_from 0 (variable_keys units))) v (new_block 0 0 false))
    (length (variables units))
unfolding variable_blocks
blocks_down units =
    reverse_down (map (variable_block units) (enumerate_from 0 (variable_keys units))) (new_block 0 0 false)
    ∙ ap (down (λ v. slice_index_or (map (variable_block units) (enumerate_from 0 (variable_keys units))) v (new_block 0 0 false)))
    (map_long (variable_block units) (enumerate_from 0 (variable_keys units)) ∙ numbered_long 0 (variable_keys units)
    ∙ sym (variables_counted units))

-- block v is that of the variable v
pub block_is : (units : List Unit) (v : ℕ) (x : Variable) (k : VariableIs units v x) → v < length (variables units)
    → slice_index_or (map (variable_block units) (enumerate_from 0 (variable_keys units))) v (new_block 0 0 false)
    ≡ item_block units v k.unit (OfVariable x)
block_is units v x k h =
    let c = variables_counted units in
    let d = get_some (variable_keys units) v (omega arith) in
    let z : 0 + v ≡ v = omega arith in
    get_or_is (map (variable_block units) (enumerate_from 0 (variable_keys units))) v (item_block units v k.unit (OfVariable x))
    (new_block 0 0 false) (
    map_get (variable_block units) (enumerate_from 0 (variable_keys units)) v
    ∙ ap (option_map (variable_block units)) (numbered_get 0 (variable_keys units) v d.0 d.1)
    ∙ ap (λ n. Some (variable_block units (n, d.0))) z
    ∙ ap (λ (e : Declaration). Some (variable_block units (v, e))) (declared units v x k d.0 d.1)
    )
