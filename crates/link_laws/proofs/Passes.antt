-- All places but those of stray bytes pass exactly where all parts but `covered` hold.
use Rattle.std.proofs.Common.{◌≡◌, ℕ, ◌%◌, Bool, true, List, ◌++◌, length, map, Some, refl}
use Rattle.std.specs.Prelude.{Option, is_some, slice_get, ◌==◌}
use Rattle.std.specs.List.{list_all}
use Rattle.std.proofs.lemmas.Bool.{and_parts, and_from, eqb-true, eq-eqb}
use Rattle.ordered_tests.specs.Checks.{Check}
use Rattle.ordered_tests.specs.Lists.{EachOf}
use Rattle.ordered_tests.proofs.Lists.{each_append, each_flat, each_get, each_left, each_right}
use Rattle.asm_syntax.specs.declared.instr.Function.{Function}
use Rattle.asm_syntax.specs.declared.unit.Variable.{Variable}
use Rattle.asm_syntax.specs.declared.unit.External.{External}
use Rattle.code_model.specs.declared.spot.Spot.{Spot}
use Rattle.code_model.specs.Addresses.{is_executable_at}
use Rattle.code_model.specs.FunctionChecks.{function_checks}
use Rattle.code_model.specs.Variables.{variable_checks}
use Rattle.link_model.specs.Program.{Item, OfFunction, OfVariable, OfExternal, Declaration}
use Rattle.link_model.specs.Candidates.{Inputs, candidates}
use Rattle.link_model.specs.Uses.{all_uses}
use Rattle.link_model.specs.Binding.{numbered_keys, fitting_candidates, address_of, binding, key_address, symbol_address}
use Rattle.link_model.specs.Claims.{claims}
use Rattle.link_model.specs.Kinds.{NoneStray}
use Rattle.link_model.specs.Overlaps.{overlap_pass}
use Rattle.link_model.specs.Parts.{IsKey, IsEntered, alignment, PartsHold}
use Rattle.link_model.specs.Passes.{at_key, each_key, entry_pass, bound_checks, bound_pass, external_checks, item_external_checks}
use Rattle.link_model.specs.Passes.{external_pass, item_function_checks, function_pass, item_variable_checks, variable_pass, key_passes}
use Rattle.link_laws.proofs.Items.{each_item, each_mapped, each_unmapped, flat_each, each_of_all, all_of_each}
use Rattle.link_laws.proofs.Apartness.{numbered_key}
use Rattle.link_laws.proofs.Words.{Passes}
use Rattle.link_laws.proofs.Overlaps.{Good, overlaps_right, overlaps_pass}
use Rattle.link_laws.proofs.CodeTests.{function_placed, function_code, function_passes}
use Rattle.link_laws.proofs.KeyTests.{variable_parts, variable_passes, external_right, externals_differ, external_passes, numbered_is_key}

-- ---- one pass over the keys

key_right : (g : Inputs) (checks : ℕ × Declaration → List (Check Spot)) → EachOf Good (each_key g checks) →
    (i : ℕ) (k : ℕ × Declaration) → slice_get (numbered_keys g) i ≡ Some k → EachOf Passes (checks k)
key_right g checks e i k h =
    each_unmapped Passes Good (at_key g k.1) (checks k) (λ c q. q)
    (each_flat Good (λ (k : ℕ × Declaration). map (at_key g k.1) (checks k)) (numbered_keys g) e i k h)

key_pass : (g : Inputs) (checks : ℕ × Declaration → List (Check Spot)) →
    ((i : ℕ) (k : ℕ × Declaration) → slice_get (numbered_keys g) i ≡ Some k → EachOf Passes (checks k)) → EachOf Good (each_key g checks)
key_pass g checks h =
    flat_each Good (λ (k : ℕ × Declaration). map (at_key g k.1) (checks k)) (numbered_keys g)
    (λ i k q. each_mapped Passes Good (at_key g k.1) (checks k) (λ c p. p) (h i k q))

-- ---- the entry

entry_right : (g : Inputs) → EachOf Good (entry_pass g.image) → IsEntered g.image
unfolding entry_pass
entry_right g e =
    let t = and_parts (g.image.entry % 4 == 0) (is_executable_at g.image g.image.entry) e.0 in
    record { aligned = eqb-true (g.image.entry % 4) 0 t.0; runs = t.1 }

entry_passes : (g : Inputs) → IsEntered g.image → EachOf Good (entry_pass g.image)
unfolding entry_pass
entry_passes g p =
    let v = g.image in
    (and_from (v.entry % 4 == 0) (is_executable_at v v.entry) (eq-eqb (v.entry % 4) 0 p.aligned) p.runs, tt)

-- ---- addresses

abbrev IsBound : Inputs → ℕ × Declaration → Type 0
IsBound g k = is_some (address_of g (all_uses g) k) ≡ true

abbrev IsThere : Option ℕ → Type 0
IsThere o = is_some o ≡ true

abbrev bound_test : Inputs → ℕ × Declaration → List (Check Spot)
bound_test g k =
    bound_checks (length (candidates g.image k.1)) (length (fitting_candidates g (all_uses g) k)) (is_some (address_of g (all_uses g) k))

pub bound_right : (g : Inputs) → EachOf Good (bound_pass g) → list_all is_some (binding g) ≡ true
unfolding bound_pass binding
bound_right g e = all_of_each is_some (map (address_of g (all_uses g)) (numbered_keys g))
    (each_mapped (IsBound g) IsThere (address_of g (all_uses g)) (numbered_keys g) (λ k h. h)
    (each_item (IsBound g) (numbered_keys g) (λ i k h. (key_right g (bound_test g) e i k h).1.1.0)))

bound_each : (offered fit : ℕ) (b : Bool) → b ≡ true → EachOf Passes (bound_checks offered fit b)
bound_each offered fit b h = (rw h refl, (rw h refl, (h, tt)))

pub bound_passes : (g : Inputs) → list_all is_some (binding g) ≡ true → EachOf Good (bound_pass g)
unfolding bound_pass binding
bound_passes g h = key_pass g (bound_test g) (λ i k q. bound_each _ _ (is_some (address_of g (all_uses g) k))
    (each_get (IsBound g) (numbered_keys g)
    (each_unmapped (IsBound g) IsThere (address_of g (all_uses g)) (numbered_keys g) (λ k r. r)
    (each_of_all is_some (map (address_of g (all_uses g)) (numbered_keys g)) h)) i k q))

-- ---- externals, functions and variables

externals_right : (g : Inputs) (bs : List ℕ) → EachOf Good (external_pass g bs) → (k u : ℕ) (x : External) → IsKey g k u (OfExternal x) →
    EachOf Passes (external_checks g bs k (key_address bs k) x)
unfolding external_pass
externals_right g bs e k u x key =
    key_right g (λ k. item_external_checks g bs k.0 k.1.item) e k _ (numbered_key g k u (OfExternal x) key)

external_item : (g : Inputs) (bs : List ℕ) → PartsHold g bs → (k u : ℕ) (item : Item) → IsKey g k u item →
    EachOf Passes (item_external_checks g bs k item)
external_item g bs p k u (OfFunction f) key = tt
external_item g bs p k u (OfVariable x) key = tt
external_item g bs p k u (OfExternal x) key =
    external_passes g bs k x (p.externals k u x key) (λ j t y yk e. p.externals_differ j k t u y x yk key e)

externals_pass : (g : Inputs) (bs : List ℕ) → PartsHold g bs → EachOf Good (external_pass g bs)
unfolding external_pass
externals_pass g bs p = key_pass g (λ k. item_external_checks g bs k.0 k.1.item)
    (λ i k q. external_item g bs p k.0 k.1.unit k.1.item (numbered_is_key g i k q).1)

functions_right : (g : Inputs) (bs : List ℕ) → EachOf Good (function_pass g bs) → (k u : ℕ) (f : Function) → IsKey g k u (OfFunction f) →
    EachOf Passes (function_checks g.image g.layout (symbol_address g bs u) (key_address bs k) f.code)
unfolding function_pass
functions_right g bs e k u f key =
    key_right g (λ k. item_function_checks g bs k.0 k.1.unit k.1.item) e k _ (numbered_key g k u (OfFunction f) key)

function_item : (g : Inputs) (bs : List ℕ) → PartsHold g bs → (k u : ℕ) (item : Item) → IsKey g k u item →
    EachOf Passes (item_function_checks g bs k u item)
function_item g bs p k u (OfFunction f) key = function_passes g bs u (key_address bs k) f.code (p.placed k u f key) (p.code k u f key)
function_item g bs p k u (OfVariable x) key = tt
function_item g bs p k u (OfExternal x) key = tt

functions_pass : (g : Inputs) (bs : List ℕ) → PartsHold g bs → EachOf Good (function_pass g bs)
unfolding function_pass
functions_pass g bs p = key_pass g (λ k. item_function_checks g bs k.0 k.1.unit k.1.item)
    (λ i k q. function_item g bs p k.0 k.1.unit k.1.item (numbered_is_key g i k q).1)

variables_right : (g : Inputs) (bs : List ℕ) → EachOf Good (variable_pass g bs) → (k u : ℕ) (x : Variable) → IsKey g k u (OfVariable x) →
    EachOf Passes (variable_checks g.image g.layout (symbol_address g bs u) (alignment g u x) (key_address bs k) x)
unfolding variable_pass
variables_right g bs e k u x key =
    key_right g (λ k. item_variable_checks g bs k.0 k.1.unit k.1.item) e k _ (numbered_key g k u (OfVariable x) key)

variable_item : (g : Inputs) (bs : List ℕ) → PartsHold g bs → (k u : ℕ) (item : Item) → IsKey g k u item →
    EachOf Passes (item_variable_checks g bs k u item)
variable_item g bs p k u (OfFunction f) key = tt
variable_item g bs p k u (OfVariable x) key =
    variable_passes g.image g.layout (symbol_address g bs u) (alignment g u x) (key_address bs k) x (p.data_is k u x key)
    (p.data_placed k u x key)
variable_item g bs p k u (OfExternal x) key = tt

variables_pass : (g : Inputs) (bs : List ℕ) → PartsHold g bs → EachOf Good (variable_pass g bs)
unfolding variable_pass
variables_pass g bs p = key_pass g (λ k. item_variable_checks g bs k.0 k.1.unit k.1.item)
    (λ i k q. variable_item g bs p k.0 k.1.unit k.1.item (numbered_is_key g i k q).1)

-- ---- the whole

pub parts_pass : (g : Inputs) (bs : List ℕ) → PartsHold g bs → EachOf Good (key_passes g bs)
unfolding key_passes
parts_pass g bs p =
    each_append Good (entry_pass g.image) _ (entry_passes g p.entry)
    (each_append Good (bound_pass g) _ (bound_passes g p.bound)
    (each_append Good (external_pass g bs) _ (externals_pass g bs p)
    (each_append Good (function_pass g bs) _ (functions_pass g bs p)
    (each_append Good (variable_pass g bs) (overlap_pass (claims g bs)) (variables_pass g bs p)
    (overlaps_pass (claims g bs) p.apart)))))

pub parts_hold : (g : Inputs) (bs : List ℕ) → EachOf Good (key_passes g bs) → NoneStray g.image g.layout (claims g bs) → PartsHold g bs
unfolding key_passes
parts_hold g bs all none =
    let rest4 = variable_pass g bs ++ overlap_pass (claims g bs) in
    let rest3 = function_pass g bs ++ rest4 in
    let rest2 = external_pass g bs ++ rest3 in
    let e1 = each_right Good (entry_pass g.image) (bound_pass g ++ rest2) all in
    let e2 = each_right Good (bound_pass g) rest2 e1 in
    let e3 = each_right Good (external_pass g bs) rest3 e2 in
    let e4 = each_right Good (function_pass g bs) rest4 e3 in
    let externals = externals_right g bs (each_left Good (external_pass g bs) rest3 e2) in
    let functions = functions_right g bs (each_left Good (function_pass g bs) rest4 e3) in
    let variables = variables_right g bs (each_left Good (variable_pass g bs) (overlap_pass (claims g bs)) e4) in
    record {
      entry = entry_right g (each_left Good (entry_pass g.image) (bound_pass g ++ rest2) all);
      bound = bound_right g (each_left Good (bound_pass g) rest2 e1);
      externals = λ k u x key. external_right g bs k (key_address bs k) x (externals k u x key);
      externals_differ = externals_differ g bs externals;
      placed = λ k u f key. function_placed g bs u (key_address bs k) f.code (functions k u f key);
      code = λ k u f key. function_code g bs u (key_address bs k) f.code (functions k u f key);
      data_is = λ k u x key. (variable_parts g.image g.layout (symbol_address g bs u) (alignment g u x) (key_address bs k) x
          (variables k u x key)).0;
      data_placed = λ k u x key. (variable_parts g.image g.layout (symbol_address g bs u) (alignment g u x) (key_address bs k) x
          (variables k u x key)).1;
      apart = overlaps_right (claims g bs) (each_right Good (variable_pass g bs) (overlap_pass (claims g bs)) e4);
      covered = none;
    }
