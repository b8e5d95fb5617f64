-- Linked units: each name that code or data refers to means a key.
use Rattle.std.proofs.Common.{◌≡◌, ℕ, true, ◌||◌, List, ◌∷◌, ◌++◌, Some, None, refl, subst}
use Rattle.std.specs.Prelude.{Option, slice_get, flat_map}
use Rattle.std.specs.List.{list_any, enumerate_from}
use Rattle.std.specs.Str.{bytes_eq}
use Rattle.ordered_tests.specs.Checks.{Check, check, first_fault}
use Rattle.ordered_tests.specs.Lists.{EachOf}
use Rattle.ordered_tests.proofs.Faults.{rest_passes, front_passes, head_passes, each_passes_of}
use Rattle.ordered_tests.proofs.Lists.{each_flat, each_left, each_right}
use Rattle.asm_syntax.specs.declared.instr.Instr.{Instr}
use Rattle.asm_syntax.specs.declared.instr.Function.{Function}
use Rattle.asm_syntax.specs.declared.unit.Variable.{Variable}
use Rattle.asm_syntax.specs.declared.unit.Init.{Init}
use Rattle.asm_syntax.specs.declared.unit.Unit.{Unit}
use Rattle.asm_syntax.specs.References.{Reference}
use Rattle.asm_syntax.specs.Instructions.{instr_symbol}
use Rattle.asm_syntax.specs.Sizes.{init_symbol}
use Rattle.link_model.specs.declared.link_error.LinkError.{LinkError}
use Rattle.link_model.specs.declared.link_error.LinkError.TheVariants.{Undeclared}
use Rattle.link_model.specs.Program.{Program, Declaration, names_in, function_names, variable_names, names_used, defines, declares}
use Rattle.link_model.specs.Program.{declarations, keys, resolve}
use Rattle.link_model.specs.Numbers.{is_entry}
use Rattle.link_model.specs.LinkTests.{unit_tests, definition_tests, unit_name_tests, name_tests, sig_tests, entry_test, size_tests}
use Rattle.link_model.specs.LinkTests.{link_tests, IsLinked}
use Rattle.link_laws.specs.Laws.{of_function, of_variable, HasNames}
use Rattle.link_laws.proofs.Items.{each_unmapped, any_flat, any_left, any_right}
use Rattle.link_laws.proofs.Keys.{key_in}
use Rattle.link_laws.proofs.KeyTests.{numbered}
use Rattle.link_laws.proofs.Names.{names_same, uses, resolves}

-- ---- the tests of linking, one after the other

abbrev sizes : Program → List (Check LinkError)
sizes p = size_tests 0 (keys p.units)

abbrev from_sigs : Program → List (Check LinkError)
from_sigs p = sig_tests p.units ++ (entry_test p.units p.entry ∷ sizes p)

abbrev NonePasses : List (Check LinkError) → Type 0
NonePasses cs = let none : Option LinkError = None in first_fault cs ≡ none

after_units : (p : Program) → IsLinked p → NonePasses (definition_tests p.units ++ (name_tests p.units ++ from_sigs p))
unfolding link_tests
after_units p k = rest_passes (unit_tests p.units) _ k.passes

pub definitions_pass : (p : Program) → IsLinked p → NonePasses (definition_tests p.units)
definitions_pass p k = front_passes (definition_tests p.units) _ (after_units p k)

names_pass : (p : Program) → IsLinked p → NonePasses (name_tests p.units)
names_pass p k = front_passes (name_tests p.units) (from_sigs p) (rest_passes (definition_tests p.units) _ (after_units p k))

pub has_entry : (p : Program) → IsLinked p → list_any (λ (d : Declaration). is_entry p.entry d.item) (declarations p.units) ≡ true
has_entry p k =
    head_passes (entry_test p.units p.entry) (sizes p) (rest_passes (sig_tests p.units) _
    (rest_passes (name_tests p.units) (from_sigs p) (rest_passes (definition_tests p.units) _ (after_units p k))))

-- ---- the names of a unit

abbrev Known : Unit → List ℕ → Type 0
Known unit n = (defines unit n || declares unit n) ≡ true

abbrev Holds : Check LinkError → Type 0
Holds c = c.passes ≡ true

unit_known : (p : Program) → IsLinked p → (u : ℕ) (unit : Unit) → slice_get p.units u ≡ Some unit → EachOf (Known unit) (names_used unit)
unit_known p k u unit e =
    each_unmapped (Known unit) Holds (λ n. check (defines unit n || declares unit n) (Undeclared u n)) (names_used unit) (λ n h. h)
    (each_flat Holds unit_name_tests (enumerate_from 0 p.units) (each_passes_of (name_tests p.units) (names_pass p k)) u (u, unit)
    (numbered p.units u unit e))

own_name : (o : Option Reference) (r : Reference) → o ≡ Some r → list_any (λ m. bytes_eq m r.name) (names_in o) ≡ true
own_name o r e = rw e (rw (names_same r.name r.name refl) refl)

only_name : (P : List ℕ → Type 0) (o : Option Reference) (r : Reference) → o ≡ Some r → EachOf P (names_in o) → P r.name
only_name P None r e h = absurd (cc)
only_name P (Some s) r e h = let same : s ≡ r = cc in subst (λ (q : Reference). P q.name) same h.0

-- ---- the names of functions and of variables

abbrev code_names : Unit → List (List ℕ)
code_names unit = flat_map function_names unit.functions

abbrev data_names : Unit → List (List ℕ)
data_names unit = flat_map variable_names unit.variables

code_name : (p : Program) → IsLinked p → (k u : ℕ) (f : Function) (i : ℕ) (x : Instr) (r : Reference) →
    slice_get (keys p.units) k ≡ Some (of_function u f) → slice_get f.code i ≡ Some x → instr_symbol x ≡ Some r →
    (j : ℕ) × (resolve p.units u r.name ≡ Some j)
code_name p linked k u f i x r key is e =
    let d = key_in p.units k _ key in
    let unit : Unit = d.unit in
    let of_instr = λ (z : Instr). names_in (instr_symbol z) in
    let used : uses r.name unit ≡ true =
    any_left (λ m. bytes_eq m r.name) (code_names unit) (data_names unit)
    (any_flat (λ m. bytes_eq m r.name) function_names unit.functions d.stands.0 f d.stands.1
    (any_flat (λ m. bytes_eq m r.name) of_instr f.code i x is (own_name (instr_symbol x) r e))) in
    let known = only_name (Known unit) (instr_symbol x) r e
    (each_flat (Known unit) of_instr f.code
    (each_flat (Known unit) function_names unit.functions
    (each_left (Known unit) (code_names unit) (data_names unit) (unit_known p linked u unit d.at)) d.stands.0 f d.stands.1) i x is) in
    resolves p.units u unit r.name d.at used known

data_name : (p : Program) → IsLinked p → (k u : ℕ) (y : Variable) (i : ℕ) (x : Init) (r : Reference) →
    slice_get (keys p.units) k ≡ Some (of_variable u y) → slice_get y.init i ≡ Some x → init_symbol x ≡ Some r →
    (j : ℕ) × (resolve p.units u r.name ≡ Some j)
data_name p linked k u y i x r key is e =
    let d = key_in p.units k _ key in
    let unit : Unit = d.unit in
    let of_init = λ (z : Init). names_in (init_symbol z) in
    let used : uses r.name unit ≡ true =
    any_right (λ m. bytes_eq m r.name) (code_names unit) (data_names unit)
    (any_flat (λ m. bytes_eq m r.name) variable_names unit.variables d.stands.0 y d.stands.1
    (any_flat (λ m. bytes_eq m r.name) of_init y.init i x is (own_name (init_symbol x) r e))) in
    let known = only_name (Known unit) (init_symbol x) r e
    (each_flat (Known unit) of_init y.init
    (each_flat (Known unit) variable_names unit.variables
    (each_right (Known unit) (code_names unit) (data_names unit) (unit_known p linked u unit d.at)) d.stands.0 y d.stands.1) i x is) in
    resolves p.units u unit r.name d.at used known

pub has_names : (p : Program) → IsLinked p → HasNames p
has_names p linked = record { functions = code_name p linked; variables = data_name p linked }
