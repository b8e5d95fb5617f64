-- The places that are tested, pass by pass, each with its fault. The first place that fails decides.
use Rattle.std.specs.Prelude.{◌≡◌, ℕ, zero, suc, ◌%◌, ◌^◌, Bool, true, false, not, ◌&&◌, ◌||◌, ◌==◌, if◌then◌else◌, List, [], ◌∷◌, ◌++◌}
use Rattle.std.specs.Prelude.{length, map, take, Some, None, is_some, unwrap_or, Any}
use Rattle.std.specs.List.{list_any, flat_map}
use Rattle.std.specs.Option.{option_map_or}
use Rattle.ordered_tests.specs.Checks.{Check, check, first_fault}
use Rattle.image_model.specs.Image.{Image}
use Rattle.image_model.specs.Loaded.{byte_at}
use Rattle.layout_model.specs.Layouts.{Layout, is_foreign}
use Rattle.asm_syntax.specs.declared.rule.Rule.TheVariants as rules
use Rattle.asm_syntax.specs.declared.unit.External.{External}
use Rattle.code_model.specs.declared.spot.Spot.{Spot}
use Rattle.code_model.specs.WordChecks.{spot}
use Rattle.code_model.specs.Addresses.{is_executable_at}
use Rattle.code_model.specs.FunctionChecks.{function_checks}
use Rattle.code_model.specs.Variables.{variable_checks}
use Rattle.link_model.specs.declared.fault.Fault.{Fault}
use Rattle.link_model.specs.Program.{Item, OfFunction, OfVariable, OfExternal, Declaration, name_of, is_external}
use Rattle.link_model.specs.Numbers.{unit_name}
use Rattle.link_model.specs.Candidates.{Inputs, candidates}
use Rattle.link_model.specs.Uses.{all_uses}
use Rattle.link_model.specs.Binding.{numbered_keys, fitting_candidates, address_of, addresses, key_address, symbol_address}
use Rattle.link_model.specs.Claims.{Claim, claims}
use Rattle.link_model.specs.Kinds.{Stray, kind_at}
use Rattle.link_model.specs.Account.{same_kind}
use Rattle.link_model.specs.Parts.{alignment}
use Rattle.link_model.specs.Overlaps.{fault_at, no_name, overlap_pass}

-- ---- places of keys and places of none

abbrev pub at_key : Inputs → Declaration → Check Spot → Check Fault
at_key g d c = check c.passes (fault_at (unit_name g.program.units d.unit) (name_of d) c.fault None)

-- the tests of each key in turn
abbrev pub each_key : Inputs → (ℕ × Declaration → List (Check Spot)) → List (Check Fault)
each_key g checks = flat_map (λ k. map (at_key g k.1) (checks k)) (numbered_keys g)

abbrev pub nowhere : Spot → Fault
nowhere s = fault_at no_name no_name s None

-- ---- the entry of the image

unfoldable pub entry_pass : Image → List (Check Fault)
entry_pass v = check (v.entry % 4 == 0 && is_executable_at v v.entry) (nowhere (spot rules.Entry v.entry 0 0 v.entry)) ∷ []

-- ---- each key has an address

-- of a key with so many candidates, so many of which agree with its uses
abbrev pub bound_checks : ℕ → ℕ → Bool → List (Check Spot)
bound_checks offered fit is_bound =
    check (is_bound || not (offered == 0)) (spot rules.NoSymbol 0 0 1 0)
    ∷ check (is_bound || not (fit == 0)) (spot rules.NoneFits 0 0 1 0)
    ∷ check is_bound (spot rules.SeveralFit 0 0 1 fit)
    ∷ []

unfoldable pub bound_pass : Inputs → List (Check Fault)
bound_pass g = let uses = all_uses g in each_key g (λ k.
    bound_checks (length (candidates g.image k.1)) (length (fitting_candidates g uses k)) (is_some (address_of g uses k)))

-- ---- each external key is in a foreign range, apart from the others

-- an external key has this address
abbrev pub is_external_at : List ℕ → ℕ → ℕ × Declaration → Bool
is_external_at bs a k = is_external k.1.item && (key_address bs k.0 == a)

abbrev pub external_checks : Inputs → List ℕ → ℕ → ℕ → External → List (Check Spot)
external_checks g bs k a x =
    check (if is_some x.sig then a % 4 == 0 else true) (spot rules.ExternalPlace 0 1 0 a)
    ∷ check (is_foreign g.layout a) (spot rules.ExternalPlace 0 2 0 a)
    ∷ check (not (list_any (is_external_at bs a) (take k (numbered_keys g)))) (spot rules.ExternalPlace 0 3 0 a)
    ∷ []

abbrev pub item_external_checks : Inputs → List ℕ → ℕ → Item → List (Check Spot)
item_external_checks g bs k (OfExternal x) = external_checks g bs k (key_address bs k) x
item_external_checks g bs k _ = []

unfoldable pub external_pass : Inputs → List ℕ → List (Check Fault)
external_pass g bs = each_key g (λ k. item_external_checks g bs k.0 k.1.item)

-- ---- each function and its tables

abbrev pub item_function_checks : Inputs → List ℕ → ℕ → ℕ → Item → List (Check Spot)
item_function_checks g bs k u (OfFunction f) = function_checks g.image g.layout (symbol_address g bs u) (key_address bs k) f.code
item_function_checks g bs k u _ = []

unfoldable pub function_pass : Inputs → List ℕ → List (Check Fault)
function_pass g bs = each_key g (λ k. item_function_checks g bs k.0 k.1.unit k.1.item)

-- ---- each variable

abbrev pub item_variable_checks : Inputs → List ℕ → ℕ → ℕ → Item → List (Check Spot)
item_variable_checks g bs k u (OfVariable x) =
    variable_checks g.image g.layout (symbol_address g bs u) (alignment g u x) (key_address bs k) x
item_variable_checks g bs k u _ = []

unfoldable pub variable_pass : Inputs → List ℕ → List (Check Fault)
variable_pass g bs = each_key g (λ k. item_variable_checks g bs k.0 k.1.unit k.1.item)

-- ---- each loaded address below n

abbrev pub is_stray : Image → Layout → List Claim → ℕ → Bool
is_stray v l cs a = option_map_or (same_kind Stray) (kind_at v l cs a) false

abbrev pub stray_check : Image → Layout → List Claim → ℕ → Check Fault
stray_check v l cs a = check (not (is_stray v l cs a)) (nowhere (spot rules.Stray a 0 0 (unwrap_or (byte_at v a) 0)))

unfoldable pub stray_checks : Image → Layout → List Claim → ℕ → List (Check Fault)
stray_checks v l cs zero = []
stray_checks v l cs (suc a) = stray_checks v l cs a ++ stray_check v l cs a ∷ []

unfoldable pub stray_pass : Image → Layout → List Claim → List (Check Fault)
stray_pass v l cs = stray_checks v l cs (2 ^ 32)

-- ---- the seven passes, where the keys have the addresses bs

-- those but the last
unfoldable pub key_passes : Inputs → List ℕ → List (Check Fault)
key_passes g bs =
    entry_pass g.image
    ++ (bound_pass g
    ++ (external_pass g bs
    ++ (function_pass g bs
    ++ (variable_pass g bs
    ++ overlap_pass (claims g bs)))))

unfoldable pub passes : Inputs → List ℕ → List (Check Fault)
passes g bs = key_passes g bs ++ stray_pass g.image g.layout (claims g bs)

-- a place fails with this fault
abbrev pub FailsAt : Inputs → Fault → Type 0
FailsAt g f = Any (λ (c : Check Fault). (c.passes ≡ false) × (c.fault ≡ f)) (passes g (addresses g))

-- the fault of the first place that fails
abbrev pub First : Inputs → Fault → Type 0
First g f = first_fault (passes g (addresses g)) ≡ Some f
