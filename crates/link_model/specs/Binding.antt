-- The address of each key.
use Rattle.std.specs.Prelude.{ℕ, ◌==◌, List, length, map, filter, Option, is_some, unwrap_or, slice_index_or, if◌then◌else◌}
use Rattle.std.specs.List.{list_all, enumerate_from}
use Rattle.std.specs.Option.{option_map_or, option_or}
use Rattle.ordered_tests.specs.Checks.{Check, check}
use Rattle.layout_model.specs.Layouts.{Layout}
use Rattle.link_model.specs.declared.link_error.BindFault.{BindFault}
use Rattle.link_model.specs.declared.link_error.BindFault.TheVariants.{NoSymbol, NoneFits, SeveralFit}
use Rattle.link_model.specs.Sets.{only_member}
use Rattle.link_model.specs.Program.{Declaration, keys, resolve}
use Rattle.link_model.specs.Candidates.{Inputs, candidates, known_address}
use Rattle.link_model.specs.Uses.{Use, all_uses, uses_of, agrees}

abbrev pub numbered_keys : Inputs → List (ℕ × Declaration)
numbered_keys g = enumerate_from 0 (keys g.program.units)

-- those of some addresses that agree with every use of a key
abbrev pub fitting_addresses : Layout → List Use → ℕ → List ℕ → List ℕ
fitting_addresses l uses k ts = filter (λ t. list_all (agrees l t) (uses_of k uses)) ts

abbrev pub fitting_candidates : Inputs → List Use → ℕ × Declaration → List ℕ
fitting_candidates g uses k = fitting_addresses g.layout uses k.0 (candidates g.image k.1)

-- the pin, else the only candidate, else the only candidate that agrees with every use
abbrev pub address_of : Inputs → List Use → ℕ × Declaration → Option ℕ
address_of g uses k = option_or (known_address g k.1) (only_member (fitting_candidates g uses k))

-- by the number of the key
unfoldable pub binding : Inputs → List (Option ℕ)
binding g = map (address_of g (all_uses g)) (numbered_keys g)

-- the addresses by the number of the key, where a key without one has 0
unfoldable pub addresses : Inputs → List ℕ
addresses g = map (λ b. unwrap_or b 0) (binding g)

-- ---- faults

abbrev pub fault_of_key : ℕ → ℕ → ℕ → BindFault
fault_of_key k offered fit = if offered == 0 then NoSymbol k else if fit == 0 then NoneFits k else SeveralFit k fit

-- a key has an address; its fault counts the candidates that agree
abbrev pub bind_test : Inputs → List Use → ℕ × Declaration → Check BindFault
bind_test g uses k =
    check (is_some (address_of g uses k))
    (fault_of_key k.0 (length (candidates g.image k.1)) (length (fitting_candidates g uses k)))

unfoldable pub bind_tests : Inputs → List (Check BindFault)
bind_tests g = map (bind_test g (all_uses g)) (numbered_keys g)

-- ---- addresses by name, where the keys have the addresses of a list

abbrev pub key_address : List ℕ → ℕ → ℕ
key_address bs k = slice_index_or bs k 0

-- the address of the symbol that a name means in unit u
abbrev pub symbol_address : Inputs → List ℕ → ℕ → List ℕ → ℕ
symbol_address g bs u n = option_map_or (key_address bs) (resolve g.program.units u n) 0
