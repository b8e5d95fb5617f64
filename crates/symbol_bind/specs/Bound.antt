-- What binding answers.
use Rattle.std.specs.Prelude.{◌≡◌, ℕ, List, Option, Some, None, Result, Ok, Err, ⊤}
use Rattle.ordered_tests.specs.Checks.{first_fault}
use Rattle.link_model.specs.declared.link_error.BindFault.{BindFault}
use Rattle.link_model.specs.declared.link_error.BindFault.TheVariants.{NoSymbol, NoneFits, SeveralFit, Memory}
use Rattle.link_model.specs.Program.{Declaration}
use Rattle.link_model.specs.Candidates.{Inputs}
use Rattle.link_model.specs.Uses.{Use}
use Rattle.link_model.specs.Binding.{address_of, bind_test, bind_tests}

-- the fault is that of the first key without an address. Want of memory is no fault of a key
abbrev pub IsFirstUnbound : Inputs → BindFault → Type 0
IsFirstUnbound g Memory = ⊤
IsFirstUnbound g fault = first_fault (bind_tests g) ≡ Some fault

-- the address of a numbered key, or its fault where it has none
abbrev pub SettlesKey : Inputs → List Use → ℕ × Declaration → Result ℕ BindFault → Type 0
SettlesKey g uses k (Ok address) = address_of g uses k ≡ Some address
SettlesKey g uses k (Err fault) = (address_of g uses k ≡ None) × (fault ≡ (bind_test g uses k).fault)
