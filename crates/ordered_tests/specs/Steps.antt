-- One step after another, as `do` writes it: a value, or the fault of the first step that has one.
use Rattle.std.specs.Prelude.{Option, Some, None, List, Result, Ok, Err, ⊤}
use Rattle.ordered_tests.specs.Checks.{Check, first_fault}

infixl 10 ◌>>=◌
abbrev pub ◌>>=◌ : {A B F : Type 0} → Result A F → (A → Result B F) → Result B F
(Ok x) >>= next = next x
(Err fault) >>= next = Err fault

infixl 10 ◌>>◌
abbrev pub ◌>>◌ : {A B F : Type 0} → Result A F → Result B F → Result B F
(Ok x) >> next = next
(Err fault) >> next = Err fault

-- goes on where there is no fault
abbrev pub unless : {F : Type 0} → Option F → Result ⊤ F
unless None = Ok tt
unless (Some fault) = Err fault

-- goes on where the tests pass
abbrev pub all_pass : {F : Type 0} → List (Check F) → Result ⊤ F
all_pass tests = unless (first_fault tests)
