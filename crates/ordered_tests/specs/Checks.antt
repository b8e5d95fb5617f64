-- A list of tests in their order, each with its fault. The first test that fails decides.
use Rattle.std.specs.Prelude.{ℕ, ◌-◌, Bool, List, [], ◌∷◌, Option, Some, None, Result, Ok, Err, if◌then◌else◌}
use Rattle.std.specs.List.{flat_map, range_with_len}

pub record Check (F : Type 0) : Type 0 where
  pub passes : Bool
  pub fault : F

abbrev pub check : {F : Type 0} → Bool → F → Check F
check passes fault = record { passes = passes; fault = fault }

-- the fault of the first test that fails, if one does
abbrev pub first_fault : {F : Type 0} → List (Check F) → Option F
first_fault [] = None
first_fault (c ∷ cs) = if c.passes then first_fault cs else Some c.fault

-- the fault that a call answers, if it answers one
abbrev pub fault_of : {T F : Type 0} → Result T F → Option F
fault_of (Ok x) = None
fault_of (Err e) = Some e

-- the tests of each place, those of one place before those of the next
abbrev pub each_check : {P F : Type 0} → (P → List (Check F)) → List P → List (Check F)
each_check tests places = flat_map tests places

-- the numbers from i on that are below n
abbrev pub from_to : ℕ → ℕ → List ℕ
from_to i n = range_with_len i (n - i)
