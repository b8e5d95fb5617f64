-- What the answer of a pass tells of its places.
use Rattle.std.specs.Prelude.{◌≡◌, ℕ, List, Option, Some, None, Result, Ok, Err, ⊤, option_map}
use Rattle.code_model.specs.declared.spot.Spot.{Spot}
use Rattle.link_model.specs.declared.fault.Fault.{Fault}
use Rattle.link_model.specs.Overlaps.{fault_at}
use Rattle.key_passes.specs.declared.fault.CheckFault.{CheckFault}
use Rattle.key_passes.specs.declared.fault.CheckFault.TheVariants.{No, Memory}

-- this fault, or want of memory
abbrev pub IsNoOf : Fault → CheckFault → Type 0
IsNoOf fault (No f) = f ≡ fault
IsNoOf fault Memory = ⊤

-- the first fault, if a place fails. Want of memory tells nothing of the places
abbrev pub Decides : {T : Type 0} → Option Fault → Result T CheckFault → Type 0
Decides first (Ok x) = let none : Option Fault = None in first ≡ none
Decides first (Err (No f)) = first ≡ Some f
Decides first (Err Memory) = ⊤

-- a fault in what a unit and a name tell
abbrev pub fault_of : List ℕ → List ℕ → Option Spot → Option Fault
fault_of unit name spot = option_map (λ (s : Spot). fault_at unit name s None) spot
