-- The faults of binding as those of places.
use Rattle.std.specs.Prelude.{◌≡◌, ℕ, ◌<◌, List, length, slice_get, Some, None, ⊤}
use Rattle.asm_syntax.specs.declared.unit.Unit.{Unit}
use Rattle.asm_syntax.specs.declared.rule.Rule.TheVariants as rules
use Rattle.code_model.specs.declared.spot.Spot.{Spot}
use Rattle.code_model.specs.WordChecks.{spot}
use Rattle.link_model.specs.Program.{Declaration, keys, name_of}
use Rattle.link_model.specs.Numbers.{unit_name}
use Rattle.link_model.specs.Overlaps.{fault_at}
use Rattle.key_passes.specs.declared.fault.CheckFault.{CheckFault}
use Rattle.key_passes.specs.declared.fault.CheckFault.TheVariants as checks
use Rattle.key_passes.specs.Answers.{IsNoOf}
use Rattle.link_model.specs.declared.link_error.BindFault.{BindFault}
use Rattle.link_model.specs.declared.link_error.BindFault.TheVariants.{NoSymbol, NoneFits, SeveralFit, Memory}

-- the key without an address
abbrev pub key_in : BindFault → ℕ
key_in (NoSymbol k) = k
key_in (NoneFits k) = k
key_in (SeveralFit k n) = k
key_in Memory = 0

-- the fault of its place
abbrev pub spot_of : BindFault → Spot
spot_of (NoSymbol k) = spot rules.NoSymbol 0 0 1 0
spot_of (NoneFits k) = spot rules.NoneFits 0 0 1 0
spot_of (SeveralFit k n) = spot rules.SeveralFit 0 0 1 n
spot_of Memory = spot rules.NoSymbol 0 0 1 0

-- it names a key, unless memory ran out
abbrev pub NamesKey : List Declaration → BindFault → Type 0
NamesKey ks Memory = ⊤
NamesKey ks f = key_in f < length ks

-- the fault of the place of its key, or want of memory
abbrev pub IsToldBy : List Unit → BindFault → CheckFault → Type 0
IsToldBy units Memory e = e ≡ checks.Memory
IsToldBy units f e = (d : Declaration) → slice_get (keys units) (key_in f) ≡ Some d →
    IsNoOf (fault_at (unit_name units d.unit) (name_of d) (spot_of f) None) e
