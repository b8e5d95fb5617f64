-- The external functions by their addresses, as the keys come one after another.
use Rattle.std.specs.Prelude.{◌≡◌, ℕ, List, Option, None, if◌then◌else◌}
use Rattle.std.specs.Option.{option_or}
use Rattle.link_model.specs.Program.{Declaration}
use Rattle.ppc_machine.specs.declared.externals.External.{External}
use Rattle.ppc_machine.specs.Externals.{Table, external_at}
use Rattle.machine_model.specs.FlatRuns.{external_of, stands_at}

-- what a key has at an address
abbrev pub external_here : List ℕ → ℕ → ℕ × Declaration → Option External
external_here bs a k = if stands_at bs a k then external_of k else None

-- the key's external is at its address, unless another is there
abbrev pub AddsKey : List ℕ → ℕ × Declaration → Table → Table → Type 0
AddsKey bs k old new = (a : ℕ) → external_at new a ≡ option_or (external_at old a) (external_here bs a k)
