-- Runs of the flat machine: m steps, or as many as it takes until one ends the run.
use Rattle.std.specs.Prelude.{ℕ, zero, suc, ◌&&◌, ◌==◌, Bool, List, [], ◌∷◌, drop, slice_get, find, is_some, Option, option_map}
use Rattle.std.specs.Prelude.{option_and_then, unwrap_or}
use Rattle.std.specs.List.{enumerate_from}
use Rattle.asm_syntax.specs.declared.unit.Reply.{Reply}
use Rattle.asm_syntax.specs.declared.unit.Sig.{Sig}
use Rattle.link_model.specs.Binding.{key_address}
use Rattle.link_model.specs.Candidates.{Inputs}
use Rattle.link_model.specs.Numbers.{entry_key}
use Rattle.link_model.specs.Program.{Declaration, Program, keys}
use Rattle.flat_mem.specs.declared.memory.FaultKind.{FaultKind}
use Rattle.flat_mem.specs.Built.{built}
use Rattle.ppc_machine.specs.declared.cpu.Junk.{Junk}
use Rattle.ppc_machine.specs.declared.externals.External.{External}
use Rattle.ppc_machine.specs.Starts.{first_file, first_memory}
use Rattle.ppc_machine.specs.State as leads
use Rattle.ppc_machine.specs.State.{FlatEvent, FlatNext, FlatState}
use Rattle.ppc_machine.specs.Steps.{flat_step}
use Rattle.asm_machine.specs.Executables.{item_sig}

-- how a run has ended, or that it goes on
pub data FlatOutcome : Type 0 where
  Going : FlatOutcome
  Ended : ℕ → FlatOutcome
  Starved : FlatOutcome
  Faulted : FaultKind → FlatOutcome

-- the events in their order, and the outcome
pub record FlatRun : Type 0 where
  pub events : List FlatEvent
  pub outcome : FlatOutcome

abbrev pub stands : FlatOutcome → FlatRun
stands outcome = record { events = []; outcome = outcome }

-- the run from a state whose next step leads to this, where `go` has the steps that are left
abbrev pub flat_after : (FlatState → List Reply → FlatRun) → List Reply → FlatNext → FlatRun
flat_after go replies (leads.Went t) = go t replies
flat_after go replies (leads.Called e t) = let run = go t (drop 1 replies) in record run { events = e ∷ run.events }
flat_after go replies (leads.Ended word) = stands (Ended word)
flat_after go replies leads.Starved = stands Starved
flat_after go replies (leads.Faulted kind) = stands (Faulted kind)

-- at most m steps from a state, where the machine ends at `stop`, and by address the external function that is there
abbrev pub flat_run : ℕ → (ℕ → Option External) → ℕ → FlatState → List Reply → FlatRun
flat_run stop outside zero t replies = stands Going
flat_run stop outside (suc m) t replies =
    flat_after (flat_run stop outside m) replies (flat_step stop t (outside t.pc) (slice_get replies 0))

-- ---- over a linked program whose keys have the addresses of a list

abbrev pub stands_at : List ℕ → ℕ → ℕ × Declaration → Bool
stands_at bs a k = key_address bs k.0 == a && is_some (item_sig k.1.item)

-- an external function has the number of its key
abbrev pub external_of : ℕ × Declaration → Option External
external_of k = option_map (λ (sig : Sig). record { number = k.0; sig = sig }) (item_sig k.1.item)

-- the external with a signature at an address
abbrev pub outside : Program → List ℕ → ℕ → Option External
outside p bs a = option_and_then external_of (find (stands_at bs a) (enumerate_from 0 (keys p.units)))

-- with these bytes on the stack, and what else the registers hold
abbrev pub first_state : Inputs → List ℕ → Junk → List ℕ → FlatState
first_state g bs junk stack = record {
  file = first_file g.layout junk;
  pc = key_address bs (unwrap_or (entry_key g.program.units g.program.entry) 0);
  mem = first_memory g.layout (built g.image g.layout.stack.lo stack);
}

-- of an image
abbrev pub image_run : Inputs → List ℕ → Junk → List ℕ → List Reply → ℕ → FlatRun
image_run g bs junk stack replies m = flat_run g.layout.stop (outside g.program bs) m (first_state g bs junk stack) replies
