-- Runs of the assembly machine: n steps, or as many as it takes until one ends the run.
use Rattle.std.specs.Prelude.{ℕ, zero, suc, max, List, [], ◌∷◌, drop, slice_get}
use Rattle.asm_syntax.specs.declared.unit.Reply.{Reply}
use Rattle.link_model.specs.Program.{Program}
use Rattle.asm_step.specs.declared.answer.Why.{Why}
use Rattle.asm_step.specs.LinkedCode.{Linked}
use Rattle.asm_step.specs.State as leads
use Rattle.asm_step.specs.State.{State, Call, Next}
use Rattle.asm_step.specs.Steps.{asm_step}
use Rattle.asm_machine.specs.Executables.{linked}
use Rattle.asm_machine.specs.Stacks.{frame_cells}
use Rattle.asm_machine.specs.Starts.{first_state}

-- how a run has ended, or that it goes on
pub data AsmOutcome : Type 0 where
  Going : AsmOutcome
  Ended : ℕ → AsmOutcome
  Starved : AsmOutcome
  Undefined : Why → AsmOutcome

-- a call of an external function, and the state before it
pub record AsmEvent : Type 0 where
  pub call : Call
  pub before : State

-- the events in their order, the outcome, and the most cells that the frames have had together, without the root
pub record AsmRun : Type 0 where
  pub events : List AsmEvent
  pub outcome : AsmOutcome
  pub deepest : ℕ

-- a run that stands in a state
abbrev pub stands : Linked → State → AsmOutcome → AsmRun
stands p s outcome = record { events = []; outcome = outcome; deepest = frame_cells p.variables s.live }

-- with the state before a run
abbrev pub before : Linked → State → AsmRun → AsmRun
before p s run = record run { deepest = max (frame_cells p.variables s.live) run.deepest }

abbrev pub with_event : AsmEvent → AsmRun → AsmRun
with_event e run = record run { events = e ∷ run.events }

-- the run from a state whose next step leads to this, where `go` has the steps that are left
abbrev pub asm_after : Linked → (State → List Reply → AsmRun) → State → List Reply → Next → AsmRun
asm_after p go s replies (leads.Went t) = before p s (go t replies)
asm_after p go s replies (leads.Called c t) = with_event (record { call = c; before = s }) (before p s (go t (drop 1 replies)))
asm_after p go s replies (leads.Ended word) = stands p s (Ended word)
asm_after p go s replies leads.Starved = stands p s Starved
asm_after p go s replies (leads.Undefined why) = stands p s (Undefined why)

-- at most n steps from a state
abbrev pub asm_run : Linked → ℕ → State → List Reply → AsmRun
asm_run p zero s replies = stands p s Going
asm_run p (suc n) s replies = asm_after p (asm_run p n) s replies (asm_step p s (slice_get replies 0))

-- of a program
abbrev pub program_run : Program → List Reply → ℕ → AsmRun
program_run p replies n = asm_run (linked p) n (first_state p) replies
