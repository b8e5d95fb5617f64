-- The trace of so many steps of a machine: that of its run, up to the first step that passes a limit.
use Rattle.std.specs.Prelude.{ℕ, zero, suc, ◌+◌, ◌-◌, Bool, ◌||◌, nat_lt, if◌then◌else◌, List, [], map, Option, Some, None}
use Rattle.std.specs.Option.{option_map_or, option_or}
use Rattle.limits.specs.declared.TheConstants.{LEAST_FRAME_BYTES, MOST_TRACE_BYTES}
use Rattle.layout_model.specs.Layouts.{Layout}
use Rattle.link_model.specs.Candidates.{Inputs}
use Rattle.ppc_machine.specs.Answers.{shown}
use Rattle.ppc_machine.specs.State.{FlatEvent}
use Rattle.machine_model.specs.AsmRuns as asm
use Rattle.machine_model.specs.AsmRuns.{AsmEvent, AsmOutcome, AsmRun}
use Rattle.machine_model.specs.FlatRuns as flat
use Rattle.machine_model.specs.FlatRuns.{FlatOutcome, FlatRun}
use Rattle.machine_model.specs.Shown.{shown_event}
use Rattle.machine_model.specs.Worlds.{world_of}
use Rattle.machine_runs.specs.declared.trace.Seen.{Seen}
use Rattle.machine_runs.specs.declared.trace.Outcome.{Outcome}
use Rattle.machine_runs.specs.declared.trace.Outcome.TheVariants.{Going, Ended, Starved, Undefined, Stack, Faulted, Full}
use Rattle.machine_runs.specs.declared.trace.Trace.{Trace}
use Rattle.machine_runs.specs.Sums.{read_total}

-- an event as it is kept, its words in eight places
abbrev pub seen_of : FlatEvent → Seen
seen_of e = record { event = shown e.number e.words; read = e.reads }

-- its calls read more bytes than those of one trace may
abbrev pub is_past_bytes : List Seen → Bool
is_past_bytes events = nat_lt MOST_TRACE_BYTES (read_total events)

-- the least number below a bound that passes a test
abbrev pub least_below : (ℕ → Bool) → ℕ → Option ℕ
least_below test zero = None
least_below test (suc n) = option_or (least_below test n) (if test n then Some n else None)

-- ---- the flat machine

abbrev pub flat_events : FlatRun → List Seen
flat_events r = map seen_of r.events

abbrev pub flat_end : FlatOutcome → Outcome
flat_end flat.Going = Going
flat_end (flat.Ended word) = Ended word
flat_end flat.Starved = Starved
flat_end (flat.Faulted kind) = Faulted kind

abbrev pub whole_flat : FlatRun → Trace
whole_flat r = record { events = flat_events r; outcome = flat_end r.outcome }

-- of the steps before a call that reads too much
abbrev pub cut_flat : FlatRun → Trace
cut_flat r = record { events = flat_events r; outcome = Full }

-- step n + 1 is such a call, where `run` has the run of each number of steps
abbrev pub flat_passes : (ℕ → FlatRun) → ℕ → Bool
flat_passes run n = is_past_bytes (flat_events (run (suc n)))

abbrev pub flat_trace : (ℕ → FlatRun) → ℕ → Trace
flat_trace run steps = option_map_or (λ n. cut_flat (run n)) (least_below (flat_passes run) steps) (whole_flat (run steps))

-- ---- the assembly machine

-- the words of values do not depend on the stack's bytes
abbrev pub asm_seen : Inputs → List ℕ → AsmEvent → Seen
asm_seen g bs e = seen_of (shown_event (world_of g bs []) e)

abbrev pub asm_events : (AsmEvent → Seen) → AsmRun → List Seen
asm_events show r = map show r.events

abbrev pub asm_end : AsmOutcome → Outcome
asm_end asm.Going = Going
asm_end (asm.Ended word) = Ended word
asm_end asm.Starved = Starved
asm_end (asm.Undefined why) = Undefined why

abbrev pub whole_asm : (AsmEvent → Seen) → AsmRun → Trace
whole_asm show r = record { events = asm_events show r; outcome = asm_end r.outcome }

abbrev pub stack_size : Layout → ℕ
stack_size layout = layout.stack.hi - layout.stack.lo

-- the frames, and the root, have had more bytes than so many
abbrev pub is_past_stack : ℕ → AsmRun → Bool
is_past_stack size r = nat_lt size (r.deepest + LEAST_FRAME_BYTES)

-- step n + 1 makes a frame for which a stack of so many bytes has no room, or is a call that reads too much
abbrev pub asm_passes : (AsmEvent → Seen) → ℕ → (ℕ → AsmRun) → ℕ → Bool
asm_passes show size run n = is_past_stack size (run (suc n)) || is_past_bytes (asm_events show (run (suc n)))

-- of the n steps before it
abbrev pub cut_asm : (AsmEvent → Seen) → ℕ → (ℕ → AsmRun) → ℕ → Trace
cut_asm show size run n = record {
  events = asm_events show (run n);
  outcome = if is_past_stack size (run (suc n)) then Stack else Full;
}

-- where `run` has the run of each number of steps, and `show` tells how an event is kept
abbrev pub trace_of : (AsmEvent → Seen) → ℕ → (ℕ → AsmRun) → ℕ → Trace
trace_of show size run steps =
    option_map_or (cut_asm show size run) (least_below (asm_passes show size run) steps) (whole_asm show (run steps))

-- with the stack of a layout, and the words that values have where the keys have these addresses
abbrev pub asm_trace : Inputs → List ℕ → (ℕ → AsmRun) → ℕ → Trace
asm_trace g bs run steps = trace_of (asm_seen g bs) (stack_size g.layout) run steps
