-- What one step adds to the events of a run, and how the trace ends with it, if it does.
use Rattle.std.specs.Prelude.{◌≡◌, ◌<◌, ◌≤◌, ℕ, ◌+◌, Bool, true, false, List, [], ◌∷◌, ◌++◌, Option, Some, None, nat_le, if◌then◌else◌}
use Rattle.limits.specs.declared.TheConstants.{LEAST_FRAME_BYTES, MOST_TRACE_BYTES}
use Rattle.asm_step.specs.State as asm
use Rattle.asm_step.specs.State.{Next, State}
use Rattle.ppc_machine.specs.State as flat
use Rattle.ppc_machine.specs.State.{FlatNext, FlatState}
use Rattle.machine_model.specs.AsmRuns.{AsmEvent}
use Rattle.machine_runs.specs.declared.trace.Seen.{Seen}
use Rattle.machine_runs.specs.declared.trace.Outcome.{Outcome}
use Rattle.machine_runs.specs.declared.trace.Outcome.TheVariants.{Ended, Starved, Undefined, Stack, Faulted, Full}
use Rattle.machine_runs.specs.Sums.{read_total}
use Rattle.machine_runs.specs.Traces.{seen_of}

-- the call is added where all calls together read no more bytes than they may
abbrev pub IsAdded : Seen → Bool → List Seen → List Seen → Type 0
IsAdded e true old new = (new ≡ old ++ e ∷ []) × (read_total (old ++ e ∷ []) ≤ MOST_TRACE_BYTES)
IsAdded e false old new = (new ≡ old) × (MOST_TRACE_BYTES < read_total (old ++ e ∷ []))

-- the same by how the trace ends
abbrev pub CallAdds : Seen → Option Outcome → List Seen → List Seen → Type 0
CallAdds e None old new = IsAdded e true old new
CallAdds e (Some Full) old new = IsAdded e false old new
CallAdds e end old new = ⊥

-- ---- the flat machine

abbrev pub flat_state_after : FlatNext → FlatState → FlatState
flat_state_after (flat.Went t) s = t
flat_state_after (flat.Called e t) s = t
flat_state_after n s = s

abbrev pub FlatAdds : FlatNext → Option Outcome → List Seen → List Seen → Type 0
FlatAdds (flat.Went t) end old new = (end ≡ None) × (new ≡ old)
FlatAdds (flat.Called e t) end old new = CallAdds (seen_of e) end old new
FlatAdds (flat.Ended word) end old new = (end ≡ Some (Ended word)) × (new ≡ old)
FlatAdds flat.Starved end old new = (end ≡ Some Starved) × (new ≡ old)
FlatAdds (flat.Faulted kind) end old new = (end ≡ Some (Faulted kind)) × (new ≡ old)

-- ---- the assembly machine

abbrev pub asm_state_after : Next → State → State
asm_state_after (asm.Went t) s = t
asm_state_after (asm.Called c t) s = t
asm_state_after n s = s

-- from a state, where the frames fit the stack
abbrev pub AsmAdds : (AsmEvent → Seen) → State → Next → Option Outcome → List Seen → List Seen → Type 0
AsmAdds show s (asm.Went t) end old new = (end ≡ None) × (new ≡ old)
AsmAdds show s (asm.Called c t) end old new = CallAdds (show (record { call = c; before = s })) end old new
AsmAdds show s (asm.Ended word) end old new = (end ≡ Some (Ended word)) × (new ≡ old)
AsmAdds show s asm.Starved end old new = (end ≡ Some Starved) × (new ≡ old)
AsmAdds show s (asm.Undefined why) end old new = (end ≡ Some (Undefined why)) × (new ≡ old)

abbrev pub or_stack : Bool → Option Outcome → Option Outcome
or_stack room end = if room then end else Some Stack

-- where the stack has room for the frames, or has not
abbrev pub AddsWithin : Bool → (AsmEvent → Seen) → State → Next → Option Outcome → List Seen → List Seen → Type 0
AddsWithin true show s n end old new = AsmAdds show s n end old new
AddsWithin false show s n end old new = (end ≡ Some Stack) × (new ≡ old)

-- with a stack of so many bytes, where the frames have had so many together, the root's not among them
abbrev pub AsmFits : (AsmEvent → Seen) → ℕ → ℕ → State → Next → Option Outcome → List Seen → List Seen → Type 0
AsmFits show size deepest s n end old new = AddsWithin (nat_le (deepest + LEAST_FRAME_BYTES) size) show s n end old new
