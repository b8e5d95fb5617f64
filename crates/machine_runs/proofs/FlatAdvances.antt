-- From the answer of a step of the flat machine to what it adds, and from what it adds to the trace.
use Rattle.std.proofs.Common.{◌≡◌, ◌≤◌, ℕ, suc, Bool, true, false, List, length, Option, Some, None, refl, ap, sym, ◌∙◌, subst}
use Rattle.std.specs.Prelude.{slice_get}
use Rattle.asm_syntax.specs.declared.unit.Reply.{Reply}
use Rattle.flat_mem.specs.declared.memory.FaultKind.{FaultKind}
use Rattle.ppc_machine.specs.declared.cpu.Flat as answer
use Rattle.ppc_machine.specs.declared.cpu.Flat.TheVariants as gives
use Rattle.ppc_machine.specs.declared.externals.Event.{Event}
use Rattle.ppc_machine.specs.declared.externals.External.{External}
use Rattle.ppc_machine.specs.Answers.{Answers, read_by, shown}
use Rattle.ppc_machine.specs.State.{FlatEvent, FlatNext, FlatState, Went, Called, Ended, Starved, Faulted}
use Rattle.ppc_machine.specs.Steps.{flat_step}
use Rattle.machine_model.specs.FlatRuns as model
use Rattle.machine_model.specs.FlatRuns.{flat_run}
use Rattle.machine_runs.specs.declared.trace.Seen.{Seen}
use Rattle.machine_runs.specs.declared.trace.Outcome.{Outcome}
use Rattle.machine_runs.specs.declared.trace.Outcome.TheVariants as ends
use Rattle.machine_runs.specs.declared.trace.Trace.{Trace}
use Rattle.machine_runs.specs.Steps.{CallAdds, FlatAdds, IsAdded, flat_state_after}
use Rattle.machine_runs.specs.Traces.{flat_trace, seen_of}
use Rattle.machine_runs.proofs.FlatRunning.{IsAfter, called, full, made, over, went}

-- ---- from the answer

pub state_by : (n : FlatNext) (a : answer.Flat) (s t : FlatState) → Answers n a s t → t ≡ flat_state_after n s
state_by (Went u) a s t h = h.1
state_by (Called e u) a s t h = h.1
state_by (Ended w) a s t h = h.1
state_by Starved a s t h = h.1
state_by (Faulted k) a s t h = h.1

pub adds_went : (n : FlatNext) (s t : FlatState) (es : List Seen) → Answers n gives.Went s t → FlatAdds n None es es
adds_went (Went u) s t es h = (refl, refl)
adds_went (Called e u) s t es h = let c = h.0 in absurd (cc)
adds_went (Ended w) s t es h = let c = h.0 in absurd (cc)
adds_went Starved s t es h = let c = h.0 in absurd (cc)
adds_went (Faulted k) s t es h = let c = h.0 in absurd (cc)

pub adds_ended : (n : FlatNext) (s t : FlatState) (w : ℕ) (es : List Seen) → Answers n (gives.Ended w) s t
    → FlatAdds n (Some (ends.Ended w)) es es
adds_ended (Went u) s t w es h = let c = h.0 in absurd (cc)
adds_ended (Called e u) s t w es h = let c = h.0 in absurd (cc)
adds_ended (Ended v) s t w es h = let c = h.0 in let same : w ≡ v = cc in (ap (λ x. Some (ends.Ended x)) same, refl)
adds_ended Starved s t w es h = let c = h.0 in absurd (cc)
adds_ended (Faulted k) s t w es h = let c = h.0 in absurd (cc)

pub adds_starved : (n : FlatNext) (s t : FlatState) (es : List Seen) → Answers n gives.Starved s t → FlatAdds n (Some ends.Starved) es es
adds_starved (Went u) s t es h = let c = h.0 in absurd (cc)
adds_starved (Called e u) s t es h = let c = h.0 in absurd (cc)
adds_starved (Ended w) s t es h = let c = h.0 in absurd (cc)
adds_starved Starved s t es h = (refl, refl)
adds_starved (Faulted k) s t es h = let c = h.0 in absurd (cc)

pub adds_faulted : (n : FlatNext) (s t : FlatState) (k : FaultKind) (es : List Seen) → Answers n (gives.Faulted k) s t
    → FlatAdds n (Some (ends.Faulted k)) es es
adds_faulted (Went u) s t k es h = let c = h.0 in absurd (cc)
adds_faulted (Called e u) s t k es h = let c = h.0 in absurd (cc)
adds_faulted (Ended w) s t k es h = let c = h.0 in absurd (cc)
adds_faulted Starved s t k es h = let c = h.0 in absurd (cc)
adds_faulted (Faulted j) s t k es h = let c = h.0 in let same : k ≡ j = cc in (ap (λ x. Some (ends.Faulted x)) same, refl)

abbrev pub seen : Event → List (List ℕ) → Seen
seen event read = record { event = event; read = read }

pub call_adds : (e : Seen) (b : Bool) (es fs : List Seen) → IsAdded e b es fs → (end : Option Outcome) → (b ≡ true → end ≡ None)
    → (b ≡ false → end ≡ Some ends.Full) → CallAdds e end es fs
call_adds e true es fs h end none full = let P : Option Outcome → Type 0 = λ o. CallAdds e o es fs in subst P (sym (none refl)) h
call_adds e false es fs h end none full = let P : Option Outcome → Type 0 = λ o. CallAdds e o es fs in subst P (sym (full refl)) h

pub adds_called : (n : FlatNext) (s t : FlatState) (x : Event) (read : List (List ℕ)) (end : Option Outcome) (es fs : List Seen)
    → Answers n (gives.Called x) s t → read ≡ read_by n → CallAdds (seen x read) end es fs → FlatAdds n end es fs
adds_called (Went u) s t x read end es fs h r k = let c = h.0 in absurd (cc)
adds_called (Called e u) s t x read end es fs h r k =
    let c = h.0 in
    let same : x ≡ shown e.number e.words = cc in
    let P : Event → Type 0 = λ y. CallAdds (seen y e.reads) end es fs in
    let Q : List (List ℕ) → Type 0 = λ y. CallAdds (seen x y) end es fs in
    subst P same (subst Q r k)
adds_called (Ended w) s t x read end es fs h r k = let c = h.0 in absurd (cc)
adds_called Starved s t x read end es fs h r k = let c = h.0 in absurd (cc)
adds_called (Faulted j) s t x read end es fs h r k = let c = h.0 in absurd (cc)

-- ---- to the run

module _ (stop : ℕ) (out : ℕ → Option External) (first : FlatState) (replies : List Reply) (i : ℕ) (t : FlatState) (es : List Seen)
    (a : IsAfter stop out first replies i t es) where
  -- one step on, where the trace does not end
  pub stays : (n : FlatNext) → flat_step stop t (out t.pc) (slice_get replies (length es)) ≡ n → (u : FlatState) (fs : List Seen)
      → u ≡ flat_state_after n t → FlatAdds n None es fs → IsAfter stop out first replies (suc i) u fs
  stays (Went v) e u fs is adds =
      let P : FlatState → Type 0 = λ x. IsAfter stop out first replies (suc i) x fs in
      let Q : List Seen → Type 0 = λ x. IsAfter stop out first replies (suc i) v x in
      subst P (sym is) (subst Q (sym adds.1) (went stop out first replies i t es a v e))
  stays (Called x v) e u fs is adds =
      let P : FlatState → Type 0 = λ y. IsAfter stop out first replies (suc i) y fs in
      let Q : List Seen → Type 0 = λ y. IsAfter stop out first replies (suc i) v y in
      subst P (sym is) (subst Q (sym adds.0) (called stop out first replies i t es a x v e adds.1))
  stays (Ended w) e u fs is adds = let c = adds.0 in absurd (cc)
  stays Starved e u fs is adds = let c = adds.0 in absurd (cc)
  stays (Faulted k) e u fs is adds = let c = adds.0 in absurd (cc)

  abbrev trace : ℕ → Trace
  trace steps = flat_trace (λ m. flat_run stop out m first replies) steps

  call_ends : (end : Outcome) (x : FlatEvent) (v : FlatState) → flat_step stop t (out t.pc) (slice_get replies (length es)) ≡ Called x v
      → (fs : List Seen) (steps : ℕ) → suc i ≤ steps → CallAdds (seen_of x) (Some end) es fs → made fs end ≡ trace steps
  call_ends ends.Full x v e fs steps lt adds = ap (λ y. made y ends.Full) adds.0
      ∙ full stop out first replies i t es a x v e steps lt adds.1
  call_ends ends.Going x v e fs steps lt adds = absurd adds
  call_ends (ends.Ended w) x v e fs steps lt adds = absurd adds
  call_ends ends.Starved x v e fs steps lt adds = absurd adds
  call_ends (ends.Undefined w) x v e fs steps lt adds = absurd adds
  call_ends ends.Stack x v e fs steps lt adds = absurd adds
  call_ends (ends.Faulted k) x v e fs steps lt adds = absurd adds

  same_end : (x y : Outcome) (es fs : List Seen) (z : Trace) → Some x ≡ Some y → fs ≡ es → made es y ≡ z → made fs x ≡ z
  same_end x y es fs z h k r = let e : x ≡ y = cc in ap (λ o. made fs o) e ∙ (ap (λ q. made q y) k ∙ r)

  -- where it ends
  pub ends_so : (n : FlatNext) → flat_step stop t (out t.pc) (slice_get replies (length es)) ≡ n
      → (end : Outcome) (fs : List Seen) (steps : ℕ)
      → suc i ≤ steps → FlatAdds n (Some end) es fs → made fs end ≡ trace steps
  ends_so (Went v) e end fs steps lt adds = let c = adds.0 in absurd (cc)
  ends_so (Called x v) e end fs steps lt adds = call_ends end x v e fs steps lt adds
  ends_so (Ended w) e end fs steps lt adds =
      same_end end (ends.Ended w) es fs (trace steps) adds.0 adds.1
      (over stop out first replies i t es a (model.Ended w) (Ended w) e (λ m. refl) steps lt)
  ends_so Starved e end fs steps lt adds =
      same_end end ends.Starved es fs (trace steps) adds.0 adds.1
      (over stop out first replies i t es a model.Starved Starved e (λ m. refl) steps lt)
  ends_so (Faulted k) e end fs steps lt adds =
      same_end end (ends.Faulted k) es fs (trace steps) adds.0 adds.1
      (over stop out first replies i t es a (model.Faulted k) (Faulted k) e (λ m. refl) steps lt)
