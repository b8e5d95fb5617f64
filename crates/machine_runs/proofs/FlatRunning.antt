-- The run of the flat machine, step by step: what stands after i steps, and the trace where it ends.
use Rattle.std.proofs.Common.{◌≡◌, ℕ, zero, suc, ◌+◌, ◌-◌, ◌<◌, ◌≤◌, Bool, true, false, List, [], ◌∷◌, ◌++◌, length, map, drop, Option}
use Rattle.std.proofs.Common.{refl, ap, sym, ◌∙◌, arith}
use Rattle.std.specs.Prelude.{nat_lt, slice_get}
use Rattle.std.specs.Option.{option_map_or}
use Rattle.std.proofs.lemmas.Bool.{le-ltb, lt-ltb, ltb-true, ltb-false}
use Rattle.std.proofs.lemmas.List.{append_assoc, append-nil, map-append, length-map, length-append}
use Rattle.limits.specs.declared.TheConstants.{MOST_TRACE_BYTES}
use Rattle.asm_syntax.specs.declared.unit.Reply.{Reply}
use Rattle.ppc_machine.specs.declared.externals.External.{External}
use Rattle.ppc_machine.specs.State as leads
use Rattle.ppc_machine.specs.State.{FlatEvent, FlatNext, FlatState}
use Rattle.ppc_machine.specs.Steps.{flat_step}
use Rattle.machine_model.specs.FlatRuns as model
use Rattle.machine_model.specs.FlatRuns.{FlatOutcome, FlatRun, flat_after, flat_run, stands}
use Rattle.machine_runs.specs.declared.trace.Seen.{Seen}
use Rattle.machine_runs.specs.declared.trace.Outcome.{Outcome}
use Rattle.machine_runs.specs.declared.trace.Outcome.TheVariants.{Going, Full}
use Rattle.machine_runs.specs.declared.trace.Trace.{Trace}
use Rattle.machine_runs.specs.Sums.{read_total}
use Rattle.machine_runs.specs.Traces.{seen_of, flat_end, flat_events, flat_passes, flat_trace, is_past_bytes, whole_flat, cut_flat}
use Rattle.machine_runs.proofs.Least.{least_none, least_some}

-- with the events before it
abbrev pub behind : List FlatEvent → FlatRun → FlatRun
behind events run = record { events = events ++ run.events; outcome = run.outcome }

pub slice_get-drop : {X : Type 0} (xs : List X) (n : ℕ) → slice_get (drop n xs) 0 ≡ slice_get xs n
slice_get-drop [] zero = refl
slice_get-drop [] (suc n) = refl
slice_get-drop (x ∷ xs) zero = refl
slice_get-drop (x ∷ xs) (suc n) = slice_get-drop xs n

pub drop-one : {X : Type 0} (xs : List X) (n : ℕ) → drop 1 (drop n xs) ≡ drop (suc n) xs
drop-one [] zero = refl
drop-one [] (suc n) = refl
drop-one (x ∷ xs) zero = refl
drop-one (x ∷ xs) (suc n) = drop-one xs n

pub within_bytes : (es : List Seen) → read_total es ≤ MOST_TRACE_BYTES → is_past_bytes es ≡ false
within_bytes es h = le-ltb MOST_TRACE_BYTES (read_total es) h

pub past_bytes : (es : List Seen) → MOST_TRACE_BYTES < read_total es → is_past_bytes es ≡ true
past_bytes es h = lt-ltb MOST_TRACE_BYTES (read_total es) h

-- ---- tests of each number

pub below_next : (test : ℕ → Bool) (i : ℕ) → ((n : ℕ) → n < i → test n ≡ false) → test i ≡ false → (n : ℕ) → n < suc i → test n ≡ false
below_next test i before here n lt = at (nat_lt n i) refl
  where
    at : (b : Bool) → nat_lt n i ≡ b → test n ≡ false
    at true q = before n (ltb-true n i q)
    at false q = let up = ltb-false n i q in let e : n ≡ i = omega arith in ap test e ∙ here

pub from_next : (test : ℕ → Bool) (i : ℕ) → ((n : ℕ) → n < i → test n ≡ false) → ((n : ℕ) → i ≤ n → test n ≡ false) → (n : ℕ)
    → test n ≡ false
from_next test i before after n = at (nat_lt n i) refl
  where
    at : (b : Bool) → nat_lt n i ≡ b → test n ≡ false
    at true q = before n (ltb-true n i q)
    at false q = after n (ltb-false n i q)

-- ---- the run

abbrev pub made : List Seen → Outcome → Trace
made events outcome = record { events = events; outcome = outcome }

abbrev joined : List FlatEvent → FlatOutcome → FlatRun
joined events outcome = record { events = events; outcome = outcome }

module _ (stop : ℕ) (out : ℕ → Option External) (first : FlatState) (replies : List Reply) where
  abbrev go : ℕ → FlatState → List Reply → FlatRun
  go m t rs = flat_run stop out m t rs

  abbrev run : ℕ → FlatRun
  run m = flat_run stop out m first replies

  -- after i steps the machine stands so, and these events are kept
  pub record IsAfter (i : ℕ) (t : FlatState) (seen : List Seen) : Type 0 where
    pub events : List FlatEvent
    pub shown : seen ≡ map seen_of events
    pub few : read_total seen ≤ MOST_TRACE_BYTES
    pub goes : (m : ℕ) → flat_run stop out (i + m) first replies ≡ behind events (flat_run stop out m t (drop (length events) replies))
    pub within : (n : ℕ) → n < i → flat_passes (λ m. flat_run stop out m first replies) n ≡ false

  pub at_first : IsAfter 0 first []
  at_first = record {
    events = [];
    shown = refl;
    few = omega arith;
    goes = λ m. let e : 0 + m ≡ m = omega arith in ap run e;
    within = λ n lt. absurd (omega arith);
  }

  -- the events of j steps, where the machine stands so after them
  events_at : (j : ℕ) (t : FlatState) (es : List FlatEvent) (seen : List Seen) → seen ≡ map seen_of es
      → ((m : ℕ) → run (j + m) ≡ behind es (go m t (drop (length es) replies))) → flat_events (run j) ≡ seen
  events_at j t es seen shown goes =
      let s : j ≡ j + 0 = omega arith in
      ap (λ k. flat_events (run k)) s ∙ (ap flat_events (goes 0) ∙ (ap (map seen_of) (append-nil es) ∙ sym shown))

  not_past : (j : ℕ) (seen : List Seen) → flat_events (run j) ≡ seen → read_total seen ≤ MOST_TRACE_BYTES
      → is_past_bytes (flat_events (run j)) ≡ false
  not_past j seen e few = ap is_past_bytes e ∙ within_bytes seen few

  -- the trace of a run that is not cut off
  whole : (end : FlatOutcome) (steps : ℕ) (seen : List Seen) → ((n : ℕ) → n < steps → flat_passes run n ≡ false)
      → flat_events (run steps) ≡ seen → (run steps).outcome ≡ end → made seen (flat_end end) ≡ flat_trace run steps
  whole end steps seen within events outcome =
      let none = least_none (flat_passes run) steps within in
      ap (λ es. made es (flat_end end)) (sym events) ∙ (ap (λ o. made (flat_events (run steps)) (flat_end o)) (sym outcome)
      ∙ ap (λ o. option_map_or (λ n. cut_flat (run n)) o (whole_flat (run steps))) (sym none))

  pub going : (steps : ℕ) (t : FlatState) (seen : List Seen) → IsAfter steps t seen → made seen Going ≡ flat_trace run steps
  going steps t seen a =
      let s : steps ≡ steps + 0 = omega arith in
      whole model.Going steps seen a.within (events_at steps t a.events seen a.shown a.goes)
      (ap (λ k. (run k).outcome) s ∙ ap (λ (r : FlatRun). r.outcome) (a.goes 0))

  module _ (i : ℕ) (t : FlatState) (seen : List Seen) (a : IsAfter i t seen) where
    reply_here : slice_get (drop (length a.events) replies) 0 ≡ slice_get replies (length seen)
    reply_here = slice_get-drop replies (length a.events) ∙ ap (slice_get replies) (sym (ap length a.shown ∙ length-map a.events seen_of))

    -- m steps more than the one that leads there
    after_one : (n : FlatNext) → flat_step stop t (out t.pc) (slice_get replies (length seen)) ≡ n → (m : ℕ)
        → run (i + suc m) ≡ behind a.events (flat_after (flat_run stop out m) (drop (length a.events) replies) n)
    after_one n e m =
        let here = ap (flat_step stop t (out t.pc)) reply_here ∙ e in
        a.goes (suc m) ∙ ap (λ x. behind a.events (flat_after (flat_run stop out m) (drop (length a.events) replies) x)) here

    pub went : (u : FlatState) → flat_step stop t (out t.pc) (slice_get replies (length seen)) ≡ leads.Went u → IsAfter (suc i) u seen
    went u e =
        let goes : (m : ℕ) → run (suc i + m) ≡ behind a.events (go m u (drop (length a.events) replies)) =
        λ m. let s : suc i + m ≡ i + suc m = omega arith in ap run s ∙ after_one (leads.Went u) e m in
        record {
          events = a.events;
          shown = a.shown;
          few = a.few;
          goes = goes;
          within = below_next (flat_passes run) i a.within (not_past (suc i) seen (events_at (suc i) u a.events seen a.shown goes) a.few);
        }

    module _ (x : FlatEvent) (u : FlatState) (e : flat_step stop t (out t.pc) (slice_get replies (length seen)) ≡ leads.Called x u) where
      kept : seen ++ seen_of x ∷ [] ≡ map seen_of (a.events ++ x ∷ [])
      kept = ap (λ es. es ++ seen_of x ∷ []) a.shown ∙ sym (map-append seen_of a.events (x ∷ []))

      goes_on : (m : ℕ) → run (suc i + m) ≡ behind (a.events ++ x ∷ []) (go m u (drop (length (a.events ++ x ∷ [])) replies))
      goes_on m =
          let s : suc i + m ≡ i + suc m = omega arith in
          let count : suc (length a.events) ≡ length (a.events ++ x ∷ []) = omega (arith, length-append a.events (x ∷ [])) in
          let rest : drop 1 (drop (length a.events) replies) ≡ drop (length (a.events ++ x ∷ [])) replies =
          drop-one replies (length a.events) ∙ ap (λ k. drop k replies) count in
          let after : FlatRun = go m u (drop (length (a.events ++ x ∷ [])) replies) in
          ap run s ∙ (after_one (leads.Called x u) e m ∙ (ap (λ rs. joined (a.events ++ x ∷ (go m u rs).events) (go m u rs).outcome) rest
          ∙ ap (λ es. joined es after.outcome) (sym (append_assoc a.events (x ∷ []) after.events))))

      events_on : flat_events (run (suc i)) ≡ seen ++ seen_of x ∷ []
      events_on = events_at (suc i) u (a.events ++ x ∷ []) (seen ++ seen_of x ∷ []) kept goes_on

      pub called : read_total (seen ++ seen_of x ∷ []) ≤ MOST_TRACE_BYTES → IsAfter (suc i) u (seen ++ seen_of x ∷ [])
      called few = record {
        events = a.events ++ x ∷ [];
        shown = kept;
        few = few;
        goes = goes_on;
        within = below_next (flat_passes run) i a.within (not_past (suc i) (seen ++ seen_of x ∷ []) events_on few);
      }

      pub full : (steps : ℕ) → i < steps → MOST_TRACE_BYTES < read_total (seen ++ seen_of x ∷ []) → made seen Full ≡ flat_trace run steps
      full steps lt past =
          let here : flat_passes run i ≡ true = ap is_past_bytes events_on ∙ past_bytes (seen ++ seen_of x ∷ []) past in
          let least = least_some (flat_passes run) i steps lt a.within here in
          ap (λ es. made es Full) (sym (events_at i t a.events seen a.shown a.goes))
          ∙ ap (λ o. option_map_or (λ n. cut_flat (run n)) o (whole_flat (run steps))) (sym least)

    pub over : (end : FlatOutcome) (n : FlatNext) → flat_step stop t (out t.pc) (slice_get replies (length seen)) ≡ n
        → ((m : ℕ) → flat_after (flat_run stop out m) (drop (length a.events) replies) n ≡ stands end)
        → (steps : ℕ) → i < steps → made seen (flat_end end) ≡ flat_trace run steps
    over end n e stops steps lt =
        let last : (k : ℕ) → i < k → run k ≡ behind a.events (stands end) =
        λ k above. let s : k ≡ i + suc (k - suc i) = omega arith in
        ap run s ∙ (after_one n e (k - suc i) ∙ ap (behind a.events) (stops (k - suc i))) in
        let events : (k : ℕ) → i < k → flat_events (run k) ≡ seen =
        λ k above. ap flat_events (last k above) ∙ (ap (map seen_of) (append-nil a.events) ∙ sym a.shown) in
        let within : (k : ℕ) → k < steps → flat_passes run k ≡ false =
        λ k below. from_next (flat_passes run) i a.within (λ j above. not_past (suc j) seen (events (suc j) (omega arith)) a.few) k in
        whole end steps seen within (events steps lt) (ap (λ (r : FlatRun). r.outcome) (last steps lt))
