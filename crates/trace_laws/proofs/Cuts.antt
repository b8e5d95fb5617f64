-- Where the traces of both machines are cut.
use Rattle.std.proofs.Common.{◌≡◌, ℕ, zero, suc, ◌+◌, ◌-◌, ◌<◌, ◌≤◌, ◌⊎◌, Bool, true, false, ◌||◌, inl, inr, List, [], ◌∷◌, ◌++◌, length}
use Rattle.std.proofs.Common.{map, Option, Some, None, nat_lt, refl, sym, ap, ◌∙◌, subst, arith, ⊎_elim, if◌then◌else◌}
use Rattle.std.specs.Option.{option_map_or}
use Rattle.std.proofs.lemmas.Bool.{cases_lt, ltb-false, ltb-true, lt-ltb, le-ltb}
use Rattle.std.proofs.lemmas.List.{map-append}
use Rattle.limits.specs.declared.TheConstants.{LEAST_FRAME_BYTES, MOST_TRACE_BYTES}
use Rattle.asm_syntax.specs.declared.unit.Reply.{Reply}
use Rattle.ppc_machine.specs.declared.externals.External.{External}
use Rattle.ppc_machine.specs.State.{FlatEvent, FlatState}
use Rattle.machine_model.specs.AsmRuns.{AsmEvent, AsmRun}
use Rattle.machine_model.specs.FlatRuns as flat
use Rattle.machine_model.specs.FlatRuns.{FlatOutcome, FlatRun, flat_run}
use Rattle.machine_runs.specs.declared.trace.Outcome.{Outcome}
use Rattle.machine_runs.specs.declared.trace.Outcome.TheVariants.{Stack, Full}
use Rattle.machine_runs.specs.declared.trace.Seen.{Seen}
use Rattle.machine_runs.specs.declared.trace.Trace.{Trace}
use Rattle.machine_runs.specs.Sums.{read_total}
use Rattle.machine_runs.specs.Traces.{seen_of, least_below, is_past_bytes, is_past_stack, flat_end, flat_events, flat_passes, flat_trace}
use Rattle.machine_runs.specs.Traces.{whole_flat, cut_flat, asm_events, asm_end, asm_passes, trace_of, whole_asm, cut_asm}
use Rattle.machine_runs.proofs.Least.{IsLeast, NoneBelow, least_is}
use Rattle.verdict_laws.specs.Laws.{Extends, IsOver, LongerRunsExtend}
use Rattle.trace_laws.proofs.Common.{total_grows}

not_past : (es : List Seen) → is_past_bytes es ≡ false → read_total es ≤ MOST_TRACE_BYTES
not_past es h = ltb-false MOST_TRACE_BYTES (read_total es) h

past : (es : List Seen) → is_past_bytes es ≡ true → MOST_TRACE_BYTES < read_total es
past es h = ltb-true MOST_TRACE_BYTES (read_total es) h

-- ---- the image

-- the whole trace of a run that has ended
abbrev pub EndsTrace : FlatOutcome → FlatRun → Trace → Type 0
EndsTrace flat.Going r t = Unit {0}
EndsTrace o r t = (t.events ≡ flat_events r) × (t.outcome ≡ flat_end o)

-- a trace that begins with the events of a run, and is that of the run where it has ended
pub record Begins (r : FlatRun) (t : Trace) : Type 0 where
  pub adds : List Seen
  pub events : flat_events r ++ adds ≡ t.events
  pub ends : EndsTrace r.outcome r t

module _ (longer : LongerRunsExtend) (stop : ℕ) (outside : ℕ → Option External) (s : FlatState) (rs : List Reply) where
  abbrev run : ℕ → FlatRun
  run m = flat_run stop outside m s rs

  extends : (m n : ℕ) → m ≤ n → Extends (run m) (run n)
  extends m n h =
      let z : m + (n - m) ≡ n = omega arith in
      subst (λ k. Extends (run m) (run k)) z (longer stop outside m (n - m) s rs)

  -- what the longer run shows
  adds_up : (m n : ℕ) (x : Extends (run m) (run n)) → flat_events (run m) ++ map seen_of x.more ≡ flat_events (run n)
  adds_up m n x = sym (map-append seen_of (run m).events x.more) ∙ ap (map seen_of) (sym x.events)

  whole_begins : (m n : ℕ) → m ≤ n → Begins (run m) (whole_flat (run n))
  whole_begins m n h =
      let x = extends m n h in
      record { adds = map seen_of x.more; events = adds_up m n x; ends = by (run m).outcome refl x.over }
    where
      whole : (o : FlatOutcome) → (run m).outcome ≡ o → run n ≡ run m →
          ((whole_flat (run n)).events ≡ flat_events (run m)) × ((whole_flat (run n)).outcome ≡ flat_end o)
      whole o e q = (ap flat_events q, ap (λ (r : FlatRun). flat_end r.outcome) q ∙ ap flat_end e)

      by : (o : FlatOutcome) → (run m).outcome ≡ o → (IsOver o → run n ≡ run m) → EndsTrace o (run m) (whole_flat (run n))
      by flat.Going e over = tt
      by (flat.Ended w) e over = whole (flat.Ended w) e (over tt)
      by flat.Starved e over = whole flat.Starved e (over tt)
      by (flat.Faulted k) e over = whole (flat.Faulted k) e (over tt)

  -- the bytes of more steps are no fewer
  grows : (m n : ℕ) → m ≤ n → read_total (flat_events (run m)) ≤ read_total (flat_events (run n))
  grows m n h =
      let x = extends m n h in
      subst (λ es. read_total (flat_events (run m)) ≤ read_total es) (adds_up m n x)
      (total_grows (flat_events (run m)) (map seen_of x.more))

  cut_begins : (m k : ℕ) → m ≤ k → read_total (flat_events (run m)) ≤ MOST_TRACE_BYTES
      → MOST_TRACE_BYTES < read_total (flat_events (run (suc k))) →
      Begins (run m) (cut_flat (run k))
  cut_begins m k h few many =
      let x = extends m k h in
      let y = extends m (suc k) (omega arith) in
      record { adds = map seen_of x.more; events = adds_up m k x; ends = by (run m).outcome y.over }
    where
      -- a run that has ended reads no more
      more : run (suc k) ≡ run m → ⊥
      more e = let q : read_total (flat_events (run (suc k))) ≡ read_total (flat_events (run m)) =
          ap (λ r. read_total (flat_events r)) e in omega arith

      by : (o : FlatOutcome) → (IsOver o → run (suc k) ≡ run m) → EndsTrace o (run m) (cut_flat (run k))
      by flat.Going over = tt
      by (flat.Ended w) over = absurd (more (over tt))
      by flat.Starved over = absurd (more (over tt))
      by (flat.Faulted f) over = absurd (more (over tt))

  pub trace_begins : (m n : ℕ) → m ≤ n → read_total (flat_events (run m)) ≤ MOST_TRACE_BYTES → Begins (run m) (flat_trace run n)
  trace_begins m n h few = by (least_below (flat_passes run) n) refl (least_is (flat_passes run) n)
    where
      by : (o : Option ℕ) → least_below (flat_passes run) n ≡ o → IsLeast (flat_passes run) n o → Begins (run m) (flat_trace run n)
      by None e l = rw e (whole_begins m n h)
      by (Some k) e l = rw e (⊎_elim (λ low. absurd (early low)) (λ le. cut_begins m k le few many) (cases_lt k m))
        where
          many : MOST_TRACE_BYTES < read_total (flat_events (run (suc k)))
          many = past (flat_events (run (suc k))) l.1

          early : k < m → ⊥
          early low = let q = grows (suc k) m (omega arith) in let p = many in omega arith

-- ---- the assembly

-- the trace of so many steps is that of a run which fits the stack and reads no more than it may, and ends as it or at a limit
pub record CutAt (show : AsmEvent → Seen) (size : ℕ) (run : ℕ → AsmRun) (steps : ℕ) (t : Trace) : Type 0 where
  pub taken : ℕ
  pub few : taken ≤ steps
  pub events : t.events ≡ asm_events show (run taken)
  pub outcome : (t.outcome ≡ asm_end (run taken).outcome) ⊎ ((t.outcome ≡ Stack) ⊎ (t.outcome ≡ Full))
  pub fits : (run taken).deepest + LEAST_FRAME_BYTES ≤ size
  pub reads : read_total (asm_events show (run taken)) ≤ MOST_TRACE_BYTES

or_false : (a b : Bool) → (a || b) ≡ false → (a ≡ false) × (b ≡ false)
or_false false false h = (refl, refl)
or_false true b h = absurd (let q : true ≡ false = h in cc)
or_false false true h = absurd (let q : true ≡ false = h in cc)

module _ (show : AsmEvent → Seen) (size : ℕ) (run : ℕ → AsmRun) (first_fits : (run 0).deepest + LEAST_FRAME_BYTES ≤ size)
    (first_reads : read_total (asm_events show (run 0)) ≤ MOST_TRACE_BYTES) where
  -- what is true of n steps where none before passes a limit
  within : (n : ℕ) → NoneBelow (asm_passes show size run) n →
      ((run n).deepest + LEAST_FRAME_BYTES ≤ size) × (read_total (asm_events show (run n)) ≤ MOST_TRACE_BYTES)
  within zero h = (first_fits, first_reads)
  within (suc n) h =
      let e = or_false (is_past_stack size (run (suc n))) (is_past_bytes (asm_events show (run (suc n)))) (h n (omega arith)) in
      (ltb-false size ((run (suc n)).deepest + LEAST_FRAME_BYTES) e.0, not_past (asm_events show (run (suc n))) e.1)

  pub trace_cut : (steps : ℕ) → CutAt show size run steps (trace_of show size run steps)
  trace_cut steps = by (least_below (asm_passes show size run) steps) refl (least_is (asm_passes show size run) steps)
    where
      at_limit : (b : Bool) → ((if b then Stack else Full) ≡ Stack) ⊎ ((if b then Stack else Full) ≡ Full)
      at_limit true = inl refl
      at_limit false = inr refl

      by : (o : Option ℕ) → least_below (asm_passes show size run) steps ≡ o → IsLeast (asm_passes show size run) steps o →
          CutAt show size run steps (trace_of show size run steps)
      by None e l =
          let w = within steps l in
          rw e (record { taken = steps; few = omega arith; events = refl; outcome = inl refl; fits = w.0; reads = w.1 })
      by (Some n) e l =
          let w = within n l.2 in
          let lt = l.0 in
          rw e (record {
            taken = n;
            few = omega arith;
            events = refl;
            outcome = inr (at_limit (is_past_stack size (run (suc n))));
            fits = w.0;
            reads = w.1;
          })
