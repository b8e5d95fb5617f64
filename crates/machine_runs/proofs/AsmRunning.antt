-- The run of the assembly machine, step by step: what stands after i steps, and the trace where it ends.
use Rattle.std.proofs.Common.{◌≡◌, ℕ, zero, suc, ◌+◌, ◌-◌, ◌<◌, ◌≤◌, max, Bool, true, false, List, [], ◌∷◌, ◌++◌, length, map, drop, refl}
use Rattle.std.proofs.Common.{ap, sym, ◌∙◌, arith, if◌then◌else◌}
use Rattle.std.specs.Prelude.{◌||◌, nat_lt, slice_get}
use Rattle.std.specs.Option.{option_map_or}
use Rattle.std.proofs.lemmas.Bool.{le-ltb, lt-ltb}
use Rattle.std.proofs.lemmas.List.{append_assoc, append-nil, map-append, length-map, length-append}
use Rattle.limits.specs.declared.TheConstants.{LEAST_FRAME_BYTES, MOST_TRACE_BYTES}
use Rattle.asm_syntax.specs.declared.unit.Reply.{Reply}
use Rattle.asm_step.specs.LinkedCode.{Linked}
use Rattle.asm_step.specs.State as leads
use Rattle.asm_step.specs.State.{Call, Next, State}
use Rattle.asm_step.specs.Steps.{asm_step}
use Rattle.asm_machine.specs.Stacks.{frame_cells}
use Rattle.machine_model.specs.AsmRuns as model
use Rattle.machine_model.specs.AsmRuns.{AsmEvent, AsmOutcome, AsmRun, asm_after, asm_run, before, stands, with_event}
use Rattle.machine_runs.specs.declared.trace.Seen.{Seen}
use Rattle.machine_runs.specs.declared.trace.Outcome.TheVariants.{Going, Stack, Full}
use Rattle.machine_runs.specs.Steps.{asm_state_after}
use Rattle.machine_runs.specs.Sums.{read_total}
use Rattle.machine_runs.specs.Traces.{asm_end, asm_events, asm_passes, cut_asm, is_past_bytes, is_past_stack, trace_of, whole_asm}
use Rattle.machine_runs.proofs.FlatRunning.{below_next, drop-one, from_next, made, past_bytes, slice_get-drop, within_bytes}
use Rattle.machine_runs.proofs.Least.{least_none, least_some}

abbrev joined : List AsmEvent → AsmOutcome → ℕ → AsmRun
joined events outcome deepest = record { events = events; outcome = outcome; deepest = deepest }

-- with the events before it, and the most cells that the frames have had before it
abbrev pub behind : List AsmEvent → ℕ → AsmRun → AsmRun
behind events deepest run = joined (events ++ run.events) run.outcome (max deepest run.deepest)

deeper : (d fs fu r : ℕ) → fs ≤ d → fu ≤ r → max d (max fs r) ≡ max (max d fu) r
deeper d fs fu r h k = omega arith

greater : (a b : ℕ) → a ≤ b → max a b ≡ b
greater a b h = omega arith

less : (a b : ℕ) → b ≤ a → max a b ≡ a
less a b h = omega arith

between : (d fs fu : ℕ) → fs ≤ d → max d (max fs fu) ≡ max d fu
between d fs fu h = omega arith

first_or : (a b : Bool) → a ≡ true → (a || b) ≡ true
first_or true b h = refl
first_or false b h = absurd (cc)

neither : (a b : Bool) → a ≡ false → b ≡ false → (a || b) ≡ false
neither a b h k = rw (h, k) refl

second_or : (a b : Bool) → a ≡ false → b ≡ true → (a || b) ≡ true
second_or a b h k = rw (h, k) refl

module _ (p : Linked) (show : AsmEvent → Seen) (size : ℕ) (first : State) (replies : List Reply) where
  abbrev run : ℕ → AsmRun
  run m = asm_run p m first replies

  abbrev cells : State → ℕ
  cells s = frame_cells p.variables s.live

  -- a run has the frames of its first state
  least_deep : (m : ℕ) (s : State) (rs : List Reply) → frame_cells p.variables s.live ≤ (asm_run p m s rs).deepest
  least_deep zero s rs = omega arith
  least_deep (suc m) s rs = at (asm_step p s (slice_get rs 0))
    where
      at : (n : Next) → frame_cells p.variables s.live ≤ (asm_after p (asm_run p m) s rs n).deepest
      at (leads.Went t) = omega arith
      at (leads.Called c t) = omega arith
      at (leads.Ended word) = omega arith
      at leads.Starved = omega arith
      at (leads.Undefined why) = omega arith

  -- after i steps the machine stands so, its frames have had so many cells at most, and these events are kept
  pub record IsAfter (i : ℕ) (s : State) (deepest : ℕ) (seen : List Seen) : Type 0 where
    pub events : List AsmEvent
    pub shown : seen ≡ map show events
    pub few : read_total seen ≤ MOST_TRACE_BYTES
    pub room : deepest + LEAST_FRAME_BYTES ≤ size
    pub deep : frame_cells p.variables s.live ≤ deepest
    pub goes : (m : ℕ) → asm_run p (i + m) first replies ≡ behind events deepest (asm_run p m s (drop (length events) replies))
    pub within : (n : ℕ) → n < i → asm_passes show size (λ m. asm_run p m first replies) n ≡ false

  pub at_first : (deepest : ℕ) → deepest ≡ frame_cells p.variables first.live → deepest + LEAST_FRAME_BYTES ≤ size
      → IsAfter 0 first deepest []
  at_first deepest is room = record {
    events = [];
    shown = refl;
    few = omega arith;
    room = room;
    deep = omega arith;
    goes = λ m.
        let e : 0 + m ≡ m = omega arith in
        let least = least_deep m first replies in
        let d : (run m).deepest ≡ max deepest (run m).deepest = sym (greater deepest (run m).deepest (omega arith)) in
        ap run e ∙ ap (λ x. joined (run m).events (run m).outcome x) d;
    within = λ n lt. absurd (omega arith);
  }

  -- ---- what j steps have, where the machine stands so after them

  module _ (j : ℕ) (s : State) (deepest : ℕ) (es : List AsmEvent) (seen : List Seen) (shown : seen ≡ map show es)
      (goes : (m : ℕ) → asm_run p (j + m) first replies ≡ behind es deepest (asm_run p m s (drop (length es) replies))) where
    events_at : asm_events show (asm_run p j first replies) ≡ seen
    events_at =
        let e : j ≡ j + 0 = omega arith in
        ap (λ k. asm_events show (run k)) e ∙ (ap (asm_events show) (goes 0) ∙ (ap (map show) (append-nil es) ∙ sym shown))

    deepest_at : frame_cells p.variables s.live ≤ deepest → (asm_run p j first replies).deepest ≡ deepest
    deepest_at deep =
        let e : j ≡ j + 0 = omega arith in
        ap (λ k. (run k).deepest) e ∙ (ap (λ (r : AsmRun). r.deepest) (goes 0) ∙ less deepest (cells s) deep)

  fits_at : (j deepest : ℕ) → (run j).deepest ≡ deepest → deepest + LEAST_FRAME_BYTES ≤ size → is_past_stack size (run j) ≡ false
  fits_at j deepest e room = ap (λ d. nat_lt size (d + LEAST_FRAME_BYTES)) e ∙ le-ltb size (deepest + LEAST_FRAME_BYTES) room

  not_past : (j deepest : ℕ) (seen : List Seen) → (run j).deepest ≡ deepest → deepest + LEAST_FRAME_BYTES ≤ size
      → asm_events show (run j) ≡ seen → read_total seen ≤ MOST_TRACE_BYTES
      → (is_past_stack size (run j) || is_past_bytes (asm_events show (run j))) ≡ false
  not_past j deepest seen d room e few =
      neither (is_past_stack size (run j)) (is_past_bytes (asm_events show (run j)))
      (fits_at j deepest d room) (ap is_past_bytes e ∙ within_bytes seen few)

  -- ---- traces

  whole : (end : AsmOutcome) (steps : ℕ) (seen : List Seen) → ((n : ℕ) → n < steps → asm_passes show size run n ≡ false)
      → asm_events show (run steps) ≡ seen → (run steps).outcome ≡ end → made seen (asm_end end) ≡ trace_of show size run steps
  whole end steps seen within events outcome =
      let none = least_none (asm_passes show size run) steps within in
      ap (λ es. made es (asm_end end)) (sym events) ∙ (ap (λ o. made (asm_events show (run steps)) (asm_end o)) (sym outcome)
      ∙ ap (λ o. option_map_or (cut_asm show size run) o (whole_asm show (run steps))) (sym none))

  cut : (i steps : ℕ) (seen : List Seen) (b : Bool) → i < steps → ((n : ℕ) → n < i → asm_passes show size run n ≡ false)
      → asm_passes show size run i ≡ true → is_past_stack size (run (suc i)) ≡ b → asm_events show (run i) ≡ seen
      → made seen (if b then Stack else Full) ≡ trace_of show size run steps
  cut i steps seen b lt within here past events =
      let least = least_some (asm_passes show size run) i steps lt within here in
      ap (λ es. made es (if b then Stack else Full)) (sym events)
      ∙ (ap (λ x. made (asm_events show (run i)) (if x then Stack else Full)) (sym past)
      ∙ ap (λ o. option_map_or (cut_asm show size run) o (whole_asm show (run steps))) (sym least))

  pub going : (steps : ℕ) (s : State) (deepest : ℕ) (seen : List Seen) → IsAfter steps s deepest seen
      → made seen Going ≡ trace_of show size run steps
  going steps s deepest seen a =
      let e : steps ≡ steps + 0 = omega arith in
      whole model.Going steps seen a.within (events_at steps s deepest a.events seen a.shown a.goes)
      (ap (λ k. (run k).outcome) e ∙ ap (λ (r : AsmRun). r.outcome) (a.goes 0))

  -- ---- one step on

  module _ (i : ℕ) (s : State) (deepest : ℕ) (seen : List Seen) (a : IsAfter i s deepest seen) where
    reply_here : slice_get (drop (length a.events) replies) 0 ≡ slice_get replies (length seen)
    reply_here = slice_get-drop replies (length a.events) ∙ ap (slice_get replies) (sym (ap length a.shown ∙ length-map a.events show))

    -- m steps more than the one that leads there
    after_one : (n : Next) → asm_step p s (slice_get replies (length seen)) ≡ n → (m : ℕ)
        → run (i + suc m) ≡ behind a.events deepest (asm_after p (asm_run p m) s (drop (length a.events) replies) n)
    after_one n e m =
        let here = ap (asm_step p s) reply_here ∙ e in
        a.goes (suc m) ∙ ap (λ x. behind a.events deepest (asm_after p (asm_run p m) s (drop (length a.events) replies) x)) here

    pub went : (u : State) (d : ℕ) → asm_step p s (slice_get replies (length seen)) ≡ leads.Went u
        → d ≡ max deepest (frame_cells p.variables u.live) → d + LEAST_FRAME_BYTES ≤ size → IsAfter (suc i) u d seen
    went u d e is room =
        let goes : (m : ℕ) → run (suc i + m) ≡ behind a.events d (asm_run p m u (drop (length a.events) replies)) =
        λ m.
        let r : AsmRun = asm_run p m u (drop (length a.events) replies) in
        let k : suc i + m ≡ i + suc m = omega arith in
        let same : max deepest (max (cells s) r.deepest) ≡ max d r.deepest =
        deeper deepest (cells s) (cells u) r.deepest a.deep (least_deep m u (drop (length a.events) replies))
        ∙ ap (λ x. max x r.deepest) (sym is) in
        ap run k ∙ (after_one (leads.Went u) e m ∙ ap (λ x. joined (a.events ++ r.events) r.outcome x) same) in
        let deep : frame_cells p.variables u.live ≤ d = omega arith in
        record {
          events = a.events;
          shown = a.shown;
          few = a.few;
          room = room;
          deep = deep;
          goes = goes;
          within = below_next (asm_passes show size run) i a.within
              (not_past (suc i) d seen (deepest_at (suc i) u d a.events seen a.shown goes deep) room
              (events_at (suc i) u d a.events seen a.shown goes) a.few);
        }

    module _ (c : Call) (u : State) (d : ℕ) (e : asm_step p s (slice_get replies (length seen)) ≡ leads.Called c u)
        (is : d ≡ max deepest (frame_cells p.variables u.live)) (room : d + LEAST_FRAME_BYTES ≤ size) where
      abbrev event : AsmEvent
      event = record { call = c; before = s }

      kept : seen ++ show (record { call = c; before = s }) ∷ [] ≡ map show (a.events ++ record { call = c; before = s } ∷ [])
      kept = ap (λ es. es ++ show event ∷ []) a.shown ∙ sym (map-append show a.events (event ∷ []))

      goes_on : (m : ℕ) → run (suc i + m)
          ≡ behind (a.events ++ record { call = c; before = s } ∷ []) d
          (asm_run p m u (drop (length (a.events ++ record { call = c; before = s } ∷ [])) replies))
      goes_on m =
          let k : suc i + m ≡ i + suc m = omega arith in
          let count : suc (length a.events) ≡ length (a.events ++ event ∷ []) = omega (arith, length-append a.events (event ∷ [])) in
          let rest : drop 1 (drop (length a.events) replies) ≡ drop (length (a.events ++ event ∷ [])) replies =
          drop-one replies (length a.events) ∙ ap (λ k. drop k replies) count in
          let after : AsmRun = asm_run p m u (drop (length (a.events ++ event ∷ [])) replies) in
          let same : max deepest (max (cells s) after.deepest) ≡ max d after.deepest =
          deeper deepest (cells s) (cells u) after.deepest a.deep (least_deep m u (drop (length (a.events ++ event ∷ [])) replies))
          ∙ ap (λ x. max x after.deepest) (sym is) in
          ap run k ∙ (after_one (leads.Called c u) e m
          ∙ (ap (λ rs. let r : AsmRun = asm_run p m u rs in
          joined (a.events ++ event ∷ r.events) r.outcome (max deepest (max (cells s) r.deepest))) rest
          ∙ (ap (λ es. joined es after.outcome (max deepest (max (cells s) after.deepest)))
          (sym (append_assoc a.events (event ∷ []) after.events))
          ∙ ap (λ x. joined (a.events ++ event ∷ [] ++ after.events) after.outcome x) same)))

      deep_on : frame_cells p.variables u.live ≤ d
      deep_on = omega arith

      events_on : asm_events show (run (suc i)) ≡ seen ++ show (record { call = c; before = s }) ∷ []
      events_on = events_at (suc i) u d (a.events ++ event ∷ []) (seen ++ show event ∷ []) kept goes_on

      deepest_on : (run (suc i)).deepest ≡ d
      deepest_on = deepest_at (suc i) u d (a.events ++ event ∷ []) (seen ++ show event ∷ []) kept goes_on deep_on

      pub called : read_total (seen ++ show (record { call = c; before = s }) ∷ []) ≤ MOST_TRACE_BYTES
          → IsAfter (suc i) u d (seen ++ show (record { call = c; before = s }) ∷ [])
      called few = record {
        events = a.events ++ event ∷ [];
        shown = kept;
        few = few;
        room = room;
        deep = deep_on;
        goes = goes_on;
        within = below_next (asm_passes show size run) i a.within
            (not_past (suc i) d (seen ++ show event ∷ []) deepest_on room events_on few);
      }

      pub full : (steps : ℕ) → i < steps → MOST_TRACE_BYTES < read_total (seen ++ show (record { call = c; before = s }) ∷ [])
          → made seen Full ≡ trace_of show size run steps
      full steps lt past =
          let fits = fits_at (suc i) d deepest_on room in
          let reads : is_past_bytes (asm_events show (run (suc i))) ≡ true = ap is_past_bytes events_on
          ∙ past_bytes (seen ++ show event ∷ []) past in
          cut i steps seen false lt a.within (second_or (is_past_stack size (run (suc i))) (is_past_bytes (asm_events show (run (suc i))))
          fits reads)
          fits (events_at i s deepest a.events seen a.shown a.goes)

    deepest_next : (n : Next) → asm_step p s (slice_get replies (length seen)) ≡ n
        → (run (suc i)).deepest ≡ max deepest (frame_cells p.variables (asm_state_after n s).live)
    deepest_next n e =
        let k : suc i ≡ i + suc 0 = omega arith in
        ap (λ j. (run j).deepest) k ∙ (ap (λ (r : AsmRun). r.deepest) (after_one n e 0) ∙ at n)
      where
        at : (n : Next) → (behind a.events deepest (asm_after p (asm_run p 0) s (drop (length a.events) replies) n)).deepest
            ≡ max deepest (frame_cells p.variables (asm_state_after n s).live)
        at (leads.Went t) = between deepest (cells s) (cells t) a.deep
        at (leads.Called c t) = between deepest (cells s) (cells t) a.deep
        at (leads.Ended word) = refl
        at leads.Starved = refl
        at (leads.Undefined why) = refl

    pub stack : (n : Next) (d steps : ℕ) → asm_step p s (slice_get replies (length seen)) ≡ n
        → d ≡ max deepest (frame_cells p.variables (asm_state_after n s).live) → size < d + LEAST_FRAME_BYTES → i < steps
        → made seen Stack ≡ trace_of show size run steps
    stack n d steps e is past lt =
        let deep : (run (suc i)).deepest ≡ d = deepest_next n e ∙ sym is in
        let here : is_past_stack size (run (suc i)) ≡ true =
        ap (λ x. nat_lt size (x + LEAST_FRAME_BYTES)) deep ∙ lt-ltb size (d + LEAST_FRAME_BYTES) past in
        cut i steps seen true lt a.within (first_or (is_past_stack size (run (suc i))) (is_past_bytes (asm_events show (run (suc i)))) here)
        here (events_at i s deepest a.events seen a.shown a.goes)

    pub over : (end : AsmOutcome) (n : Next) → asm_step p s (slice_get replies (length seen)) ≡ n
        → ((m : ℕ) → asm_after p (asm_run p m) s (drop (length a.events) replies) n ≡ stands p s end)
        → (steps : ℕ) → i < steps → made seen (asm_end end) ≡ trace_of show size run steps
    over end n e stops steps lt =
        let last : (k : ℕ) → i < k → run k ≡ behind a.events deepest (stands p s end) =
        λ k above. let j : k ≡ i + suc (k - suc i) = omega arith in
        ap run j ∙ (after_one n e (k - suc i) ∙ ap (behind a.events deepest) (stops (k - suc i))) in
        let events : (k : ℕ) → i < k → asm_events show (run k) ≡ seen =
        λ k above. ap (asm_events show) (last k above) ∙ (ap (map show) (append-nil a.events) ∙ sym a.shown) in
        let deep : (k : ℕ) → i < k → (run k).deepest ≡ deepest =
        λ k above. ap (λ (r : AsmRun). r.deepest) (last k above) ∙ less deepest (cells s) a.deep in
        let within : (k : ℕ) → k < steps → asm_passes show size run k ≡ false =
        λ k below. from_next (asm_passes show size run) i a.within
        (λ j above. not_past (suc j) deepest seen (deep (suc j) (omega arith)) a.room (events (suc j) (omega arith)) a.few) k in
        whole end steps seen within (events steps lt) (ap (λ (r : AsmRun). r.outcome) (last steps lt))
