-- The traces of a program and of an image that matches it agree.
use Rattle.std.proofs.Common.{◌≡◌, ℕ, zero, suc, ◌+◌, ◌-◌, ◌*◌, ◌<◌, ◌≤◌, ◌⊎◌, Bool, true, false, ◌&&◌, inl, inr, List, [], ◌∷◌, ◌++◌}
use Rattle.std.proofs.Common.{length, map, refl, sym, ap, ◌∙◌, subst, arith, append-nil}
use Rattle.std.specs.Prelude.{◌==◌}
use Rattle.std.proofs.lemmas.Bool.{and_from, eq-eqb}
use Rattle.limits.specs.declared.TheConstants.{IMAGE_STEPS_A_STEP, LEAST_FRAME_BYTES, MOST_TRACE_BYTES}
use Rattle.asm_syntax.specs.declared.unit.Reply.{Reply}
use Rattle.link_model.specs.Binding.{addresses}
use Rattle.link_model.specs.Candidates.{Inputs}
use Rattle.link_laws.specs.Laws.{LinkedGivesFacts, MatchesGiveFacts}
use Rattle.ppc_machine.specs.declared.cpu.Junk.{Junk}
use Rattle.machine_model.specs.AsmRuns as asm
use Rattle.machine_model.specs.AsmRuns.{AsmEvent, AsmOutcome, AsmRun, program_run}
use Rattle.machine_model.specs.FlatRuns as flat
use Rattle.machine_model.specs.FlatRuns.{FlatOutcome, FlatRun, image_run, outside}
use Rattle.machine_model.specs.Worlds.{World, world_of}
use Rattle.machine_model.specs.Faithful.{Follows, seen}
use Rattle.machine_runs.specs.declared.trace.Outcome.{Outcome}
use Rattle.machine_runs.specs.declared.trace.Outcome.TheVariants as ends
use Rattle.machine_runs.specs.declared.trace.Seen.{Seen}
use Rattle.machine_runs.specs.declared.trace.Trace.{Trace}
use Rattle.machine_runs.specs.Sums.{read_total}
use Rattle.machine_runs.specs.Traces.{asm_end, asm_events, asm_seen, asm_trace, flat_events, flat_trace, seen_of, stack_size}
use Rattle.run_text.specs.Agreement.{agrees, common_events, is_same}
use Rattle.start_laws.specs.Laws.{IsKnown, FirstStatesRelate, MatchesAreFaithful}
use Rattle.verdict_laws.specs.Laws.{LongerRunsExtend}
use Rattle.trace_laws.specs.Laws.{MatchingTracesAgree}
use Rattle.trace_laws.proofs.SeenEvents.{events_are}
use Rattle.trace_laws.proofs.Common.{common_prefix}
use Rattle.trace_laws.proofs.Cuts.{Begins, EndsTrace, trace_begins, CutAt, trace_cut}

-- an end of the assembly that the image has too
same_end : (a : AsmOutcome) (r : FlatRun) (t : Trace) (es : List Seen) → r.outcome ≡ seen a → es ≡ flat_events r → EndsTrace r.outcome r t →
    agrees (asm_end a) (length es == length t.events) t.outcome ≡ true
same_end asm.Going r t es e q h = refl
same_end (asm.Undefined why) r t es e q h = refl
same_end (asm.Ended w) r t es e q h =
    let x : EndsTrace (flat.Ended w) r t = subst (λ o. EndsTrace o r t) e h in
    let n : length es ≡ length t.events = ap length (q ∙ sym x.0) in
    rw x.1 (and_from (length es == length t.events) (w == w) (eq-eqb (length es) (length t.events) n) (eq-eqb w w refl))
same_end asm.Starved r t es e q h =
    let x : EndsTrace flat.Starved r t = subst (λ o. EndsTrace o r t) e h in
    let n : length es ≡ length t.events = ap length (q ∙ sym x.0) in
    rw x.1 (eq-eqb (length es) (length t.events) n)

-- a trace of the assembly that is cut, and one of the image that begins with the same events
same_traces : (t u : Trace) (a : AsmRun) (r : FlatRun) (show : AsmEvent → Seen) → t.events ≡ asm_events show a →
    (t.outcome ≡ asm_end a.outcome) ⊎ ((t.outcome ≡ ends.Stack) ⊎ (t.outcome ≡ ends.Full)) →
    asm_events show a ≡ flat_events r → r.outcome ≡ seen a.outcome → Begins r u → is_same t u ≡ true
same_traces t u a r show events outcome same end begins =
    let es : flat_events r ++ begins.adds ≡ u.events = begins.events in
    let ours : t.events ≡ flat_events r = events ∙ same in
    let common : common_events t.events u.events ≡ length t.events =
    ap (λ l. common_events l u.events) ours ∙ ap (common_events (flat_events r)) (sym es) ∙ common_prefix (flat_events r) begins.adds
    ∙ ap length (sym ours) in
    and_from (common_events t.events u.events == length t.events)
    (agrees t.outcome (common_events t.events u.events == length u.events) u.outcome)
    (eq-eqb (common_events t.events u.events) (length t.events) common)
    (ap (λ n. agrees t.outcome (n == length u.events) u.outcome) common ∙ by outcome)
  where
    by : (t.outcome ≡ asm_end a.outcome) ⊎ ((t.outcome ≡ ends.Stack) ⊎ (t.outcome ≡ ends.Full)) →
        agrees t.outcome (length t.events == length u.events) u.outcome ≡ true
    by (inl e) =
        ap (λ o. agrees o (length t.events == length u.events) u.outcome) e
        ∙ same_end a.outcome r u t.events end (events ∙ same) begins.ends
    by (inr (inl e)) = ap (λ o. agrees o (length t.events == length u.events) u.outcome) e
    by (inr (inr e)) = ap (λ o. agrees o (length t.events == length u.events) u.outcome) e

pub matching_traces_agree : LinkedGivesFacts → MatchesGiveFacts → MatchesAreFaithful → FirstStatesRelate → LongerRunsExtend
    → MatchingTracesAgree
matching_traces_agree linking matching faithful starting longer g loadable layout linked matches stack long junk wide replies steps =
    let bs = addresses g in
    let w = world_of g bs stack in
    let size = stack_size g.layout in
    let run : ℕ → AsmRun = λ n. program_run g.program replies n in
    let show = asm_seen g bs in
    let known : IsKnown g bs = record {
      loadable = loadable;
      layout = layout;
      linked = linking g.program linked;
      facts = matching g bs layout linked matches;
    } in
    let first = starting g bs known stack long junk wide in
    let room = first.laid.fits in
    let c = trace_cut show size run (omega arith) (omega arith) steps in
    let fits = c.fits in
    let f = faithful g loadable layout linked matches stack long junk wide replies c.taken (omega arith) in
    let r : FlatRun = image_run g bs junk stack replies f.steps in
    let same : asm_events show (run c.taken) ≡ flat_events r = events_are g bs stack (run c.taken).events r.events f.events in
    let few : f.steps ≤ IMAGE_STEPS_A_STEP * steps = let a = f.few in let b = c.few in omega arith in
    let reads : read_total (flat_events r) ≤ MOST_TRACE_BYTES = subst (λ es. read_total es ≤ MOST_TRACE_BYTES) same c.reads in
    let b = trace_begins longer g.layout.stop (outside g.program bs) (flat.first_state g bs junk stack) replies f.steps
    (IMAGE_STEPS_A_STEP * steps) few reads in
    same_traces (asm_trace g bs run steps) (flat_trace (image_run g bs junk stack replies) (IMAGE_STEPS_A_STEP * steps)) (run c.taken) r
    show
    c.events c.outcome same f.outcome b
