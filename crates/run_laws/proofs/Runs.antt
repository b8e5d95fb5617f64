-- Every run of the assembly is followed.
use Rattle.std.proofs.Common.{List, [], ◌∷◌, ◌≡◌, ℕ, zero, suc, ◌+◌, ◌*◌, ◌<◌, ◌≤◌, Option, Some, None, refl, sym, ap, ◌∙◌, subst, arith}
use Rattle.std.specs.Prelude.{slice_get, drop, max}
use Rattle.asm_syntax.specs.declared.unit.Reply.{Reply}
use Rattle.asm_step.specs.State.{State, Next, Went, Called, Ended, Starved, Undefined}
use Rattle.asm_step.specs.Steps.{asm_step}
use Rattle.asm_machine.specs.Stacks.{frame_cells}
use Rattle.ppc_machine.specs.State.{FlatState, FlatEvent}
use Rattle.machine_model.specs.AsmRuns.{AsmRun, AsmEvent, asm_run, asm_after}
use Rattle.machine_model.specs.FlatRuns.{FlatRun, flat_run, flat_after}
use Rattle.machine_model.specs.Worlds.{World, depth, variables_in}
use Rattle.machine_model.specs.Fits.{Fits}
use Rattle.machine_model.specs.Relation.{Both, Related}
use Rattle.machine_model.specs.Leads.{Leads, Reaches}
use Rattle.machine_model.specs.Faithful.{Shows, Follows, FitsStack, Simulates, seen}
use Rattle.run_laws.specs.Laws.{RunsFollow}
use Rattle.run_laws.proofs.StepLaw.{step_law}

module _ (w : World) (ok : Fits w) where
  abbrev image : ℕ → FlatState → List Reply → FlatRun
  image m t rs = flat_run w.layout.stop w.outside m t rs

  -- k steps, and then the run from there
  run_on : (k m : ℕ) (t t' : FlatState) (rs : List Reply) → Reaches w k t t' → image (k + m) t rs ≡ image m t' rs
  run_on zero m t t' rs e = let z : 0 + m ≡ m = omega arith in ap (λ n. image n t rs) z ∙ ap (λ t. image m t rs) e
  run_on (suc k) m t t' rs e =
      let z : suc k + m ≡ suc (k + m) = omega arith in
      ap (λ n. image n t rs) z ∙ ap (flat_after (λ t rs. image (k + m) t rs) rs) (e.1 (slice_get rs 0)) ∙ run_on k m e.0 t' rs e.2

  run_deeper : (n : ℕ) (s : State) (rs : List Reply) → frame_cells (variables_in w) s.live ≤ (asm_run w.program n s rs).deepest
  run_deeper zero s rs = omega arith
  run_deeper (suc n) s rs = at (asm_step w.program s (slice_get rs 0))
    where
      at : (x : Next) → frame_cells (variables_in w) s.live ≤ (asm_after w.program (asm_run w.program n) s rs x).deepest
      at (Went s') = omega arith
      at (Called c s') = omega arith
      at (Ended y) = omega arith
      at Starved = omega arith
      at (Undefined why) = omega arith

  pub simulates_all : Simulates w
  simulates_all s t r rs zero fits = record { steps = 0; few = omega arith; outcome = refl; events = tt }
  simulates_all s t r rs (suc n) fits =
      let a = at (asm_step w.program s (slice_get rs 0)) (step_law w ok s t (slice_get rs 0) r)
      (λ s' t' r' rs. simulates_all s' t' r' rs n) fits in
      record { steps = a.0; few = a.1; outcome = a.2; events = a.3 }
    where
      at : (x : Next) → Leads w s t (slice_get rs 0) x
          → ((s' : State) (t' : FlatState) → Related w s' t' → (rs : List Reply) → FitsStack w (asm_run w.program n s' rs)
          → Follows w n (asm_run w.program n s' rs) (λ m. image m t' rs))
          → FitsStack w (asm_after w.program (asm_run w.program n) s rs x)
          → (m : ℕ) × (m ≤ 5 * suc n) × ((image m t rs).outcome ≡ seen (asm_after w.program (asm_run w.program n) s rs x).outcome)
          × Both (Shows w) (asm_after w.program (asm_run w.program n) s rs x).events (image m t rs).events
      at (Went s') l go fits =
          let d = run_deeper n s' rs in
          let q = l (omega arith) in
          let f = go s' q.2.0 q.2.2 rs (omega arith) in
          let e = run_on q.0 f.steps t q.2.0 rs q.2.1 in
          let k = q.1 in
          let m = f.few in (
            q.0 + f.steps,
            omega arith,
            ap (λ z. z.outcome) e ∙ f.outcome,
            subst (λ z. Both (Shows w) (asm_run w.program n s' rs).events z) (ap (λ z. z.events) (sym e)) f.events,
          )
      at (Called c s') l go fits =
          let f = go s' l.1 l.4 (drop 1 rs) (omega arith) in
          let e = ap (flat_after (λ t rs. image f.steps t rs) rs) l.2 in
          let m = f.few in (
            suc f.steps,
            omega arith,
            ap (λ z. z.outcome) e ∙ f.outcome,
            subst (λ z. Both (Shows w) (record { call = c; before = s } ∷ (asm_run w.program n s' (drop 1 rs)).events) z)
                (ap (λ z. z.events) (sym e)) (l.3, f.events),
          )
      at (Ended y) l go fits =
          let e = ap (flat_after (λ t rs. image 0 t rs) rs) l in
          (1, omega arith, ap (λ z. z.outcome) e, subst (λ z. Both (Shows w) [] z) (ap (λ z. z.events) (sym e)) tt)
      at Starved l go fits =
          let e = ap (flat_after (λ t rs. image 0 t rs) rs) l in
          (1, omega arith, ap (λ z. z.outcome) e, subst (λ z. Both (Shows w) [] z) (ap (λ z. z.events) (sym e)) tt)
      at (Undefined why) l go fits = (0, omega arith, refl, tt)

pub simulates : RunsFollow
simulates w ok = simulates_all w ok
