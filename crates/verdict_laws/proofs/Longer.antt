-- A longer run begins with a shorter one, so what follows a run in fewer steps agrees with it in more.
use Rattle.std.proofs.Common.{◌≡◌, ℕ, zero, suc, ◌+◌, ◌-◌, ◌*◌, ◌≤◌, List, [], ◌∷◌, ◌++◌, Option, refl, sym, ap, ◌∙◌, subst, arith}
use Rattle.std.specs.Prelude.{slice_get, drop}
use Rattle.asm_syntax.specs.declared.unit.Reply.{Reply}
use Rattle.link_model.specs.Binding.{addresses}
use Rattle.link_model.specs.Candidates.{Inputs}
use Rattle.ppc_machine.specs.declared.externals.External.{External}
use Rattle.ppc_machine.specs.State as leads
use Rattle.ppc_machine.specs.State.{FlatState, FlatEvent, FlatNext}
use Rattle.ppc_machine.specs.Steps.{flat_step}
use Rattle.machine_model.specs.AsmRuns as asm
use Rattle.machine_model.specs.AsmRuns.{AsmOutcome, AsmRun, program_run}
use Rattle.machine_model.specs.FlatRuns.{FlatOutcome, FlatRun, Going, Ended, Starved, flat_run, flat_after, outside, first_state, image_run}
use Rattle.machine_model.specs.Worlds.{World, world_of}
use Rattle.machine_model.specs.Relation.{Both}
use Rattle.machine_model.specs.Faithful.{Shows, Follows, Faithful, seen}
use Rattle.verdict_laws.specs.Laws.{IsOver, Extends, LongerRunsExtend, HasEnded, Agree, RunsAgree}

module _ (stop : ℕ) (out : ℕ → Option External) where
  abbrev run : ℕ → FlatState → List Reply → FlatRun
  run m t rs = flat_run stop out m t rs

  extend : (m k : ℕ) (t : FlatState) (rs : List Reply) → Extends (run m t rs) (run (m + k) t rs)
  extend zero k t rs = record { more = (run (0 + k) t rs).events; events = refl; over = λ o. absurd o }
  extend (suc m) k t rs =
      let z : suc m + k ≡ suc (m + k) = omega arith in
      subst (λ n. Extends (run (suc m) t rs) (run n t rs)) (sym z)
      (at (flat_step stop t (out t.pc) (slice_get rs 0)) (λ u us. extend m k u us))
    where
      at : (x : FlatNext) → ((u : FlatState) (us : List Reply) → Extends (run m u us) (run (m + k) u us))
          → Extends (flat_after (run m) rs x) (flat_after (run (m + k)) rs x)
      at (leads.Went u) go = go u rs
      at (leads.Called e u) go =
          let r = go u (drop 1 rs) in
          record {
            more = r.more;
            events = ap (λ es. e ∷ es) r.events;
            over = λ o. ap (λ (z : FlatRun). record z { events = e ∷ z.events }) (r.over o);
          }
      at (leads.Ended n) go = record { more = []; events = refl; over = λ o. refl }
      at leads.Starved go = record { more = []; events = refl; over = λ o. refl }
      at (leads.Faulted kind) go = record { more = []; events = refl; over = λ o. refl }

pub longer_runs_extend : LongerRunsExtend
longer_runs_extend stop out m k t rs = extend stop out m k t rs

over_of : (a : AsmOutcome) (o : FlatOutcome) → HasEnded a → o ≡ seen a → IsOver o
over_of (asm.Ended n) o h e = subst IsOver (sym e) tt
over_of asm.Starved o h e = subst IsOver (sym e) tt
over_of asm.Going o h e = absurd h
over_of (asm.Undefined why) o h e = absurd h

agrees : (w : World) (n m : ℕ) (a : AsmRun) (short long : FlatRun) → short.outcome ≡ seen a.outcome → Both (Shows w) a.events short.events
    → Extends short long
    → Agree w a long
agrees w n m a short long outcome events x = record {
  ended = λ h. (
      let same = x.over (over_of a.outcome short.outcome h outcome) in
      (ap (λ (z : FlatRun). z.outcome) same ∙ outcome, subst (λ (z : FlatRun). Both (Shows w) a.events z.events) (sym same) events)
      );
  front = short.events;
  more = x.more;
  events = x.events;
  shown = events;
}

pub faithful_agree : (g : Inputs) → Faithful g → RunsAgree g
faithful_agree g faith stack long junk wide replies n fit =
    let f = faith stack long junk wide replies n fit in
    let few = f.few in
    let z : f.steps + (5 * n - f.steps) ≡ 5 * n = omega arith in
    let x = extend g.layout.stop (outside g.program (addresses g)) f.steps (5 * n - f.steps)
    (first_state g (addresses g) junk stack) replies in
    agrees (world_of g (addresses g) stack) n f.steps (program_run g.program replies n)
    (image_run g (addresses g) junk stack replies f.steps) (image_run g (addresses g) junk stack replies (5 * n)) f.outcome f.events
    (subst (λ k. Extends (image_run g (addresses g) junk stack replies f.steps) (image_run g (addresses g) junk stack replies k)) z x)
