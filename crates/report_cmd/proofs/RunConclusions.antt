-- The status of the verdict on a run, by the contents of its files.
use Rattle.std.proofs.Common.{◌≡◌, ◌≤◌, ◌⊎◌, ℕ, Bool, true, false, List, Some, None, Option, Ok, refl, sym, ap, ◌∙◌, arith, subst}
use Rattle.ordered_tests.specs.Checks.{first_fault}
use Rattle.link_model.specs.Binding.{addresses}
use Rattle.link_model.specs.declared.fault.Fault.{Fault}
use Rattle.image_check.specs.Places.{bound_places}
use Rattle.report_text.specs.Verdicts.{status_of}
use Rattle.report_text.specs.declared.verdict.Verdict.{Verdict}
use Rattle.report_text.specs.declared.verdict.Verdict.TheVariants.{Usage, Unread, TooLong, PastTotal, Refused, No, Yes, Done, Differs}
use Rattle.run_verdicts.specs.Files.{RunInputs, run_inputs}
use Rattle.run_verdicts.specs.Runs.{IsBound, Runs, agrees_on}
use Rattle.report_cmd.specs.Exactly.{IsRun, IsUnbound}
use Rattle.report_cmd.proofs.Values.{none_or_some, ok_or_err, ok_same}

not_both : (b : Bool) → b ≡ true → b ≡ false → ⊥
not_both true h k = absurd (cc)
not_both false h k = absurd (cc)

module _ (layout image replies : List ℕ) (steps : ℕ) (units : List (List ℕ)) where
  -- what is due of one reading holds of the other
  same_run : (r s : RunInputs) → run_inputs layout image replies units ≡ Ok r → run_inputs layout image replies units ≡ Ok s → r ≡ s
  same_run r s p q = ok_same r s (run_inputs layout image replies units) p q

  agree_once : (r s : RunInputs) → r ≡ s → agrees_on r.inputs (addresses r.inputs) r.replies steps ≡ true
      → agrees_on s.inputs (addresses s.inputs) s.replies steps ≡ false → ⊥
  agree_once r s e p q =
      let same = ap (λ (x : RunInputs). agrees_on x.inputs (addresses x.inputs) x.replies steps) e in
      not_both (agrees_on r.inputs (addresses r.inputs) r.replies steps) p (same ∙ q)

  bound_once : (r s : RunInputs) → r ≡ s → IsBound r.inputs → (f : Fault) → first_fault (bound_places s.inputs) ≡ Some f → ⊥
  bound_once r s e p f q =
      none_or_some f (first_fault (bound_places s.inputs)) (sym (ap (λ (x : RunInputs). first_fault (bound_places x.inputs)) e) ∙ p) q

  pub run_agrees : (v : Verdict) → IsRun true steps layout image replies units → Runs layout image replies steps units v → status_of v ≡ 0
  run_agrees Usage m h = absurd h
  run_agrees (Unread place) m h = absurd h
  run_agrees (TooLong place limit) m h = absurd h
  run_agrees (PastTotal place) m h = absurd h
  run_agrees (Refused place e) m h = absurd (ok_or_err m.0 h.1 (run_inputs layout image replies units) m.1 h.3)
  run_agrees (No f) m h = absurd (bound_once m.0 h.0 (same_run m.0 h.0 m.1 h.1) m.2 f h.2.0)
  run_agrees (Yes a) m h = absurd h
  run_agrees (Done text) m h = refl
  run_agrees (Differs text) m h = absurd (agree_once m.0 h.0 (same_run m.0 h.0 m.1 h.1) m.3 h.2.run.0)

  pub run_differs : (v : Verdict) → IsRun false steps layout image replies units → Runs layout image replies steps units v → status_of v ≡ 7
  run_differs Usage m h = absurd h
  run_differs (Unread place) m h = absurd h
  run_differs (TooLong place limit) m h = absurd h
  run_differs (PastTotal place) m h = absurd h
  run_differs (Refused place e) m h = absurd (ok_or_err m.0 h.1 (run_inputs layout image replies units) m.1 h.3)
  run_differs (No f) m h = absurd (bound_once m.0 h.0 (same_run m.0 h.0 m.1 h.1) m.2 f h.2.0)
  run_differs (Yes a) m h = absurd h
  run_differs (Done text) m h = absurd (agree_once h.0 m.0 (same_run h.0 m.0 h.1 m.1) h.2.run.0 m.3)
  run_differs (Differs text) m h = refl

  pub run_unbound : (v : Verdict) → IsUnbound layout image replies units → Runs layout image replies steps units v → status_of v ≡ 1
  run_unbound Usage m h = absurd h
  run_unbound (Unread place) m h = absurd h
  run_unbound (TooLong place limit) m h = absurd h
  run_unbound (PastTotal place) m h = absurd h
  run_unbound (Refused place e) m h = absurd (ok_or_err m.0 h.1 (run_inputs layout image replies units) m.1 h.3)
  run_unbound (No f) m h = refl
  run_unbound (Yes a) m h = absurd h
  run_unbound (Done text) m h = absurd (bound_once h.0 m.0 (same_run h.0 m.0 h.1 m.1) h.2.bound m.2 m.3.0)
  run_unbound (Differs text) m h = absurd (bound_once h.0 m.0 (same_run h.0 m.0 h.1 m.1) h.2.bound m.2 m.3.0)

  -- ---- from the status

  pub agrees_run : (v : Verdict) → Runs layout image replies steps units v → status_of v ≡ 0 → IsRun true steps layout image replies units
  agrees_run Usage h z = absurd h
  agrees_run (Unread place) h z = absurd h
  agrees_run (TooLong place limit) h z = absurd h
  agrees_run (PastTotal place) h z = absurd h
  agrees_run (Refused place e) h z = absurd (omega (arith, z))
  agrees_run (No f) h z = absurd (omega (arith, z))
  agrees_run (Yes a) h z = absurd h
  agrees_run (Done text) h z = (h.0, h.1, h.2.bound, h.2.run.0, λ m. refl)
  agrees_run (Differs text) h z = absurd (omega (arith, z))

  pub differs_run : (v : Verdict) → Runs layout image replies steps units v → status_of v ≡ 7 → IsRun false steps layout image replies units
  differs_run Usage h z = absurd h
  differs_run (Unread place) h z = absurd h
  differs_run (TooLong place limit) h z = absurd h
  differs_run (PastTotal place) h z = absurd h
  differs_run (Refused place e) h z = absurd (omega (arith, z))
  differs_run (No f) h z = absurd (omega (arith, z))
  differs_run (Yes a) h z = absurd h
  differs_run (Done text) h z = absurd (omega (arith, z))
  differs_run (Differs text) h z = (h.0, h.1, h.2.bound, h.2.run.0, λ m. sym h.2.run.0 ∙ h.2.matching m)

  pub unbound_run : (v : Verdict) → Runs layout image replies steps units v → status_of v ≡ 1 → IsUnbound layout image replies units
  unbound_run Usage h z = absurd h
  unbound_run (Unread place) h z = absurd h
  unbound_run (TooLong place limit) h z = absurd h
  unbound_run (PastTotal place) h z = absurd h
  unbound_run (Refused place e) h z = absurd (omega (arith, z))
  unbound_run (No f) h z = (h.0, h.1, f, h.2)
  unbound_run (Yes a) h z = absurd h
  unbound_run (Done text) h z = absurd (omega (arith, z))
  unbound_run (Differs text) h z = absurd (omega (arith, z))
