-- What the status is, where the store tells what it holds and nothing fails.
use Rattle.std.proofs.Common.{◌≡◌, ◌≤◌, ◌⊎◌, ℕ, List, Option, Some, None, refl, arith, sym, ap, subst, inl, inr, ◌∙◌}
use Rattle.outside.specs.Faults.{Rose}
use Rattle.outside.specs.Store.{Files}
use Rattle.commands.specs.Commands.{command_of}
use Rattle.commands.specs.Files.{files}
use Rattle.commands.specs.declared.command.Command.{Command}
use Rattle.link_laws.specs.Laws.{MatchesOrFails}
use Rattle.link_laws.specs.Spans.{SpansCoverWhatIsLoaded}
use Rattle.report_text.specs.Verdicts.{status_of}
use Rattle.report_text.specs.declared.verdict.Verdict.{Verdict}
use Rattle.report_text.specs.declared.verdict.Verdict.TheVariants.{Usage, Unread, TooLong, PastTotal, Refused, No, Yes, Done, Differs}
use Rattle.command_verdicts.specs.Stores.{StoreChange}
use Rattle.command_verdicts.specs.Conclusions.{Concludes}
use Rattle.command_verdicts.specs.Decided as decided
use Rattle.report_cmd.specs.Ends.{Outside, IsTaken, Ends}
use Rattle.report_cmd.specs.Reports.{NamesFiles}
use Rattle.report_cmd.specs.Exactly.{Accepted, Differs as Disagrees, Fails, OfFiles, LacksFile, IsExact, AnswersExactly}
use Rattle.report_cmd.specs.Answers.{Answers}
use Rattle.report_cmd.proofs.Conclusions.{accepted_status, status_accepted, differs_status, status_differs, fails_status, status_fails}
use Rattle.report_cmd.proofs.Conclusions.{never_usage, never_unread}
use Rattle.report_cmd.proofs.Endings.{has_contents, tells}
use Rattle.report_cmd.proofs.Reading.{contents_same, lacks_none, never_stops, stops_unread}

at_most : (v : Verdict) → (status_of v ≤ 4) ⊎ (status_of v ≡ 7)
at_most Usage = inl (omega arith)
at_most (Unread place) = inl (omega arith)
at_most (TooLong place limit) = inl (omega arith)
at_most (PastTotal place) = inl (omega arith)
at_most (Refused place r) = inl (omega arith)
at_most (No f) = inl (omega arith)
at_most (Yes a) = inl (omega arith)
at_most (Done text) = inl (omega arith)
at_most (Differs text) = inr refl

usage_is_two : (v : Verdict) → v ≡ Usage → status_of v ≡ 2
usage_is_two v e = ap status_of e

-- ---- by the cause of a verdict

module _ (held : Files) (faults after : ℕ) (blamed : List ℕ) (words : List (List ℕ)) (quiet : ¬ Rose faults after) where
  abbrev store : StoreChange
  store = record { holds = Some held; faults = faults; faults_after = after; blamed = blamed }

  -- where all files of a command are held, their contents decide
  concluded_on : (command : Command) (contents : List (List ℕ)) (v : Verdict) → NamesFiles (Some held) words command contents
      → decided.DecidedOn store words command v → Concludes command contents v
  concluded_on command contents v named (inl stop) =
      absurd (never_stops held words (files command) contents named.read faults after blamed v quiet stop)
  concluded_on command contents v named (inr c) =
      subst (λ xs. Concludes command xs v)
      (contents_same held words (files command) c.contents contents c.read.each named.read.each) c.concluded

  decided_on : (command : Command) (v : Verdict) → decided.Decided store words v → command_of words ≡ Some command
      → decided.DecidedOn store words command v
  decided_on command v d e = subst (λ o. decided.DecidedBy store words o v) e d

  pub concludes : (command : Command) (contents : List (List ℕ)) (v : Verdict) → decided.Decided store words v
      → NamesFiles (Some held) words command contents → Concludes command contents v
  concludes command contents v d named = concluded_on command contents v named (decided_on command v d named.is_command)

  pub is_accepted : (v : Verdict) → decided.Decided store words v → status_of v ≡ 0 → OfFiles Accepted held words
  is_accepted v d z =
      let c = has_contents store words v d (λ two. absurd (omega (arith, z, two))) in
      (c.0, c.2.contents, record { is_command = c.1; read = c.2.read }, status_accepted c.0 c.2.contents v c.2.concluded z)

  pub is_fault : (v : Verdict) → decided.Decided store words v → status_of v ≡ 1 → OfFiles Fails held words
  is_fault v d z =
      let c = has_contents store words v d (λ two. absurd (omega (arith, z, two))) in
      (c.0, c.2.contents, record { is_command = c.1; read = c.2.read }, status_fails c.0 c.2.contents v c.2.concluded z)

  pub is_different : (v : Verdict) → decided.Decided store words v → status_of v ≡ 7 → OfFiles Disagrees held words
  is_different v d z =
      let c = has_contents store words v d (λ two. omega (arith, z)) in
      (c.0, c.2.contents, record { is_command = c.1; read = c.2.read }, status_differs c.0 c.2.contents v c.2.concluded z)

  -- ---- usage

  usage_on : (command : Command) (v : Verdict) → decided.DecidedOn store words command v → status_of v ≡ 2 → ⊥
  usage_on command Usage (inl stop) z = stop
  usage_on command Usage (inr c) z = never_usage command c.contents c.concluded
  usage_on command (Unread place) d z = absurd (omega (arith, z))
  usage_on command (TooLong place limit) d z = absurd (omega (arith, z))
  usage_on command (PastTotal place) d z = absurd (omega (arith, z))
  usage_on command (Refused place r) d z = absurd (omega (arith, z))
  usage_on command (No f) d z = absurd (omega (arith, z))
  usage_on command (Yes a) d z = absurd (omega (arith, z))
  usage_on command (Done text) d z = absurd (omega (arith, z))
  usage_on command (Differs text) d z = absurd (omega (arith, z))

  pub no_command : (v : Verdict) → decided.Decided store words v → status_of v ≡ 2 → command_of words ≡ None
  no_command v d z = by (command_of words) refl d where
    by : (o : Option Command) → command_of words ≡ o → decided.DecidedBy store words o v → command_of words ≡ None
    by None e u = e
    by (Some command) e on = absurd (usage_on command v on z)

  pub usage_status : (v : Verdict) → decided.Decided store words v → command_of words ≡ None → status_of v ≡ 2
  usage_status v d e = usage_is_two v (subst (λ o. decided.DecidedBy store words o v) e d)

  -- ---- a file that is not there

  lacks_on : (command : Command) (v : Verdict) → command_of words ≡ Some command → decided.DecidedOn store words command v → status_of v ≡ 4
      → LacksFile held words
  lacks_on command Usage e d z = absurd (omega (arith, z))
  lacks_on command (Unread place) e (inl stop) z = record {
    command = command;
    is_command = e;
    before = stop.2.before;
    contents = stop.2.contents;
    file = stop.0;
    here = stop.2.here;
    read = stop.2.read;
    lacks = elim stop.3 [ inl c ↦ absurd (quiet c.0) | inr c ↦ c ];
  }
  lacks_on command (Unread place) e (inr c) z = absurd (never_unread command c.contents place c.concluded)
  lacks_on command (TooLong place limit) e d z = absurd (omega (arith, z))
  lacks_on command (PastTotal place) e d z = absurd (omega (arith, z))
  lacks_on command (Refused place r) e d z = absurd (omega (arith, z))
  lacks_on command (No f) e d z = absurd (omega (arith, z))
  lacks_on command (Yes a) e d z = absurd (omega (arith, z))
  lacks_on command (Done text) e d z = absurd (omega (arith, z))
  lacks_on command (Differs text) e d z = absurd (omega (arith, z))

  pub lacks_file : (v : Verdict) → decided.Decided store words v → status_of v ≡ 4 → LacksFile held words
  lacks_file v d z = by (command_of words) refl d where
    by : (o : Option Command) → command_of words ≡ o → decided.DecidedBy store words o v → LacksFile held words
    by None e u = let two : status_of v ≡ 2 = usage_is_two v u in absurd (omega (arith, z, two))
    by (Some command) e on = lacks_on command v e on z

  pub unread_status : (v : Verdict) → decided.Decided store words v → LacksFile held words → status_of v ≡ 4
  unread_status v d m = by (decided_on m.command v d m.is_command) where
    by : decided.DecidedOn store words m.command v → status_of v ≡ 4
    by (inl stop) =
        let u = stops_unread held words (files m.command) m.before m.file m.contents m.here m.read m.lacks faults after blamed v stop in
        ap status_of u.1
    by (inr c) = absurd (lacks_none held words (files m.command) c.contents c.read m.file m.before m.here m.lacks)

-- ---- by the end of a command

module _ (law : MatchesOrFails) (held : Files) (o : Outside) (words : List (List ℕ)) (status : ℕ) (told : o.store.holds ≡ Some held)
    (quiet : ¬ Rose o.store.faults o.store.faults_after) (v : Verdict) (d : decided.Decided o.store words v)
    (taken : IsTaken o words status v) where
  abbrev told_store : Option Files → StoreChange
  told_store holds = record { holds = holds; faults = o.store.faults; faults_after = o.store.faults_after; blamed = o.store.blamed }

  by_held : decided.Decided (told_store (Some held)) words v
  by_held = subst (λ h. decided.Decided (told_store h) words v) told d

  concludes_here : (command : Command) (contents : List (List ℕ)) → NamesFiles (Some held) words command contents
      → Concludes command contents v
  concludes_here command contents named =
      concludes held o.store.faults o.store.faults_after o.store.blamed words quiet command contents v by_held named

  pub exact : IsExact held o words status
  exact = record {
    accepted = (
      (λ z. is_accepted held o.store.faults o.store.faults_after o.store.blamed words quiet v by_held (sym taken.0 ∙ z)),
      (λ m. taken.0 ∙ accepted_status law m.0 m.1 v m.3 (concludes_here m.0 m.1 m.2)),
    );
    fails = (
      (λ z. is_fault held o.store.faults o.store.faults_after o.store.blamed words quiet v by_held (sym taken.0 ∙ z)),
      (λ m. taken.0 ∙ fails_status law m.0 m.1 v m.3 (concludes_here m.0 m.1 m.2)),
    );
    usage = (
      (λ z. no_command held o.store.faults o.store.faults_after o.store.blamed words quiet v by_held (sym taken.0 ∙ z)),
      (λ m. taken.0 ∙ usage_status held o.store.faults o.store.faults_after o.store.blamed words quiet v by_held m),
    );
    unread = (
      (λ z. lacks_file held o.store.faults o.store.faults_after o.store.blamed words quiet v by_held (sym taken.0 ∙ z)),
      (λ m. taken.0 ∙ unread_status held o.store.faults o.store.faults_after o.store.blamed words quiet v by_held m),
    );
    differs = (
      (λ z. is_different held o.store.faults o.store.faults_after o.store.blamed words quiet v by_held (sym taken.0 ∙ z)),
      (λ m. taken.0 ∙ differs_status m.0 m.1 v m.3 (concludes_here m.0 m.1 m.2)),
    );
    verdict = subst (λ n. (n ≤ 4) ⊎ (n ≡ 7)) (sym taken.0) (at_most v);
    concluded = λ command contents named. (v, concludes_here command contents named, taken);
  }

pub answers_exactly : MatchesOrFails → (o : Outside) (words : List (List ℕ)) (status : ℕ) → Ends o words status
    → AnswersExactly o words status
answers_exactly law o words status (inl e) held told quiet calm = inl e.0
answers_exactly law o words status (inr (v, d, inl w)) held told quiet calm = inr (exact law held o words status told quiet v d w)
answers_exactly law o words status (inr (v, d, inr w)) held told quiet calm = absurd (calm w.1)

pub answers : MatchesOrFails → SpansCoverWhatIsLoaded → (o : Outside) (words : List (List ℕ)) (status : ℕ) → Ends o words status
    → Answers o words status
answers law spans o words status e = record {
  ends = e;
  tells = tells law spans o words status e;
  exactly = answers_exactly law o words status e;
}
