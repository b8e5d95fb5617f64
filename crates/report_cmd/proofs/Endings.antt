-- From a verdict with its cause to what its status tells.
use Rattle.std.proofs.Common.{◌≡◌, ◌≤◌, ◌<◌, ◌^◌, ℕ, List, [], ◌∷◌, length, Option, Some, None, refl, arith, sym, ap, subst, inl, inr, ◌∙◌}
use Rattle.outside.specs.Store.{Files}
use Rattle.commands.specs.Commands.{command_of}
use Rattle.commands.specs.Files.{files}
use Rattle.commands.specs.declared.command.Command.{Command}
use Rattle.commands.specs.declared.command.Command.TheVariants.{Check}
use Rattle.commands.specs.declared.file.CommandFile.{CommandFile}
use Rattle.link_model.specs.Account.{account, program_account}
use Rattle.link_model.specs.Binding.{addresses}
use Rattle.link_model.specs.Candidates.{Inputs}
use Rattle.link_model.specs.Claims.{claims}
use Rattle.link_model.specs.Numbers.{externals}
use Rattle.link_laws.specs.Laws.{MatchesOrFails}
use Rattle.link_laws.specs.Spans.{SpansCover, SpansCoverWhatIsLoaded}
use Rattle.coverage.specs.Accounts.{account_seen}
use Rattle.machine_model.specs.Faithful.{Faithful}
use Rattle.judge_model.specs.Judge.{inputs_of}
use Rattle.report_text.specs.Verdicts.{status_of, text_of}
use Rattle.report_text.specs.declared.verdict.Verdict.{Verdict}
use Rattle.report_text.specs.declared.verdict.Verdict.TheVariants.{Usage, Unread, TooLong, PastTotal, Refused, No, Yes, Done, Differs}
use Rattle.command_verdicts.specs.Stores.{StoreChange}
use Rattle.command_verdicts.specs.Stops.{Stopped}
use Rattle.command_verdicts.specs.Conclusions.{Checks, Concludes}
use Rattle.command_verdicts.specs.Decided.{Decided, DecidedBy, IsConcluded}
use Rattle.report_cmd.specs.Ends.{Outside, Ends}
use Rattle.report_cmd.specs.Reports.{NamesFiles, IsReport, IsNo, Takes, IsCheck, Tells}
use Rattle.report_cmd.proofs.Inputs.{inputs_loadable}
use Rattle.report_cmd.proofs.Values.{ok_same, some_same}

-- ---- statuses 0, 1 and 7 are of the contents of files

abbrev pub IsOfContents : ℕ → Type 0
IsOfContents n = 2 ≤ n → 4 < n

never_stopped : (s : StoreChange) (words : List (List ℕ)) (fs : List CommandFile) (v : Verdict) → Stopped s words fs v
    → IsOfContents (status_of v) → ⊥
never_stopped s words fs Usage h z = h
never_stopped s words fs (Unread place) h z = let above = z (omega arith) in absurd (omega arith)
never_stopped s words fs (TooLong place limit) h z = let above = z (omega arith) in absurd (omega arith)
never_stopped s words fs (PastTotal place) h z = let above = z (omega arith) in absurd (omega arith)
never_stopped s words fs (Refused place r) h z = h
never_stopped s words fs (No f) h z = h
never_stopped s words fs (Yes a) h z = h
never_stopped s words fs (Done text) h z = h
never_stopped s words fs (Differs text) h z = h

-- the command whose files' contents decide
abbrev pub HasContents : StoreChange → List (List ℕ) → Verdict → Type 0
HasContents s words v = (command : Command) × (command_of words ≡ Some command) × IsConcluded s words command v

pub has_contents : (s : StoreChange) (words : List (List ℕ)) (v : Verdict) → Decided s words v → IsOfContents (status_of v)
    → HasContents s words v
has_contents s words v d z = by (command_of words) refl d where
  by : (o : Option Command) → command_of words ≡ o → DecidedBy s words o v → HasContents s words v
  by None e u = let two : status_of v ≡ 2 = ap status_of u in let above = z (omega arith) in absurd (omega arith)
  by (Some command) e (inl stop) = absurd (never_stopped s words (files command) v stop z)
  by (Some command) e (inr c) = (command, e, c)

-- ---- a yes

spans_of : SpansCoverWhatIsLoaded → (g : Inputs) → SpansCover g.image (program_account g (addresses g)).spans (2 ^ 32)
unfolding account
spans_of law g = law g.image g.layout (claims g (addresses g)) (length (externals g.program.units)) (2 ^ 32)

module _ (spans : SpansCoverWhatIsLoaded) (holds : Option Files) (words : List (List ℕ)) (n : ℕ) (layout image : List ℕ)
    (units : List (List ℕ)) (named : NamesFiles holds words (Check n) (layout ∷ image ∷ units)) where
  report : (v : Verdict) → Checks layout image units v → status_of v ≡ 0 → IsReport holds words (text_of words v)
  report Usage h z = absurd h
  report (Unread place) h z = absurd h
  report (TooLong place limit) h z = absurd h
  report (PastTotal place) h z = absurd h
  report (Refused place r) h z = absurd (omega (arith, z))
  report (No f) h z = absurd (omega (arith, z))
  report (Yes a) h z = record {
    count = n;
    layout = layout;
    image = image;
    units = units;
    files = named;
    inputs = h.0.0;
    read = h.0.1;
    match = h.0.2;
    faithful = subst Faithful (ok_same h.1.0 h.0.0 (inputs_of layout image units) h.1.1 h.0.1) h.1.2;
    account = account_seen a;
    is_account = h.0.3;
    spans = subst (λ x. SpansCover h.0.0.image x.spans (2 ^ 32)) (sym h.0.3) (spans_of spans h.0.0);
    printed = refl;
  }
  report (Done text) h z = absurd h
  report (Differs text) h z = absurd h

-- ---- a no

module _ (law : MatchesOrFails) (holds : Option Files) (words : List (List ℕ)) (n : ℕ) (layout image : List ℕ) (units : List (List ℕ))
    (named : NamesFiles holds words (Check n) (layout ∷ image ∷ units)) where
  first_place : (v : Verdict) → Checks layout image units v → status_of v ≡ 1 → IsNo holds words (text_of words v)
  first_place Usage h z = absurd h
  first_place (Unread place) h z = absurd h
  first_place (TooLong place limit) h z = absurd h
  first_place (PastTotal place) h z = absurd h
  first_place (Refused place r) h z = absurd (omega (arith, z))
  first_place (No f) h z = record {
    count = n;
    layout = layout;
    image = image;
    units = units;
    files = named;
    inputs = h.1.0;
    read = h.1.1;
    fault = f;
    first = h.1.2;
    fails = (law h.1.0 (inputs_loadable layout image units h.1.0 h.0 h.1.1)).one f h.1.2;
    printed = refl;
  }
  first_place (Yes a) h z = absurd (omega (arith, z))
  first_place (Done text) h z = absurd h
  first_place (Differs text) h z = absurd h

-- ---- both

module _ (law : MatchesOrFails) (spans : SpansCoverWhatIsLoaded) (holds : Option Files) (words : List (List ℕ)) where
  report_of : (n : ℕ) (contents : List (List ℕ)) (v : Verdict) → NamesFiles holds words (Check n) contents → Concludes (Check n) contents v
      → status_of v ≡ 0 → IsReport holds words (text_of words v)
  report_of n [] v named h z = absurd h
  report_of n (layout ∷ []) v named h z = absurd h
  report_of n (layout ∷ image ∷ units) v named h z = report spans holds words n layout image units named v h z

  no_of : (n : ℕ) (contents : List (List ℕ)) (v : Verdict) → NamesFiles holds words (Check n) contents → Concludes (Check n) contents v
      → status_of v ≡ 1 → IsNo holds words (text_of words v)
  no_of n [] v named h z = absurd h
  no_of n (layout ∷ []) v named h z = absurd h
  no_of n (layout ∷ image ∷ units) v named h z = first_place law holds words n layout image units named v h z

module _ (law : MatchesOrFails) (spans : SpansCoverWhatIsLoaded) (o : Outside) (words : List (List ℕ)) (status : ℕ) where
  -- what is concluded of the files of a check
  of_check : (v : Verdict) → Decided o.store words v → IsOfContents (status_of v) → (check : IsCheck words)
      → IsConcluded o.store words (Check check.0) v
  of_check v d z check =
      let c = has_contents o.store words v d z in
      let same : c.0 ≡ Check check.0 = some_same c.0 (Check check.0) (command_of words) c.1 check.1 in
      subst (λ x. IsConcluded o.store words x v) same c.2

  tells_yes : (v : Verdict) → Decided o.store words v → status_of v ≡ 0 → IsCheck words → IsReport o.store.holds words (text_of words v)
  tells_yes v d z check =
      let concluded = of_check v d (λ two. absurd (omega (arith, z, two))) check in
      report_of law spans o.store.holds words check.0 concluded.contents v
      (record { is_command = check.1; read = concluded.read }) concluded.concluded z

  tells_no : (v : Verdict) → Decided o.store words v → status_of v ≡ 1 → IsCheck words → IsNo o.store.holds words (text_of words v)
  tells_no v d z check =
      let concluded = of_check v d (λ two. absurd (omega (arith, z, two))) check in
      no_of law spans o.store.holds words check.0 concluded.contents v
      (record { is_command = check.1; read = concluded.read }) concluded.concluded z

  yes : Ends o words status → IsCheck words → status ≡ 0 → Takes o (IsReport o.store.holds words)
  yes (inl e) check z = let six : status ≡ 6 = e.0 in absurd (omega (arith, z, six))
  yes (inr (v, d, inl w)) check z = (text_of words v, tells_yes v d (sym w.0 ∙ z) check, w.1)
  yes (inr (v, d, inr w)) check z = let five : status ≡ 5 = w.0 in absurd (omega (arith, z, five))

  no : Ends o words status → IsCheck words → status ≡ 1 → Takes o (IsNo o.store.holds words)
  no (inl e) check z = let six : status ≡ 6 = e.0 in absurd (omega (arith, z, six))
  no (inr (v, d, inl w)) check z = (text_of words v, tells_no v d (sym w.0 ∙ z) check, w.1)
  no (inr (v, d, inr w)) check z = let five : status ≡ 5 = w.0 in absurd (omega (arith, z, five))

  pub tells : Ends o words status → Tells o words status
  tells e = record { yes = yes e; no = no e }
