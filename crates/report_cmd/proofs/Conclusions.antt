-- The status of the verdict on the contents of files, by what these are.
use Rattle.std.proofs.Common.{◌≡◌, ◌<◌, ◌≤◌, ℕ, List, [], ◌∷◌, length, refl, arith, subst}
use Rattle.limits.specs.declared.TheConstants.{MOST_DUMP_BYTES}
use Rattle.ordered_tests.specs.Checks.{first_fault}
use Rattle.image_model.specs.Tests.{elf_tests}
use Rattle.dump_reader.specs.DumpFile as dumps
use Rattle.link_laws.specs.Laws.{MatchesOrFails}
use Rattle.judge_model.specs.declared.refusal.Refusal.TheVariants.{Layout, Image, Unit, Replies, Link, Entry}
use Rattle.judge_model.specs.Judge.{inputs_of, FilesMatch}
use Rattle.commands.specs.declared.command.Command.{Command}
use Rattle.commands.specs.declared.command.Command.TheVariants.{Check, Run, Show, Upgrade}
use Rattle.report_text.specs.Verdicts.{status_of}
use Rattle.report_text.specs.declared.verdict.Verdict.{Verdict}
use Rattle.report_text.specs.declared.verdict.Verdict.TheVariants.{Usage, Unread, TooLong, PastTotal, Refused, No, Yes, Done, Differs}
use Rattle.command_verdicts.specs.Conclusions.{Checks, Shows, Upgrades, Concludes, upgraded}
use Rattle.report_cmd.specs.Exactly.{Accepted, Differs as Disagrees, Fails}
use Rattle.report_cmd.proofs.Inputs.{no_first}
use Rattle.report_cmd.proofs.RunConclusions.{agrees_run, differs_run, run_agrees, run_differs, run_unbound, unbound_run}
use Rattle.report_cmd.proofs.Values.{none_or_some, ok_or_err, ok_same}

apart : (a most : ℕ) → a ≤ most → most < a → ⊥
apart a most p q = omega arith

-- ---- check

module _ (law : MatchesOrFails) (layout image : List ℕ) (units : List (List ℕ)) where
  check_matches : (v : Verdict) → FilesMatch layout image units → Checks layout image units v → status_of v ≡ 0
  check_matches Usage m h = absurd h
  check_matches (Unread place) m h = absurd h
  check_matches (TooLong place limit) m h = absurd h
  check_matches (PastTotal place) m h = absurd h
  check_matches (Refused place r) m h = absurd (ok_or_err m.inputs h.1.0 (inputs_of layout image units) m.read h.1.2)
  check_matches (No f) m h = absurd (no_first law layout image units m f h.0 h.1)
  check_matches (Yes a) m h = refl
  check_matches (Done text) m h = absurd h
  check_matches (Differs text) m h = absurd h

  check_fails : (v : Verdict) → Fails (Check 0) (layout ∷ image ∷ units) → Checks layout image units v → status_of v ≡ 1
  check_fails Usage m h = absurd h
  check_fails (Unread place) m h = absurd h
  check_fails (TooLong place limit) m h = absurd h
  check_fails (PastTotal place) m h = absurd h
  check_fails (Refused place r) m h = absurd (ok_or_err m.2.0 h.1.0 (inputs_of layout image units) m.2.1 h.1.2)
  check_fails (No f) m h = refl
  check_fails (Yes a) m h =
      absurd (no_first law layout image units (record { inputs = h.0.0; read = h.0.1; match = h.0.2 }) m.1 m.0 m.2)
  check_fails (Done text) m h = absurd h
  check_fails (Differs text) m h = absurd h

check_yes : (layout image : List ℕ) (units : List (List ℕ)) (v : Verdict) → Checks layout image units v → status_of v ≡ 0
    → FilesMatch layout image units
check_yes layout image units Usage h z = absurd h
check_yes layout image units (Unread place) h z = absurd h
check_yes layout image units (TooLong place limit) h z = absurd h
check_yes layout image units (PastTotal place) h z = absurd h
check_yes layout image units (Refused place r) h z = absurd (omega (arith, z))
check_yes layout image units (No f) h z = absurd (omega (arith, z))
check_yes layout image units (Yes a) h z = record { inputs = h.0.0; read = h.0.1; match = h.0.2 }
check_yes layout image units (Done text) h z = absurd h
check_yes layout image units (Differs text) h z = absurd h

check_no : (layout image : List ℕ) (units : List (List ℕ)) (v : Verdict) → Checks layout image units v → status_of v ≡ 1
    → Fails (Check 0) (layout ∷ image ∷ units)
check_no layout image units Usage h z = absurd h
check_no layout image units (Unread place) h z = absurd h
check_no layout image units (TooLong place limit) h z = absurd h
check_no layout image units (PastTotal place) h z = absurd h
check_no layout image units (Refused place r) h z = absurd (omega (arith, z))
check_no layout image units (No f) h z = (h.0, f, h.1)
check_no layout image units (Yes a) h z = absurd (omega (arith, z))
check_no layout image units (Done text) h z = absurd h
check_no layout image units (Differs text) h z = absurd h

-- ---- show

show_elf : (a n : ℕ) (image : List ℕ) (v : Verdict) → Accepted (Show a n) (image ∷ []) → Shows a n image v → status_of v ≡ 0
show_elf a n image Usage m h = absurd h
show_elf a n image (Unread place) m h = absurd h
show_elf a n image (TooLong place limit) m h = absurd h
show_elf a n image (PastTotal place) m h = absurd h
show_elf a n image (Refused place (Layout e)) m h = absurd h
show_elf a n image (Refused place (Image e)) m h = absurd (none_or_some e (first_fault (elf_tests image)) m.1.passes h.1)
show_elf a n image (Refused place (Unit u e)) m h = absurd h
show_elf a n image (Refused place (Replies e)) m h = absurd h
show_elf a n image (Refused place (Link u name e)) m h = absurd h
show_elf a n image (Refused place (Entry name)) m h = absurd h
show_elf a n image (No f) m h = absurd h
show_elf a n image (Yes account) m h = absurd h
show_elf a n image (Done text) m h = refl
show_elf a n image (Differs text) m h = absurd h

show_done : (a n : ℕ) (image : List ℕ) (v : Verdict) → Shows a n image v → status_of v ≤ 1 → Accepted (Show a n) (image ∷ [])
show_done a n image Usage h z = absurd h
show_done a n image (Unread place) h z = absurd h
show_done a n image (TooLong place limit) h z = absurd h
show_done a n image (PastTotal place) h z = absurd h
show_done a n image (Refused place r) h z = absurd (omega (arith, z))
show_done a n image (No f) h z = absurd h
show_done a n image (Yes account) h z = absurd h
show_done a n image (Done text) h z = (h.0, h.1)
show_done a n image (Differs text) h z = absurd h

-- ---- upgrade

upgrade_unit : (dump : List ℕ) (v : Verdict) → Accepted Upgrade (dump ∷ []) → Upgrades dump v → status_of v ≡ 0
upgrade_unit dump Usage m h = absurd h
upgrade_unit dump (Unread place) m h = absurd h
upgrade_unit dump (TooLong place limit) m h =
    let same : m.0 ≡ h.0 = ok_same m.0 h.0 (dumps.unit_file dump) m.1 h.1 in
    absurd (apart (length (upgraded h.0)) MOST_DUMP_BYTES (subst (λ u. length (upgraded u) ≤ MOST_DUMP_BYTES) same m.2) h.4)
upgrade_unit dump (PastTotal place) m h = absurd h
upgrade_unit dump (Refused place (Layout e)) m h = absurd h
upgrade_unit dump (Refused place (Image e)) m h = absurd h
upgrade_unit dump (Refused place (Unit u e)) m h = absurd (ok_or_err m.0 h.2 (dumps.unit_file dump) m.1 h.4)
upgrade_unit dump (Refused place (Replies e)) m h = absurd h
upgrade_unit dump (Refused place (Link u name e)) m h = absurd h
upgrade_unit dump (Refused place (Entry name)) m h = absurd h
upgrade_unit dump (No f) m h = absurd h
upgrade_unit dump (Yes account) m h = absurd h
upgrade_unit dump (Done text) m h = refl
upgrade_unit dump (Differs text) m h = absurd h

upgrade_done : (dump : List ℕ) (v : Verdict) → Upgrades dump v → status_of v ≤ 1 → Accepted Upgrade (dump ∷ [])
upgrade_done dump Usage h z = absurd h
upgrade_done dump (Unread place) h z = absurd h
upgrade_done dump (TooLong place limit) h z = absurd (omega (arith, z))
upgrade_done dump (PastTotal place) h z = absurd h
upgrade_done dump (Refused place r) h z = absurd (omega (arith, z))
upgrade_done dump (No f) h z = absurd h
upgrade_done dump (Yes account) h z = absurd h
upgrade_done dump (Done text) h z = (h.0, h.1, subst (λ t. length t ≤ MOST_DUMP_BYTES) h.2 h.3)
upgrade_done dump (Differs text) h z = absurd h

-- ---- all

pub accepted_status : MatchesOrFails → (command : Command) (contents : List (List ℕ)) (v : Verdict) → Accepted command contents
    → Concludes command contents v → status_of v ≡ 0
accepted_status law (Check n) [] v m h = absurd m
accepted_status law (Check n) (layout ∷ []) v m h = absurd m
accepted_status law (Check n) (layout ∷ image ∷ units) v m h = check_matches law layout image units v m h
accepted_status law (Run s n) [] v m h = absurd m
accepted_status law (Run s n) (layout ∷ []) v m h = absurd m
accepted_status law (Run s n) (layout ∷ image ∷ []) v m h = absurd m
accepted_status law (Run s n) (layout ∷ image ∷ replies ∷ units) v m h = run_agrees layout image replies s units v m h
accepted_status law (Show a n) [] v m h = absurd m
accepted_status law (Show a n) (image ∷ []) v m h = show_elf a n image v m h
accepted_status law (Show a n) (image ∷ x ∷ xs) v m h = absurd m
accepted_status law Upgrade [] v m h = absurd m
accepted_status law Upgrade (dump ∷ []) v m h = upgrade_unit dump v m h
accepted_status law Upgrade (dump ∷ x ∷ xs) v m h = absurd m

pub status_accepted : (command : Command) (contents : List (List ℕ)) (v : Verdict) → Concludes command contents v → status_of v ≡ 0
    → Accepted command contents
status_accepted (Check n) [] v h z = absurd h
status_accepted (Check n) (layout ∷ []) v h z = absurd h
status_accepted (Check n) (layout ∷ image ∷ units) v h z = check_yes layout image units v h z
status_accepted (Run s n) [] v h z = absurd h
status_accepted (Run s n) (layout ∷ []) v h z = absurd h
status_accepted (Run s n) (layout ∷ image ∷ []) v h z = absurd h
status_accepted (Run s n) (layout ∷ image ∷ replies ∷ units) v h z = agrees_run layout image replies s units v h z
status_accepted (Show a n) [] v h z = absurd h
status_accepted (Show a n) (image ∷ []) v h z = show_done a n image v h (omega (arith, z))
status_accepted (Show a n) (image ∷ x ∷ xs) v h z = absurd h
status_accepted Upgrade [] v h z = absurd h
status_accepted Upgrade (dump ∷ []) v h z = upgrade_done dump v h (omega (arith, z))
status_accepted Upgrade (dump ∷ x ∷ xs) v h z = absurd h

pub fails_status : MatchesOrFails → (command : Command) (contents : List (List ℕ)) (v : Verdict) → Fails command contents
    → Concludes command contents v → status_of v ≡ 1
fails_status law (Check n) [] v m h = absurd m
fails_status law (Check n) (layout ∷ []) v m h = absurd m
fails_status law (Check n) (layout ∷ image ∷ units) v m h = check_fails law layout image units v m h
fails_status law (Run s n) [] v m h = absurd m
fails_status law (Run s n) (layout ∷ []) v m h = absurd m
fails_status law (Run s n) (layout ∷ image ∷ []) v m h = absurd m
fails_status law (Run s n) (layout ∷ image ∷ replies ∷ units) v m h = run_unbound layout image replies s units v m h
fails_status law (Show a n) contents v m h = absurd m
fails_status law Upgrade contents v m h = absurd m

-- where an image or a unit is accepted, the status is 0
not_one : (n : ℕ) → n ≡ 1 → n ≡ 0 → ⊥
not_one n p q = omega arith

pub status_fails : (command : Command) (contents : List (List ℕ)) (v : Verdict) → Concludes command contents v → status_of v ≡ 1
    → Fails command contents
status_fails (Check n) [] v h z = absurd h
status_fails (Check n) (layout ∷ []) v h z = absurd h
status_fails (Check n) (layout ∷ image ∷ units) v h z = check_no layout image units v h z
status_fails (Run s n) [] v h z = absurd h
status_fails (Run s n) (layout ∷ []) v h z = absurd h
status_fails (Run s n) (layout ∷ image ∷ []) v h z = absurd h
status_fails (Run s n) (layout ∷ image ∷ replies ∷ units) v h z = unbound_run layout image replies s units v h z
status_fails (Show a n) [] v h z = absurd h
status_fails (Show a n) (image ∷ []) v h z =
    absurd (not_one (status_of v) z (show_elf a n image v (show_done a n image v h (omega (arith, z))) h))
status_fails (Show a n) (image ∷ x ∷ xs) v h z = absurd h
status_fails Upgrade [] v h z = absurd h
status_fails Upgrade (dump ∷ []) v h z =
    absurd (not_one (status_of v) z (upgrade_unit dump v (upgrade_done dump v h (omega (arith, z))) h))
status_fails Upgrade (dump ∷ x ∷ xs) v h z = absurd h

-- ---- runs that differ

pub differs_status : (command : Command) (contents : List (List ℕ)) (v : Verdict) → Disagrees command contents
    → Concludes command contents v → status_of v ≡ 7
differs_status (Check n) contents v m h = absurd m
differs_status (Run s n) [] v m h = absurd m
differs_status (Run s n) (layout ∷ []) v m h = absurd m
differs_status (Run s n) (layout ∷ image ∷ []) v m h = absurd m
differs_status (Run s n) (layout ∷ image ∷ replies ∷ units) v m h = run_differs layout image replies s units v m h
differs_status (Show a n) contents v m h = absurd m
differs_status Upgrade contents v m h = absurd m

seven_is : (v : Verdict) → status_of v ≡ 7 → (text : List ℕ) × (v ≡ Differs text)
seven_is Usage z = absurd (omega (arith, z))
seven_is (Unread place) z = absurd (omega (arith, z))
seven_is (TooLong place limit) z = absurd (omega (arith, z))
seven_is (PastTotal place) z = absurd (omega (arith, z))
seven_is (Refused place r) z = absurd (omega (arith, z))
seven_is (No f) z = absurd (omega (arith, z))
seven_is (Yes a) z = absurd (omega (arith, z))
seven_is (Done text) z = absurd (omega (arith, z))
seven_is (Differs text) z = (text, refl)

check_agrees : (n : ℕ) (contents : List (List ℕ)) (text : List ℕ) → Concludes (Check n) contents (Differs text) → ⊥
check_agrees n [] text h = h
check_agrees n (layout ∷ []) text h = h
check_agrees n (layout ∷ image ∷ units) text h = h

show_agrees : (a n : ℕ) (contents : List (List ℕ)) (text : List ℕ) → Concludes (Show a n) contents (Differs text) → ⊥
show_agrees a n [] text h = h
show_agrees a n (image ∷ []) text h = h
show_agrees a n (image ∷ x ∷ xs) text h = h

upgrade_agrees : (contents : List (List ℕ)) (text : List ℕ) → Concludes Upgrade contents (Differs text) → ⊥
upgrade_agrees [] text h = h
upgrade_agrees (dump ∷ []) text h = h
upgrade_agrees (dump ∷ x ∷ xs) text h = h

pub status_differs : (command : Command) (contents : List (List ℕ)) (v : Verdict) → Concludes command contents v → status_of v ≡ 7
    → Disagrees command contents
status_differs (Check n) contents v h z =
    let t = seven_is v z in absurd (check_agrees n contents t.0 (subst (λ x. Concludes (Check n) contents x) t.1 h))
status_differs (Run s n) [] v h z = absurd h
status_differs (Run s n) (layout ∷ []) v h z = absurd h
status_differs (Run s n) (layout ∷ image ∷ []) v h z = absurd h
status_differs (Run s n) (layout ∷ image ∷ replies ∷ units) v h z = differs_run layout image replies s units v h z
status_differs (Show a n) contents v h z =
    let t = seven_is v z in absurd (show_agrees a n contents t.0 (subst (λ x. Concludes (Show a n) contents x) t.1 h))
status_differs Upgrade contents v h z =
    let t = seven_is v z in absurd (upgrade_agrees contents t.0 (subst (λ x. Concludes Upgrade contents x) t.1 h))

-- ---- verdicts that no contents give

pub never_usage : (command : Command) (contents : List (List ℕ)) → Concludes command contents Usage → ⊥
never_usage (Check n) [] h = h
never_usage (Check n) (layout ∷ []) h = h
never_usage (Check n) (layout ∷ image ∷ units) h = h
never_usage (Run s n) [] h = h
never_usage (Run s n) (layout ∷ []) h = h
never_usage (Run s n) (layout ∷ image ∷ []) h = h
never_usage (Run s n) (layout ∷ image ∷ replies ∷ units) h = h
never_usage (Show a n) [] h = h
never_usage (Show a n) (image ∷ []) h = h
never_usage (Show a n) (image ∷ x ∷ xs) h = h
never_usage Upgrade [] h = h
never_usage Upgrade (dump ∷ []) h = h
never_usage Upgrade (dump ∷ x ∷ xs) h = h

pub never_unread : (command : Command) (contents : List (List ℕ)) (place : ℕ) → Concludes command contents (Unread place) → ⊥
never_unread (Check n) [] place h = h
never_unread (Check n) (layout ∷ []) place h = h
never_unread (Check n) (layout ∷ image ∷ units) place h = h
never_unread (Run s n) [] place h = h
never_unread (Run s n) (layout ∷ []) place h = h
never_unread (Run s n) (layout ∷ image ∷ []) place h = h
never_unread (Run s n) (layout ∷ image ∷ replies ∷ units) place h = h
never_unread (Show a n) [] place h = h
never_unread (Show a n) (image ∷ []) place h = h
never_unread (Show a n) (image ∷ x ∷ xs) place h = h
never_unread Upgrade [] place h = h
never_unread Upgrade (dump ∷ []) place h = h
never_unread Upgrade (dump ∷ x ∷ xs) place h = h
