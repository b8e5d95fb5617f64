-- What a verdict prints, and its status.
use Rattle.std.specs.Prelude.{ℕ, List, [], ◌∷◌, ◌++◌, codes}
use Rattle.limits.specs.declared.TheConstants.{MOST_DUMPS_BYTES}
use Rattle.text_model.specs.Lines.{line}
use Rattle.commands.specs.Words.{word_at}
use Rattle.coverage.specs.Accounts.{account_seen}
use Rattle.report_text.specs.Reasons.{refused_line, store_reason, reason_of}
use Rattle.report_text.specs.Reports.{report_text, fault_text}
use Rattle.report_text.specs.declared.verdict.Verdict.{Verdict}
use Rattle.report_text.specs.declared.verdict.Verdict.TheVariants.{Usage, Unread, TooLong, PastTotal, Refused, No, Yes, Done, Differs}

-- the commands, those that are not there yet too
abbrev pub usage : List ℕ
usage =
    codes "usage: valex check LAYOUT IMAGE UNIT...\n"
    ++ codes "       valex run LAYOUT IMAGE REPLIES STEPS UNIT...\n"
    ++ codes "       valex show IMAGE ADDRESS COUNT\n"
    ++ codes "       valex make SEED COUNT\n"
    ++ codes "       valex upgrade UNIT\n"

-- by the words of the command, among which a file is named
abbrev pub text_of : List (List ℕ) → Verdict → List ℕ
text_of words Usage = usage
text_of words (Unread place) = line (codes "read" ∷ codes "fault" ∷ word_at words place ∷ [])
text_of words (TooLong place limit) = refused_line (word_at words place) (store_reason 1 (codes "too-long") limit)
text_of words (PastTotal place) = refused_line (word_at words place) (store_reason 2 (codes "total") MOST_DUMPS_BYTES)
text_of words (Refused place r) = refused_line (word_at words place) (reason_of r)
text_of words (No f) = fault_text f
text_of words (Yes a) = report_text (account_seen a)
text_of words (Done text) = text
text_of words (Differs text) = text

abbrev pub status_of : Verdict → ℕ
status_of Usage = 2
status_of (Unread place) = 4
status_of (TooLong place limit) = 3
status_of (PastTotal place) = 3
status_of (Refused place r) = 3
status_of (No f) = 1
status_of (Yes a) = 0
status_of (Done text) = 0
status_of (Differs text) = 7
