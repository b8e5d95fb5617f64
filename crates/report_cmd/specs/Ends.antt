-- How a command ends: its status, and what was taken.
use Rattle.std.specs.Prelude.{◌≡◌, ◌⊎◌, ℕ, List, Option}
use Rattle.outside.specs.Faults.{Rose}
use Rattle.outside.specs.Sink.{Appends, AppendsShorter}
use Rattle.report_text.specs.Verdicts.{status_of, text_of}
use Rattle.report_text.specs.declared.verdict.Verdict.{Verdict}
use Rattle.command_verdicts.specs.Stores.{StoreChange}
use Rattle.command_verdicts.specs.Decided.{Decided}
use Rattle.report_cmd.specs.declared.answer.Answer.{Answer}

-- a verdict with its cause has this status and this text
pub record IsAnswer (s : StoreChange) (words : List (List ℕ)) (a : Answer) : Type 0 where
  pub verdict : Verdict
  pub decided : Decided s words verdict
  pub status : a.status ≡ status_of verdict
  pub text : a.text.items ≡ text_of words verdict

-- a store and a sink, before and after a command
pub record Outside : Type 0 where
  pub store : StoreChange
  pub taken : Option (List ℕ)
  pub taken_after : Option (List ℕ)
  pub sink_faults : ℕ
  pub sink_faults_after : ℕ

-- the status is the verdict's, and all its text was taken and nothing else
abbrev pub IsTaken : Outside → List (List ℕ) → ℕ → Verdict → Type 0
IsTaken o words status v = (status ≡ status_of v) × Appends o.taken o.taken_after (text_of words v)

-- or the sink failed before that
abbrev pub IsWritten : Outside → List (List ℕ) → ℕ → Verdict → Type 0
IsWritten o words status v =
    IsTaken o words status v
    ⊎ ((status ≡ 5) × Rose o.sink_faults o.sink_faults_after × AppendsShorter o.taken o.taken_after (text_of words v))

-- want of memory, with nothing taken; or a verdict with its cause, and its text
abbrev pub Ends : Outside → List (List ℕ) → ℕ → Type 0
Ends o words status =
    ((status ≡ 6) × (o.taken_after ≡ o.taken)) ⊎ ((v : Verdict) × Decided o.store words v × IsWritten o words status v)
