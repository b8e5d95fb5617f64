-- What each status says of the files that a store tells, where no read and no write fails.
use Rattle.std.specs.Prelude.{◌≡◌, ◌≤◌, ◌⊎◌, ◌↔◌, ℕ, Bool, true, false, List, [], ◌∷◌, length, take, Some, None, Ok, slice_get}
use Rattle.limits.specs.declared.TheConstants.{MOST_DUMP_BYTES}
use Rattle.outside.specs.Faults.{Rose}
use Rattle.outside.specs.Store.{Files}
use Rattle.image_model.specs.Bytes.{AreBytes}
use Rattle.image_model.specs.Image.{Image}
use Rattle.image_model.specs.Tests.{IsElf}
use Rattle.asm_syntax.specs.declared.unit.Unit as syntax
use Rattle.dump_reader.specs.DumpFile.{unit_file}
use Rattle.link_model.specs.Binding.{addresses}
use Rattle.link_model.specs.declared.fault.Fault.{Fault}
use Rattle.link_model.specs.Parts.{Matches}
use Rattle.run_verdicts.specs.Files.{RunInputs, run_inputs}
use Rattle.run_verdicts.specs.Runs.{IsBound, IsUnboundAt, agrees_on}
use Rattle.judge_model.specs.Judge.{FilesMatch, IsFirstFault}
use Rattle.commands.specs.Words.{word_at}
use Rattle.commands.specs.Commands.{command_of}
use Rattle.commands.specs.Files.{files}
use Rattle.commands.specs.Reads.{AreRead}
use Rattle.commands.specs.declared.command.Command.{Command}
use Rattle.commands.specs.declared.command.Command.TheVariants.{Check, Run, Show, Upgrade}
use Rattle.commands.specs.declared.file.CommandFile.{CommandFile}
use Rattle.report_text.specs.declared.verdict.Verdict.{Verdict}
use Rattle.command_verdicts.specs.Conclusions.{Concludes, upgraded}
use Rattle.report_cmd.specs.Ends.{Outside, IsTaken}
use Rattle.report_cmd.specs.Reports.{NamesFiles}

-- what a run reads links, its keys have addresses and its externals are where they may be; and both machines agree, or they do not.
-- Where the image matches, they agree
abbrev pub IsRun : Bool → ℕ → List ℕ → List ℕ → List ℕ → List (List ℕ) → Type 0
IsRun same steps layout image replies units =
    (r : RunInputs) × (run_inputs layout image replies units ≡ Ok r) × IsBound r.inputs
    × (agrees_on r.inputs (addresses r.inputs) r.replies steps ≡ same) × (Matches r.inputs → same ≡ true)

-- what a run reads links, and some key has no address or an external is where none may be; such an image does not match
abbrev pub IsUnbound : List ℕ → List ℕ → List ℕ → List (List ℕ) → Type 0
IsUnbound layout image replies units =
    (r : RunInputs) × (run_inputs layout image replies units ≡ Ok r) × (f : Fault) × IsUnboundAt r.inputs f

-- the image matches the layout and the units; both machines agree; the image is one; the dump is one of a unit, and within its limit
-- when it is written anew
abbrev pub Accepted : Command → List (List ℕ) → Type 0
Accepted (Check count) (layout ∷ image ∷ units) = FilesMatch layout image units
Accepted (Run steps count) (layout ∷ image ∷ replies ∷ units) = IsRun true steps layout image replies units
Accepted (Show address count) (image ∷ []) = (v : Image) × IsElf image v
Accepted Upgrade (dump ∷ []) = (u : syntax.Unit) × (unit_file dump ≡ Ok u) × (length (upgraded u) ≤ MOST_DUMP_BYTES)
Accepted _ _ = ⊥

-- the layout, the image and the units are read and link, and some place fails; for a run, one of those that it tests
abbrev pub Fails : Command → List (List ℕ) → Type 0
Fails (Check count) (layout ∷ image ∷ units) = AreBytes image × (f : Fault) × IsFirstFault layout image units f
Fails (Run steps count) (layout ∷ image ∷ replies ∷ units) = IsUnbound layout image replies units
Fails _ _ = ⊥

-- the image does something else than its assembly
abbrev pub Differs : Command → List (List ℕ) → Type 0
Differs (Run steps count) (layout ∷ image ∷ replies ∷ units) = IsRun false steps layout image replies units
Differs _ _ = ⊥

-- the words are of a command, all its files are held within the limits, and the fact holds of it and their contents
abbrev pub OfFiles : (Command → List (List ℕ) → Type 0) → Files → List (List ℕ) → Type 0
OfFiles P held words = (command : Command) × (contents : List (List ℕ)) × NamesFiles (Some held) words command contents × P command contents

-- a file is not there, and each that is read before it is held within the limits
pub record LacksFile (held : Files) (words : List (List ℕ)) : Type 0 where
  pub command : Command
  pub is_command : command_of words ≡ Some command
  pub before : ℕ
  pub contents : List (List ℕ)
  pub file : CommandFile
  pub here : slice_get (files command) before ≡ Some file
  pub read : AreRead (Some held) words (take before (files command)) contents
  pub lacks : held (word_at words file.place) ≡ None

-- the verdict on the contents of the command's files was written whole
abbrev pub WritesVerdictOn : Outside → List (List ℕ) → ℕ → Command → List (List ℕ) → Type 0
WritesVerdictOn o words status command contents = (v : Verdict) × Concludes command contents v × IsTaken o words status v

-- the six statuses of verdicts; of them 3 comes where none of the others does
pub record IsExact (held : Files) (o : Outside) (words : List (List ℕ)) (status : ℕ) : Type 0 where
  pub accepted : (status ≡ 0) ↔ OfFiles Accepted held words
  pub fails : (status ≡ 1) ↔ OfFiles Fails held words
  pub usage : (status ≡ 2) ↔ (command_of words ≡ None)
  pub unread : (status ≡ 4) ↔ LacksFile held words
  pub differs : (status ≡ 7) ↔ OfFiles Differs held words
  pub verdict : (status ≤ 4) ⊎ (status ≡ 7)
  pub concluded : (command : Command) (contents : List (List ℕ)) → NamesFiles (Some held) words command contents
      → WritesVerdictOn o words status command contents

-- unless memory ran out
abbrev pub AnswersExactly : Outside → List (List ℕ) → ℕ → Type 0
AnswersExactly o words status =
    (held : Files) → o.store.holds ≡ Some held → ¬ Rose o.store.faults o.store.faults_after → ¬ Rose o.sink_faults o.sink_faults_after
    → (status ≡ 6) ⊎ IsExact held o words status
