-- The cause of each verdict on the words of a command.
use Rattle.std.specs.Prelude.{◌≡◌, ◌⊎◌, ℕ, List, Option, Some, None}
use Rattle.commands.specs.Commands.{command_of}
use Rattle.commands.specs.Files.{files}
use Rattle.commands.specs.Reads.{AreRead}
use Rattle.commands.specs.declared.command.Command.{Command}
use Rattle.report_text.specs.declared.verdict.Verdict.{Verdict}
use Rattle.report_text.specs.declared.verdict.Verdict.TheVariants.{Usage}
use Rattle.command_verdicts.specs.Stores.{StoreChange}
use Rattle.command_verdicts.specs.Stops.{Stopped}
use Rattle.command_verdicts.specs.Conclusions.{Concludes}

-- all files of the command were read, and this is the verdict on their contents
pub record IsConcluded (s : StoreChange) (words : List (List ℕ)) (command : Command) (v : Verdict) : Type 0 where
  pub contents : List (List ℕ)
  pub read : AreRead s.holds words (files command) contents
  pub concluded : Concludes command contents v

abbrev pub DecidedOn : StoreChange → List (List ℕ) → Command → Verdict → Type 0
DecidedOn s words command v = Stopped s words (files command) v ⊎ IsConcluded s words command v

abbrev pub DecidedBy : StoreChange → List (List ℕ) → Option Command → Verdict → Type 0
DecidedBy s words None v = v ≡ Usage
DecidedBy s words (Some command) v = DecidedOn s words command v

-- the words are no command; or a file decides; or the contents of all files do
abbrev pub Decided : StoreChange → List (List ℕ) → Verdict → Type 0
Decided s words v = DecidedBy s words (command_of words) v
