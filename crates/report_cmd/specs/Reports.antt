-- What a yes and a no of `check` say of the files that its words name.
use Rattle.std.specs.Prelude.{◌≡◌, ℕ, ◌^◌, List, ◌∷◌, Option, Some, Ok}
use Rattle.outside.specs.Store.{Files}
use Rattle.outside.specs.Sink.{Appends}
use Rattle.commands.specs.Commands.{command_of}
use Rattle.commands.specs.Files.{files}
use Rattle.commands.specs.Reads.{AreRead}
use Rattle.commands.specs.declared.command.Command.{Command}
use Rattle.commands.specs.declared.command.Command.TheVariants.{Check}
use Rattle.link_model.specs.declared.fault.Fault.{Fault}
use Rattle.link_model.specs.Account.{Account, program_account}
use Rattle.link_model.specs.Binding.{addresses}
use Rattle.link_model.specs.Candidates.{Inputs}
use Rattle.link_model.specs.Parts.{Matches}
use Rattle.link_model.specs.Passes.{FailsAt, First}
use Rattle.link_laws.specs.Spans.{SpansCover}
use Rattle.machine_model.specs.Faithful.{Faithful}
use Rattle.judge_model.specs.Judge.{inputs_of}
use Rattle.report_text.specs.Reports.{report_text, fault_text}
use Rattle.report_cmd.specs.Ends.{Outside}

-- the words are of the command, and its files have these contents, each within its limit and all dumps within theirs
pub record NamesFiles (holds : Option Files) (words : List (List ℕ)) (command : Command) (contents : List (List ℕ)) : Type 0 where
  pub is_command : command_of words ≡ Some command
  pub read : AreRead holds words (files command) contents

-- the image matches, and so it does what the linked assembly does, for every step count, reply list and starting junk, while that is
-- defined and its frames fit the stack: the same external calls with the same arguments in order, and the same end. The text has the
-- account of all that is loaded, with each loaded address in exactly one span
pub record IsReport (holds : Option Files) (words : List (List ℕ)) (text : List ℕ) : Type 0 where
  pub count : ℕ
  pub layout : List ℕ
  pub image : List ℕ
  pub units : List (List ℕ)
  pub files : NamesFiles holds words (Check count) (layout ∷ image ∷ units)
  pub inputs : Inputs
  pub read : inputs_of layout image units ≡ Ok inputs
  pub match : Matches inputs
  pub faithful : Faithful inputs
  pub account : Account
  pub is_account : account ≡ program_account inputs (addresses inputs)
  pub spans : SpansCover inputs.image account.spans (2 ^ 32)
  pub printed : text ≡ report_text account

-- some place fails; the text has the first of all, with its rule
pub record IsNo (holds : Option Files) (words : List (List ℕ)) (text : List ℕ) : Type 0 where
  pub count : ℕ
  pub layout : List ℕ
  pub image : List ℕ
  pub units : List (List ℕ)
  pub files : NamesFiles holds words (Check count) (layout ∷ image ∷ units)
  pub inputs : Inputs
  pub read : inputs_of layout image units ≡ Ok inputs
  pub fault : Fault
  pub first : First inputs fault
  pub fails : FailsAt inputs fault
  pub printed : text ≡ fault_text fault

-- what was taken, and nothing else, is a text of which the fact holds
abbrev pub Takes : Outside → (List ℕ → Type 0) → Type 0
Takes o P = (text : List ℕ) × P text × Appends o.taken o.taken_after text

abbrev pub IsCheck : List (List ℕ) → Type 0
IsCheck words = (count : ℕ) × (command_of words ≡ Some (Check count))

-- what the status tells, whether or not the store tells what it holds
pub record Tells (o : Outside) (words : List (List ℕ)) (status : ℕ) : Type 0 where
  pub yes : IsCheck words → status ≡ 0 → Takes o (IsReport o.store.holds words)
  pub no : IsCheck words → status ≡ 1 → Takes o (IsNo o.store.holds words)
