-- The verdict on the contents of a command's files.
use Rattle.std.specs.Prelude.{◌≡◌, ◌<◌, ◌≤◌, ℕ, ◌+◌, List, [], ◌∷◌, ◌++◌, length, Some, Ok, Err}
use Rattle.serde_json.specs.Written.{compact_text}
use Rattle.limits.specs.declared.TheConstants.{MOST_DUMP_BYTES}
use Rattle.ordered_tests.specs.Checks.{first_fault}
use Rattle.image_model.specs.Bytes.{AreBytes}
use Rattle.image_model.specs.Image as images
use Rattle.image_model.specs.Tests.{elf_tests, IsElf}
use Rattle.asm_syntax.specs.declared.unit.Unit as units
use Rattle.dump_reader.specs.DumpFile as dumps
use Rattle.dump_model.specs.UnitTree.{unit_data}
use Rattle.show_text.specs.Show.{show_text}
use Rattle.judge_model.specs.declared.refusal.Refusal.{Refusal}
use Rattle.judge_model.specs.declared.refusal.Refusal.TheVariants.{Layout, Image, Unit, Replies, Link, Entry}
use Rattle.judge_model.specs.Judge.{IsAccount, IsFirstFault, IsFirstRefusal}
use Rattle.coverage.specs.Accounts.{account_seen}
use Rattle.simulation.specs.Judged.{IsFaithful}
use Rattle.commands.specs.declared.command.Command.{Command}
use Rattle.commands.specs.declared.command.Command.TheVariants.{Check, Run, Show, Upgrade}
use Rattle.run_verdicts.specs.Runs.{Runs}
use Rattle.report_text.specs.declared.verdict.Verdict.{Verdict}
use Rattle.report_text.specs.declared.verdict.Verdict.TheVariants.{TooLong, Refused, No, Yes, Done}

-- ---- check

-- the place among the words of the file that a refusal is of; a check reads no replies
abbrev pub refused_place : Refusal → ℕ
refused_place (Layout e) = 1
refused_place (Image e) = 2
refused_place (Unit u e) = u + 3
refused_place (Replies e) = 0
refused_place (Link u name e) = u + 3
refused_place (Entry name) = 1

-- the account of an image that matches, which does what its assembly does; the first place that fails; or the first thing that is
-- refused
abbrev pub Checks : List ℕ → List ℕ → List (List ℕ) → Verdict → Type 0
Checks layout image units (Yes a) = IsAccount layout image units (account_seen a) × IsFaithful layout image units
Checks layout image units (No f) = AreBytes image × IsFirstFault layout image units f
Checks layout image units (Refused place r) = (place ≡ refused_place r) × IsFirstRefusal layout image units r
Checks layout image units _ = ⊥

-- ---- show

-- so many words of an image from an address on, or the first test that the bytes fail
abbrev pub Shows : ℕ → ℕ → List ℕ → Verdict → Type 0
Shows a n image (Done text) = (v : images.Image) × IsElf image v × (text ≡ show_text v a n)
Shows a n image (Refused place (Image e)) = (place ≡ 1) × (first_fault (elf_tests image) ≡ Some e)
Shows a n image _ = ⊥

-- ---- upgrade

-- a unit in the newest version, on one line
abbrev pub upgraded : units.Unit → List ℕ
upgraded u = compact_text (unit_data 2 u) ++ 0x0a ∷ []

-- the unit in the newest version, unless that is too long for a dump; or the first thing that is wrong with the bytes
abbrev pub Upgrades : List ℕ → Verdict → Type 0
Upgrades unit (Done text) =
    (u : units.Unit) × (dumps.unit_file unit ≡ Ok u) × (text ≡ upgraded u) × (length text ≤ MOST_DUMP_BYTES)
Upgrades unit (TooLong place limit) =
    (u : units.Unit) × (dumps.unit_file unit ≡ Ok u) × (place ≡ 1) × (limit ≡ MOST_DUMP_BYTES) × (MOST_DUMP_BYTES < length (upgraded u))
Upgrades unit (Refused place (Unit number e)) =
    (place ≡ 1) × (number ≡ 0) × (r : dumps.Refusal) × (dumps.told e ≡ Some r) × (dumps.unit_file unit ≡ Err r)
Upgrades unit _ = ⊥

-- ---- all

-- by the contents of the files in their order
abbrev pub Concludes : Command → List (List ℕ) → Verdict → Type 0
Concludes (Check n) (layout ∷ image ∷ units) v = Checks layout image units v
Concludes (Run steps n) (layout ∷ image ∷ replies ∷ units) v = Runs layout image replies steps units v
Concludes (Show a n) (image ∷ []) v = Shows a n image v
Concludes Upgrade (unit ∷ []) v = Upgrades unit v
Concludes _ _ v = ⊥
