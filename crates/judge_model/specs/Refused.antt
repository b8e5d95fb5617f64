-- What a refusal tells. Want of memory is none.
use Rattle.std.specs.Prelude.{ℕ, List, Option, Some, None, option_map}
use Rattle.image_model.specs.declared.error.ElfError.{ElfError}
use Rattle.layout_file.specs.Errors as layout_errors
use Rattle.layout_file.specs.LayoutFile as layouts
use Rattle.dump_reader.specs.DumpFile as dumps
use Rattle.link_model.specs.declared.link_error.LinkError.{LinkError}
use Rattle.asm_program.specs.Faults as links
use Rattle.judge_model.specs.declared.refusal.Refusal.{Refusal}
use Rattle.judge_model.specs.declared.refusal.Refusal.TheVariants.{Layout, Image, Unit, Replies, Link, Entry}

-- a unit has its number, and where it does not link its name too
pub data Refused : Type 0 where
  OfLayout : layouts.Refusal → Refused
  OfImage : ElfError → Refused
  OfUnit : ℕ → dumps.Refusal → Refused
  OfReplies : dumps.Refusal → Refused
  OfLink : ℕ → List ℕ → LinkError → Refused
  OfEntry : List ℕ → Refused

abbrev pub link_told : ℕ → List ℕ → LinkError → Option Refused
link_told u name e = option_map (OfLink u name) (links.told e)

abbrev pub told : Refusal → Option Refused
told (Layout e) = option_map OfLayout (layout_errors.told e)
told (Image e) = Some (OfImage e)
told (Unit u e) = option_map (OfUnit u) (dumps.told e)
told (Replies e) = option_map OfReplies (dumps.told e)
told (Link u name e) = link_told u name e
told (Entry name) = Some (OfEntry name)
