-- What a match is judged by, from the bytes of a layout, an image and units; and whether they match.
use Rattle.std.specs.Prelude.{◌≡◌, ℕ, ◌+◌, List, [], ◌∷◌, Some, Result, Ok, Err}
use Rattle.ordered_tests.specs.Steps.{◌>>=◌, ◌>>◌, all_pass}
use Rattle.image_model.specs.Image.{Image, image_of}
use Rattle.image_model.specs.Tests.{elf_tests}
use Rattle.layout_model.specs.Layouts.{Layout}
use Rattle.layout_file.specs.LayoutFile.{layout_file}
use Rattle.asm_syntax.specs.declared.unit.Unit as syntax
use Rattle.dump_reader.specs.DumpFile.{unit_file}
use Rattle.link_model.specs.declared.link_error.LinkError.{LinkError}
use Rattle.link_model.specs.declared.link_error.LinkError.TheVariants as links
use Rattle.link_model.specs.declared.fault.Fault.{Fault}
use Rattle.link_model.specs.Account.{Account, program_account}
use Rattle.link_model.specs.Binding.{addresses}
use Rattle.link_model.specs.Candidates.{Inputs}
use Rattle.link_model.specs.LinkTests.{link_tests}
use Rattle.link_model.specs.Numbers.{unit_name}
use Rattle.link_model.specs.Parts.{Matches}
use Rattle.link_model.specs.Passes.{First}
use Rattle.judge_model.specs.declared.refusal.Refusal.{Refusal}
use Rattle.judge_model.specs.Refused.{Refused, told, OfLayout, OfImage, OfUnit, OfLink, OfEntry}

-- a step whose fault is refused
abbrev pub or_refused : {A E : Type 0} → (E → Refused) → Result A E → Result A Refused
or_refused refused (Ok x) = Ok x
or_refused refused (Err e) = Err (refused e)

-- ---- the files

unfoldable pub layout_in : List ℕ → Result Layout Refused
layout_in bytes = or_refused OfLayout (layout_file bytes)

unfoldable pub image_in : List ℕ → Result Image Refused
image_in bytes = or_refused OfImage (all_pass (elf_tests bytes) >> Ok (image_of bytes))

-- the units in their order, numbered from u
unfoldable pub units_in : ℕ → List (List ℕ) → Result (List syntax.Unit) Refused
units_in u [] = Ok []
units_in u (bytes ∷ more) = do
  unit ← or_refused (OfUnit u) (unit_file bytes)
  units ← units_in (u + 1) more
  Ok (unit ∷ units)

-- ---- linking

-- the refusal of units whose entry has this name
abbrev pub link_refused : List syntax.Unit → List ℕ → LinkError → Refused
link_refused units entry (links.UnitTwice u) = OfLink u (unit_name units u) (links.UnitTwice u)
link_refused units entry (links.DefinedTwice u name) = OfLink u (unit_name units u) (links.DefinedTwice u name)
link_refused units entry (links.Undeclared u name) = OfLink u (unit_name units u) (links.Undeclared u name)
link_refused units entry (links.SigDiffers u name) = OfLink u (unit_name units u) (links.SigDiffers u name)
link_refused units entry (links.TooBig u name) = OfLink u (unit_name units u) (links.TooBig u name)
link_refused units entry e = OfEntry entry

unfoldable pub linked : List syntax.Unit → List ℕ → Result (Unit {0}) Refused
linked units entry = or_refused (link_refused units entry) (all_pass (link_tests units entry))

-- ---- all

-- by the layout, the image, the units and their linking, in this order
unfoldable pub inputs_of : List ℕ → List ℕ → List (List ℕ) → Result Inputs Refused
inputs_of layout image units = do
  l ← layout_in layout
  v ← image_in image
  us ← units_in 0 units
  linked us l.entry
  Ok (record { image = v; layout = l; program = record { units = us; entry = l.entry } })

-- the bytes are a layout, an image and units that link, and the image matches
pub record FilesMatch (layout image : List ℕ) (units : List (List ℕ)) : Type 0 where
  pub inputs : Inputs
  pub read : inputs_of layout image units ≡ Ok inputs
  pub match : Matches inputs

-- ---- the three answers

-- of files that match
abbrev pub IsAccount : List ℕ → List ℕ → List (List ℕ) → Account → Type 0
IsAccount layout image units a =
    (g : Inputs) × (inputs_of layout image units ≡ Ok g) × Matches g × (a ≡ program_account g (addresses g))

-- the first place that fails, of files that do not match
abbrev pub IsFirstFault : List ℕ → List ℕ → List (List ℕ) → Fault → Type 0
IsFirstFault layout image units f = (g : Inputs) × (inputs_of layout image units ≡ Ok g) × First g f

-- the first thing that is refused
abbrev pub IsFirstRefusal : List ℕ → List ℕ → List (List ℕ) → Refusal → Type 0
IsFirstRefusal layout image units r = (x : Refused) × (told r ≡ Some x) × (inputs_of layout image units ≡ Err x)
