-- What a run reads, from the bytes of its files.
use Rattle.std.specs.Prelude.{ℕ, List, Result, Ok}
use Rattle.ordered_tests.specs.Steps.{◌>>=◌, ◌>>◌}
use Rattle.image_model.specs.Image.{Image}
use Rattle.layout_model.specs.Layouts.{Layout}
use Rattle.asm_syntax.specs.declared.unit.Reply.{Reply}
use Rattle.asm_syntax.specs.declared.unit.Unit.{Unit}
use Rattle.dump_reader.specs.DumpFile.{replies_file}
use Rattle.link_model.specs.Candidates.{Inputs}
use Rattle.judge_model.specs.Refused.{Refused, OfReplies}
use Rattle.judge_model.specs.Judge.{image_in, layout_in, linked, or_refused, units_in}

-- what a match is judged by, and the replies of the external functions
pub record RunInputs : Type 0 where
  pub inputs : Inputs
  pub replies : List Reply

unfoldable pub replies_in : List ℕ → Result (List Reply) Refused
replies_in bytes = or_refused OfReplies (replies_file bytes)

-- of files that were read
abbrev pub after_files : Image → Layout → List Unit → List Reply → Result RunInputs Refused
after_files v l us rs =
    linked us l.entry >> Ok (record {
      inputs = record { image = v; layout = l; program = record { units = us; entry = l.entry } };
      replies
          = rs;
    })

-- by the layout, the image, the units, the replies and linking, in this order
unfoldable pub run_inputs : List ℕ → List ℕ → List ℕ → List (List ℕ) → Result RunInputs Refused
run_inputs layout image replies units = do
  l ← layout_in layout
  v ← image_in image
  us ← units_in 0 units
  rs ← replies_in replies
  after_files v l us rs
