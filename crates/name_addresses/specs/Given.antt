-- What a match is judged by.
use Rattle.image_model.specs.Image.{Image}
use Rattle.layout_model.specs.Layouts.{Layout}
use Rattle.link_model.specs.Program.{Program}
use Rattle.link_model.specs.Candidates.{Inputs}

abbrev pub given : Image → Layout → Program → Inputs
given image layout program = record { image = image; layout = layout; program = program }
