use Rattle.serde_json.specs.View.{view}
use Rattle.layout_file.proofs.Parts.{parts_read}
use Rattle.layout_file.proofs.read.parts_of.Goals as goal

pub returns-in-Ok-clause-parts : goal.returns-in-Ok-clause-parts
returns-in-Ok-clause-parts c = parts_read (view c.args.tree.now) c.in-Ok.parts c.in-Ok.ensures
