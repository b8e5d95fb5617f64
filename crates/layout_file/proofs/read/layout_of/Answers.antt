use Rattle.std.proofs.Common.{map, ap, ◌∙◌}
use Rattle.word_ops.specs.Seen.{extent_of}
use Rattle.layout_file.proofs.Meetings.{layout_is}
use Rattle.layout_file.proofs.read.layout_of.Goals as goal

pub of_parts-requires : goal.of_parts-requires
of_parts-requires c =
    layout_is c.args.parts (map extent_of c.deref.result.now) (ap (map extent_of) c.deref.ensures.value ∙ c.in-Ok.ensures.all) c.requires
    c.in_ok-are_apart.ensures
