use Rattle.std.proofs.Common.{◌≡◌, ap, ◌∙◌}
use Rattle.std.specs.Prelude.{is_some}
use Rattle.link_model.specs.Overlaps.{overlap_pass}
use Rattle.image_check.proofs.Meetings.{no_failing_place}
use Rattle.image_check.proofs.overlap.overlap_pass.Goals as goal

pub returns-in-None-clause-apart : goal.returns-in-None-clause-apart
returns-in-None-clause-apart c =
    let cs = c.args.claims.now in
    let none = c.in-None.ensures.fault cs c.settle.ensures.order in
    c.settle.ensures.apart.0 (ap is_some (c.settle.ensures.place ∙ no_failing_place (overlap_pass cs) none))
