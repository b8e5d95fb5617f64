use Rattle.std.proofs.Common.{◌≡◌}
use Rattle.link_model.specs.Candidates.{Inputs}
use Rattle.name_addresses.specs.Given.{given}
use Rattle.simulation.proofs.Refusals.{faithful_of}
use Rattle.simulation.proofs.judge.judge_units.Goals as goal

pub returns-in-Ok-check-clause-faithful : goal.returns-in-Ok-check-clause-faithful
returns-in-Ok-check-clause-faithful c =
    let i : Inputs = given c.args.view.now c.args.layout.now c.in-Ok.program in
    faithful_of c.args.view.now c.args.layout.now c.args.units.now c.entry.result.now c.in-Ok.program c.entry.ensures
    c.in-Ok.ensures.linked c.in-Ok.ensures.program
    (c.matches_are_faithful.ensures i c.segments-segments.ensures.loadable c.stack-stack.ensures.layout c.units-units.ensures.linked
    c.in-Ok-check.ensures.yes.0)
