use Rattle.std.proofs.Common.{◌≡◌}
use Rattle.link_model.specs.Candidates.{Inputs}
use Rattle.name_addresses.specs.Given.{given}
use Rattle.image_check.proofs.Bound.{bind_passes, unbound_key, told_first}
use Rattle.image_check.proofs.binding.bound_pass.Goals as goal

pub told-requires : goal.told-requires
told-requires g c =
    let i : Inputs = given c.args.view.now c.args.layout.now (g.P.KeyedProgram.program c.args.program.now) in
    unbound_key i c.in-Err.fault c.in-Err.ensures.fault

pub returns-in-Ok-clause-places : goal.returns-in-Ok-clause-places
returns-in-Ok-clause-places g c =
    let i : Inputs = given c.args.view.now c.args.layout.now (g.P.KeyedProgram.program c.args.program.now) in
    bind_passes i c.in-Ok.ensures.bound

pub returns-in-Err-clause-places : goal.returns-in-Err-clause-places
returns-in-Err-clause-places g c =
    let i : Inputs = given c.args.view.now c.args.layout.now (g.P.KeyedProgram.program c.args.program.now) in
    told_first i c.in-Err.fault c.told.result c.in-Err.ensures.fault c.told.ensures
