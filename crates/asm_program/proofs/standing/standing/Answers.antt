use Rattle.std.proofs.Common.{◌∙◌, ap}
use Rattle.std.specs.Prelude.{filter}
use Rattle.std.specs.List.{list_any}
use Rattle.link_model.specs.Program.{declarations}
use Rattle.asm_program.specs.Standing.{stands_by}
use Rattle.asm_program.proofs.StandingNames.{is_global_of, defined_globally, standing_is}
use Rattle.asm_program.proofs.standing.standing.Goals as goal

pub returns : goal.returns
returns c =
    let units = c.args.units.now in let defined = c.in_ok-defined.defined in let referred = c.in_ok-referred.referred in
    c.in_ok-list.ensures
    ∙ (ap (filter (stands_by defined referred)) c.requires
    ∙ standing_is units defined referred
    (λ v. c.in_ok-defined.ensures v ∙ (ap (list_any (is_global_of v)) c.requires ∙ defined_globally units v))
    c.in_ok-referred.ensures (declarations units))
