use Rattle.std.proofs.Common.{ℕ, List, ap, sym, subst, ◌∙◌}
use Rattle.std.specs.Prelude.{IfErr}
use Rattle.link_model.specs.Program.{Program}
use Rattle.name_addresses.specs.Given.{given}
use Rattle.judge_model.specs.Judge.{linked}
use Rattle.run_verdicts.specs.Runs.{IsFaultOf}
use Rattle.run_verdicts.proofs.Reading.{linked_no}
use Rattle.run_verdicts.proofs.running.run_units.Goals as goal

pub returns-clause-error : goal.returns-clause-error
returns-clause-error c =
    let v = c.args.view.now in
    let l = c.args.layout.now in
    let us = c.args.units.now in
    let made : List ℕ → Program = λ entry. record { units = us; entry = entry } in
    let links = ap (linked us) (sym c.entry.ensures) ∙ c.in-Ok.ensures.linked in
    let program = c.in-Ok.ensures.program ∙ ap made c.entry.ensures in
    let P : Program → Type 0 = λ p. IfErr c.run_bound.result (IsFaultOf (given v l p)) in
    linked_no v l us c.args.replies.now c.run_bound.result links (subst P program c.run_bound.ensures.error)
