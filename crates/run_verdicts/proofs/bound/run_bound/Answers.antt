use Rattle.std.proofs.Common.{ℕ, List, subst, ◌∙◌}
use Rattle.name_addresses.specs.Given.{given}
use Rattle.run_verdicts.specs.Runs.{IsRunAt}
use Rattle.run_verdicts.proofs.Matching.{agrees, told_fault, unmatched}
use Rattle.run_verdicts.proofs.bound.run_bound.Goals as goal

pub returns-in-Ok-run_placed-clause-yes : goal.returns-in-Ok-run_placed-clause-yes
returns-in-Ok-run_placed-clause-yes c =
    let g = given c.args.view.now c.args.layout.now c.args.program.now in
    let P : List ℕ → Type 0 = λ bs. IsRunAt g bs c.args.replies.now c.args.steps c.in-Ok-run_placed.verdict in
    record {
      bound = c.in-Ok.ensures.places;
      run = subst P (c.addresses.ensures ∙ c.in-Ok.ensures.binding) c.in-Ok-run_placed.ensures;
      matching = agrees c.matching_traces_agree.ensures g c.segments-segments.ensures.loadable c.stack-stack.ensures.layout
          c.units-units.ensures.linked c.args.replies.now c.args.steps;
    }

pub returns-in-Err-No-clause-error : goal.returns-in-Err-No-clause-error
returns-in-Err-No-clause-error c =
    let g = given c.args.view.now c.args.layout.now c.args.program.now in
    let first = told_fault (List ℕ) _ c.in-Err-No.field-0 c.in-Err-No.fault c.in-Err-No.field-0-is c.in-Err-No.ensures.places in
    rw c.in-Err-No.field-0-is (first, unmatched c.matches_or_fails.ensures g c.segments-segments.ensures.loadable c.in-Err-No.fault first)
