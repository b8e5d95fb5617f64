use Rattle.std.proofs.Common.{◌≡◌, ℕ, List, Err, Ok, Option, None, ap, subst, ◌∙◌}
use Rattle.std.specs.Prelude.{Result}
use Rattle.std.proofs.lemmas.Result.{err_from_is_err_and}
use Rattle.ordered_tests.specs.Checks.{Check, first_fault}
use Rattle.link_model.specs.declared.fault.Fault.{Fault}
use Rattle.link_model.specs.Candidates.{Inputs}
use Rattle.link_model.specs.Binding.{addresses}
use Rattle.link_model.specs.Passes.{bound_pass, external_pass}
use Rattle.name_addresses.specs.Given.{given}
use Rattle.key_passes.specs.Answers.{Decides}
use Rattle.image_check.specs.Places.{bound_places}
use Rattle.image_check.proofs.Joined.{decides_after, decides_before, external_same}
use Rattle.image_check.proofs.binding.bound.Goals as goal

pub returns-in_err-binding-clause-places : goal.returns-in_err-binding-clause-places
unfolding bound_places
returns-in_err-binding-clause-places g c =
    let i : Inputs = given c.args.view.now c.args.layout.now (g.P.KeyedProgram.program c.args.program.now) in
    let p = err_from_is_err_and c.from_residual.result c.from_residual.ensures.1 in
    rw (p.1, p.2) (decides_before (List ℕ) (List ℕ) (bound_pass i) (external_pass i (addresses i)) c.in_err-binding.field-0.0
    c.in_err-binding.ensures.places)

pub returns-in_err-external_pass-clause-places : goal.returns-in_err-external_pass-clause-places
unfolding bound_places
returns-in_err-external_pass-clause-places g c =
    let program = g.P.KeyedProgram.program c.args.program.now in
    let i : Inputs = given c.args.view.now c.args.layout.now program in
    let p = err_from_is_err_and c.from_residual-in_err-external_pass.result c.from_residual-in_err-external_pass.ensures.1 in
    let e = c.in_err-external_pass.field-0.0 in
    let same = external_same c.in_ok-segments.segments c.args.view.now c.args.layout.now program c.addresses.result.now (addresses i)
    c.in_ok-segments.ensures (c.addresses.ensures ∙ c.in_ok-binding.ensures.binding) in
    rw (p.1, p.2) (decides_after {T = List ℕ} (bound_pass i) (external_pass i (addresses i)) (Err e) c.in_ok-binding.ensures.places
    (subst (λ (cs : List (Check Fault)). Decides {T = List ℕ} (first_fault cs) (Err e)) same c.in_err-external_pass.ensures))

pub returns-clause-places : goal.returns-clause-places
unfolding bound_places
returns-clause-places g c =
    let program = g.P.KeyedProgram.program c.args.program.now in
    let i : Inputs = given c.args.view.now c.args.layout.now program in
    let same = external_same c.in_ok-segments.segments c.args.view.now c.args.layout.now program c.addresses.result.now (addresses i)
    c.in_ok-segments.ensures (c.addresses.ensures ∙ c.in_ok-binding.ensures.binding) in
    decides_after {T = Unit {0}} (bound_pass i) (external_pass i (addresses i)) (Ok tt) c.in_ok-binding.ensures.places
    (subst (λ (cs : List (Check Fault)). Decides {T = Unit {0}} (first_fault cs) (Ok tt)) same c.in_ok-external_pass.ensures)
