use Rattle.std.proofs.Common.{◌≡◌, List, Option, None, Ok, Err, ap, subst, ◌∙◌}
use Rattle.std.proofs.lemmas.Result.{err_from_is_err_and}
use Rattle.ordered_tests.specs.Checks.{first_fault}
use Rattle.link_model.specs.declared.fault.Fault.{Fault}
use Rattle.link_model.specs.Candidates.{Inputs}
use Rattle.link_model.specs.Claims.{Claim, claims, Apart}
use Rattle.link_model.specs.Overlaps.{in_order, overlap_pass}
use Rattle.link_model.specs.Passes.{stray_pass}
use Rattle.link_model.specs.Account.{account}
use Rattle.name_addresses.specs.Given.{given}
use Rattle.coverage.specs.declared.account.Account.{Account}
use Rattle.key_passes.specs.Answers.{Decides}
use Rattle.image_check.proofs.Accounts.{with_externals}
use Rattle.image_check.proofs.Joined.{decides_after, decides_before}
use Rattle.image_check.proofs.checking.account_all.Goals as goal

pub returns-in_err-overlap_pass-clause-places : goal.returns-in_err-overlap_pass-clause-places
returns-in_err-overlap_pass-clause-places g c =
    let b = c.args.bound.now in
    let i : Inputs = given b.segments.now b.layout.now (g.P.KeyedProgram.program b.program.now) in
    let cs = claims i b.addresses.now in
    let p = err_from_is_err_and c.from_residual.result c.from_residual.ensures.1 in
    let e = c.in_err-overlap_pass.field-0.0 in
    rw (p.1, p.2) (decides_before (Unit {0}) Account (overlap_pass cs) (stray_pass i.image i.layout cs) e
    (subst (λ (x : List Claim). Decides {T = Unit {0}} (first_fault (overlap_pass x)) (Err e)) c.requires
    c.in_err-overlap_pass.ensures.places))

pub returns-in_err-account-clause-places : goal.returns-in_err-account-clause-places
returns-in_err-account-clause-places g c =
    let b = c.args.bound.now in
    let i : Inputs = given b.segments.now b.layout.now (g.P.KeyedProgram.program b.program.now) in
    let cs = claims i b.addresses.now in
    let p = err_from_is_err_and c.from_residual-in_err-account.result c.from_residual-in_err-account.ensures.1 in
    let e = c.in_err-account.field-0.0 in
    let none = subst (λ (x : List Claim). (let none : Option Fault = None in first_fault (overlap_pass x) ≡ none)) c.requires
    c.in_ok-overlap_pass.ensures.places in
    rw (p.1, p.2) (decides_after {T = Account} (overlap_pass cs) (stray_pass i.image i.layout cs) (Err e) none
    (c.in_err-account.ensures.places cs (c.overlap_pass.ensures.order ∙ ap in_order c.requires)))

pub returns-clause-places : goal.returns-clause-places
returns-clause-places g c =
    let b = c.args.bound.now in
    let i : Inputs = given b.segments.now b.layout.now (g.P.KeyedProgram.program b.program.now) in
    let cs = claims i b.addresses.now in
    let none = subst (λ (x : List Claim). (let none : Option Fault = None in first_fault (overlap_pass x) ≡ none)) c.requires
    c.in_ok-overlap_pass.ensures.places in
    decides_after {T = Unit {0}} (overlap_pass cs) (stray_pass i.image i.layout cs) (Ok tt) none
    (c.in_ok-account.ensures.places cs (c.overlap_pass.ensures.order ∙ ap in_order c.requires))

pub returns-clause-account : goal.returns-clause-account
returns-clause-account g c =
    let b = c.args.bound.now in
    let i : Inputs = given b.segments.now b.layout.now (g.P.KeyedProgram.program b.program.now) in
    let cs = claims i b.addresses.now in
    let apart = subst (λ (x : List Claim). Apart x) c.requires c.in_ok-overlap_pass.ensures.apart in
    with_externals i.image i.layout cs c.count_externals.result c.in_ok-account.account
    (c.in_ok-account.ensures.account cs (c.overlap_pass.ensures.order ∙ ap in_order c.requires) apart)
    ∙ ap (account i.image i.layout cs) c.count_externals.ensures
