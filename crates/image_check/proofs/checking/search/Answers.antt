use Rattle.std.proofs.Common.{◌≡◌, ℕ, List, ◌++◌, Option, None, Ok, Err, ◌∙◌}
use Rattle.std.specs.Prelude.{IfOk}
use Rattle.std.proofs.lemmas.Result.{err_from_is_err_and}
use Rattle.ordered_tests.specs.Checks.{first_fault}
use Rattle.image_model.specs.Image.{Image}
use Rattle.link_model.specs.declared.fault.Fault.{Fault}
use Rattle.link_model.specs.Candidates.{Inputs}
use Rattle.link_model.specs.Binding.{addresses}
use Rattle.link_model.specs.Claims.{Claim}
use Rattle.link_model.specs.Account.{program_account}
use Rattle.link_model.specs.Passes.{entry_pass, bound_pass}
use Rattle.name_addresses.specs.Given.{given}
use Rattle.coverage.specs.declared.account.Account.{Account}
use Rattle.coverage.specs.Accounts.{account_seen}
use Rattle.key_passes.specs.Answers.{Decides}
use Rattle.image_check.proofs.Joined.{decides_after, decides_before}
use Rattle.image_check.proofs.Passes.{key_places, address_places, decides_passes, moved}
use Rattle.image_check.proofs.checking.search.Goals as goal

pub returns-in_err-entry_pass-clause-places : goal.returns-in_err-entry_pass-clause-places
returns-in_err-entry_pass-clause-places g c =
    let i : Inputs = given c.args.view.now c.args.layout.now (g.P.KeyedProgram.program c.args.program.now) in
    let bs = addresses i in
    let p = err_from_is_err_and c.from_residual.result c.from_residual.ensures.1 in
    let e = c.in_err-entry_pass.field-0.0 in
    rw (p.1, p.2) (decides_passes Account i bs (Err e)
    (decides_before (Unit {0}) Account (entry_pass i.image) (bound_pass i ++ (key_places i bs ++ address_places i bs)) e
    c.in_err-entry_pass.ensures))

pub returns-in_err-binding-clause-places : goal.returns-in_err-binding-clause-places
returns-in_err-binding-clause-places g c =
    let i : Inputs = given c.args.view.now c.args.layout.now (g.P.KeyedProgram.program c.args.program.now) in
    let bs = addresses i in
    let p = err_from_is_err_and c.from_residual-in_err-binding.result c.from_residual-in_err-binding.ensures.1 in
    let e = c.in_err-binding.field-0.0 in
    rw (p.1, p.2) (decides_passes Account i bs (Err e)
    (decides_after {T = Account} (entry_pass i.image) (bound_pass i ++ (key_places i bs ++ address_places i bs)) (Err e)
    c.in_ok-entry_pass.ensures
    (decides_before (List ℕ) Account (bound_pass i) (key_places i bs ++ address_places i bs) e c.in_err-binding.ensures.places)))

pub returns-in_err-claims-clause-places : goal.returns-in_err-claims-clause-places
returns-in_err-claims-clause-places g c =
    let l = c.args.layout.now in
    let program = g.P.KeyedProgram.program c.args.program.now in
    let i : Inputs = given c.args.view.now l program in
    let bs = addresses i in
    let p = err_from_is_err_and c.from_residual-in_err-claims.result c.from_residual-in_err-claims.ensures.1 in
    let e = c.in_err-claims.field-0.0 in
    rw (p.1, p.2) (decides_passes Account i bs (Err e)
    (decides_after {T = Account} (entry_pass i.image) (bound_pass i ++ (key_places i bs ++ address_places i bs)) (Err e)
    c.in_ok-entry_pass.ensures
    (decides_after {T = Account} (bound_pass i) (key_places i bs ++ address_places i bs) (Err e) c.in_ok-binding.ensures.places
    (decides_before (List Claim) Account (key_places i bs) (address_places i bs) e
    (moved (λ (v : Image) (cs : List ℕ). Decides {T = List Claim} (first_fault (key_places (given v l program) cs)) (Err e))
    c.in_ok-segments.segments c.args.view.now c.addresses.result.now bs c.in_ok-segments.ensures
    (c.addresses.ensures ∙ c.in_ok-binding.ensures.binding) c.in_err-claims.ensures.places)))))

pub returns-clause-places : goal.returns-clause-places
returns-clause-places g c =
    let l = c.args.layout.now in
    let program = g.P.KeyedProgram.program c.args.program.now in
    let i : Inputs = given c.args.view.now l program in
    let bs = addresses i in
    let r = c.account_all.result in
    let same = c.addresses.ensures ∙ c.in_ok-binding.ensures.binding in
    let none = moved (λ (v : Image) (cs : List ℕ).
    (let none : Option Fault = None in first_fault (key_places (given v l program) cs) ≡ none))
    c.in_ok-segments.segments c.args.view.now c.addresses.result.now bs c.in_ok-segments.ensures same c.in_ok-claims.ensures.places in
    let rest = moved (λ (v : Image) (cs : List ℕ). Decides {T = Account} (first_fault (address_places (given v l program) cs)) r)
    c.in_ok-segments.segments c.args.view.now c.addresses.result.now bs c.in_ok-segments.ensures same c.account_all.ensures.places in
    decides_passes Account i bs r
    (decides_after {T = Account} (entry_pass i.image) (bound_pass i ++ (key_places i bs ++ address_places i bs)) r
    c.in_ok-entry_pass.ensures
    (decides_after {T = Account} (bound_pass i) (key_places i bs ++ address_places i bs) r c.in_ok-binding.ensures.places
    (decides_after {T = Account} (key_places i bs) (address_places i bs) r none rest)))

pub returns-clause-account : goal.returns-clause-account
returns-clause-account g c =
    let l = c.args.layout.now in
    let program = g.P.KeyedProgram.program c.args.program.now in
    let i : Inputs = given c.args.view.now l program in
    moved (λ (v : Image) (cs : List ℕ).
    IfOk c.account_all.result (λ (a : Account). account_seen a ≡ program_account (given v l program) cs))
    c.in_ok-segments.segments c.args.view.now c.addresses.result.now (addresses i) c.in_ok-segments.ensures
    (c.addresses.ensures ∙ c.in_ok-binding.ensures.binding) c.account_all.ensures.account
