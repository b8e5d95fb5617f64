use Rattle.std.proofs.Common.{◌≡◌, ◌++◌, List, Ok, Err, ap, ◌∙◌}
use Rattle.std.proofs.lemmas.Result.{err_from_is_err_and}
use Rattle.std.specs.List.{flat_map}
use Rattle.link_model.specs.Candidates.{Inputs}
use Rattle.link_model.specs.Binding.{numbered_keys}
use Rattle.link_model.specs.Claims.{Claim, claims, key_functions, key_variables}
use Rattle.link_model.specs.Passes.{external_pass, function_pass, variable_pass}
use Rattle.name_addresses.specs.Given.{given}
use Rattle.image_check.proofs.Joined.{decides_after, decides_before}
use Rattle.image_check.proofs.placing.place_keys.Goals as goal

pub returns-in_err-external_pass-clause-places : goal.returns-in_err-external_pass-clause-places
returns-in_err-external_pass-clause-places g c =
    let b = c.args.bound.now in
    let bs = b.addresses.now in
    let i : Inputs = given b.segments.now b.layout.now (g.P.KeyedProgram.program b.program.now) in
    let p = err_from_is_err_and c.from_residual.result c.from_residual.ensures.1 in
    rw (p.1, p.2) (decides_before (Unit {0}) (List Claim) (external_pass i bs) (function_pass i bs ++ variable_pass i bs)
    c.in_err-external_pass.field-0.0 c.in_err-external_pass.ensures)

pub returns-in_err-function_pass-clause-places : goal.returns-in_err-function_pass-clause-places
returns-in_err-function_pass-clause-places g c =
    let b = c.args.bound.now in
    let bs = b.addresses.now in
    let i : Inputs = given b.segments.now b.layout.now (g.P.KeyedProgram.program b.program.now) in
    let p = err_from_is_err_and c.from_residual-in_err-function_pass.result c.from_residual-in_err-function_pass.ensures.1 in
    let e = c.in_err-function_pass.field-0.0 in
    rw (p.1, p.2) (decides_after {T = List Claim} (external_pass i bs) (function_pass i bs ++ variable_pass i bs) (Err e)
    c.in_ok-external_pass.ensures
    (decides_before (Unit {0}) (List Claim) (function_pass i bs) (variable_pass i bs) e c.in_err-function_pass.ensures.places))

pub returns-in_err-variable_pass-clause-places : goal.returns-in_err-variable_pass-clause-places
returns-in_err-variable_pass-clause-places g c =
    let b = c.args.bound.now in
    let bs = b.addresses.now in
    let i : Inputs = given b.segments.now b.layout.now (g.P.KeyedProgram.program b.program.now) in
    let p = err_from_is_err_and c.from_residual-in_err-variable_pass.result c.from_residual-in_err-variable_pass.ensures.1 in
    let e = c.in_err-variable_pass.field-0.0 in
    rw (p.1, p.2) (decides_after {T = List Claim} (external_pass i bs) (function_pass i bs ++ variable_pass i bs) (Err e)
    c.in_ok-external_pass.ensures
    (decides_after {T = List Claim} (function_pass i bs) (variable_pass i bs) (Err e) c.in_ok-function_pass.ensures.places
    c.in_err-variable_pass.ensures.places))

pub returns-clause-places : goal.returns-clause-places
returns-clause-places g c =
    let b = c.args.bound.now in
    let bs = b.addresses.now in
    let i : Inputs = given b.segments.now b.layout.now (g.P.KeyedProgram.program b.program.now) in
    decides_after {T = Unit {0}} (external_pass i bs) (function_pass i bs ++ variable_pass i bs) (Ok tt) c.in_ok-external_pass.ensures
    (decides_after {T = Unit {0}} (function_pass i bs) (variable_pass i bs) (Ok tt) c.in_ok-function_pass.ensures.places
    c.in_ok-variable_pass.ensures.places)

pub returns-clause-claims : goal.returns-clause-claims
unfolding claims
returns-clause-claims g c =
    let b = c.args.bound.now in
    let bs = b.addresses.now in
    let i : Inputs = given b.segments.now b.layout.now (g.P.KeyedProgram.program b.program.now) in
    let variables = flat_map (key_variables i bs) (numbered_keys i) in
    let functions = flat_map (key_functions i bs) (numbered_keys i) in
    c.in_ok-variable_pass.ensures.claims
    ∙ ap (λ (cs : List Claim). cs ++ variables)
    (c.in_ok-function_pass.ensures.claims ∙ ap (λ (cs : List Claim). cs ++ functions) c.new-claims.ensures)
