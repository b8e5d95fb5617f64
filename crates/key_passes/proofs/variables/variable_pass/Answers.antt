use Rattle.std.proofs.Common.{◌≡◌, refl, rules}
use Rattle.std.proofs.lemmas.Result.{err_from_is_err_and}
use Rattle.ordered_tests.specs.Checks.{first_fault}
use Rattle.link_model.specs.Program.{keys}
use Rattle.link_model.specs.Candidates.{Inputs}
use Rattle.link_model.specs.Claims.{key_variables}
use Rattle.link_model.specs.Passes.{variable_pass}
use Rattle.name_addresses.specs.Given.{given}
use Rattle.name_addresses.specs.Keys.{declared}
use Rattle.key_passes.proofs.Walks.{variable_tests, key_passes, key_fails, claims_more}
use Rattle.key_passes.proofs.variables.variable_pass.Goals as goal

pub loop-k-init : goal.loop-k-init
unfolding variable_pass
loop-k-init g c = record { places = refl; claims = refl }

pub loop-k-preserved : goal.loop-k-preserved
loop-k-preserved g c =
    let b = c.args.bound.now in
    let bs = b.addresses.now in
    let i : Inputs = given b.segments.now b.layout.now (g.P.KeyedProgram.program b.program.now) in
    let d = declared c.key-key.result in
    let here = c.key-key.ensures.declared in
    record {
      places = key_passes i (variable_tests i bs) (first_fault (variable_pass i bs)) c.loop-k.k d here c.in_ok-match_key.ensures.places
          c.loop-k.invariant.places;
      claims = claims_more (key_variables i bs) (keys i.program.units) c.loop-k.k d _ _ _ here c.in_ok-match_key.ensures.claims
          c.loop-k.invariant.claims;
    }

pub returns-in_err-match_key-clause-places : goal.returns-in_err-match_key-clause-places
returns-in_err-match_key-clause-places g c =
    let b = c.args.bound.now in
    let i : Inputs = given b.segments.now b.layout.now (g.P.KeyedProgram.program b.program.now) in
    let p = err_from_is_err_and c.from_residual.result c.from_residual.ensures.1 in
    rw (p.1, p.2) (key_fails i (variable_tests i b.addresses.now) (first_fault (variable_pass i b.addresses.now)) c.loop-k.k
    (declared c.key-key.result) (Unit {0}) c.in_err-match_key.field-0.0 c.key-key.ensures.declared
    c.in_err-match_key.ensures.places c.loop-k.invariant.places)
