use Rattle.std.proofs.Common.{◌≡◌, refl, rules, arith}
use Rattle.std.proofs.lemmas.Grind.{common_steps}
use Rattle.std.proofs.lemmas.Result.{err_from_is_err_and}
use Rattle.ordered_tests.specs.Checks.{first_fault}
use Rattle.link_model.specs.Candidates.{Inputs}
use Rattle.link_model.specs.Passes.{external_pass}
use Rattle.name_addresses.specs.Given.{given}
use Rattle.name_addresses.specs.Keys.{declared}
use Rattle.key_passes.proofs.Walks.{external_tests, key_passes, key_fails}
use Rattle.key_passes.proofs.externals.external_pass.Goals as goal

pub loop-k-init : goal.loop-k-init
unfolding external_pass
loop-k-init g c = record { places = refl; seen = λ a. grind (arith, common_steps) }

pub loop-k-preserved : goal.loop-k-preserved
loop-k-preserved g c =
    let b = c.args.bound.now in
    let i : Inputs = given b.segments.now b.layout.now (g.P.KeyedProgram.program b.program.now) in
    record {
      places = key_passes i (external_tests i b.addresses.now) (first_fault (external_pass i b.addresses.now)) c.loop-k.k
          (declared c.key-key.result) c.key-key.ensures.declared
          c.in_ok-match_key.ensures.places c.loop-k.invariant.places;
      seen = c.in_ok-match_key.ensures.seen;
    }

pub returns-in_err-match_key : goal.returns-in_err-match_key
returns-in_err-match_key g c =
    let b = c.args.bound.now in
    let i : Inputs = given b.segments.now b.layout.now (g.P.KeyedProgram.program b.program.now) in
    let p = err_from_is_err_and c.from_residual.result c.from_residual.ensures.1 in
    rw (p.1, p.2) (key_fails i (external_tests i b.addresses.now) (first_fault (external_pass i b.addresses.now)) c.loop-k.k
    (declared c.key-key.result) (Unit {0}) c.in_err-match_key.field-0.0 c.key-key.ensures.declared
    c.in_err-match_key.ensures.places c.loop-k.invariant.places)
