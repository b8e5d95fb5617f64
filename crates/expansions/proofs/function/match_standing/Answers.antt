use Rattle.std.proofs.Common.{sym, ◌∙◌, subst, Option}
use Rattle.code_model.specs.declared.spot.Spot.{Spot}
use Rattle.expansions.specs.Faults.{Tells}
use Rattle.expansions.proofs.Walks.{place_fails, place_passes}
use Rattle.expansions.proofs.function.match_standing.Goals as goal

pub returns-in-Some-clause-fails : goal.returns-in-Some-clause-fails
returns-in-Some-clause-fails g c =
    let s = c.args.standing.now in
    place_fails s.words c.args.layout.now (g.N.NameAddresses.address c.args.names.now) s.base c.end-end.result
    s.code.now c.place_fault.result
    c.in-Some.spot c.end-end.ensures.value (rw c.segments.ensures at c.place_fault.ensures.value) c.in-Some.is

pub returns-in-Ok-clause-passes : goal.returns-in-Ok-clause-passes
returns-in-Ok-clause-passes g c =
    let s = c.args.standing.now in
    place_passes s.words c.args.layout.now (g.N.NameAddresses.address c.args.names.now) s.base c.end-end.result
    s.code.now c.place_fault.result
    c.end-end.ensures.value (rw c.segments.ensures at c.place_fault.ensures.value) c.in_default.is
    ∙ c.in-Ok.ensures.passes

pub returns-in-Err-clause-fails : goal.returns-in-Err-clause-fails
returns-in-Err-clause-fails g c =
    let s = c.args.standing.now in
    subst (λ (first : Option Spot). Tells first c.in-Err.fault) (sym (place_passes s.words c.args.layout.now
    (g.N.NameAddresses.address c.args.names.now) s.base c.end-end.result s.code.now c.place_fault.result c.end-end.ensures.value
    (rw c.segments.ensures at c.place_fault.ensures.value) c.in_default.is)) c.in-Err.ensures.fails
