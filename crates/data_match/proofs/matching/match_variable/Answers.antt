use Rattle.std.proofs.Common.{rules, sym}
use Rattle.data_match.specs.Faults.{spot_of}
use Rattle.data_match.proofs.Whole.{bytes_decide, place_decides}
use Rattle.data_match.proofs.matching.match_variable.Goals as goal

pub returns-in-Some-clause-first : goal.returns-in-Some-clause-first
returns-in-Some-clause-first g c =
    sym (bytes_decide c.args.segments.now c.args.layout.now (g.F.NameAddresses.address c.args.names.now) c.args.alignment c.args.address
    c.args.variable.now (spot_of c.args.address c.in-Some.fault) (search rules))

pub returns-in-Some-place_fault-clause-first : goal.returns-in-Some-place_fault-clause-first
returns-in-Some-place_fault-clause-first g c =
    let first = place_decides c.args.segments.now c.args.layout.now (g.F.NameAddresses.address c.args.names.now) c.args.alignment
    c.args.address c.args.variable.now (search rules) in
    search rules

pub returns-in-None-clause-first : goal.returns-in-None-clause-first
returns-in-None-clause-first g c =
    let first = place_decides c.args.segments.now c.args.layout.now (g.F.NameAddresses.address c.args.names.now) c.args.alignment
    c.args.address c.args.variable.now (search rules) in
    search rules
