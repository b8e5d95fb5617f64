use Rattle.std.proofs.Common.{arith}
use Rattle.coverage.proofs.Sweeping.{swept_gap}
use Rattle.coverage.proofs.sweep.add_from.Goals as goal

pub returns-in-None-clause-ok : goal.returns-in-None-clause-ok
returns-in-None-clause-ok c =
    swept_gap c.args.image.now c.args.layout.now c.args.kept.now c.args.tally.now c.args.here.now c.args.a c.loaded_after.result
    c.requires.swept (omega arith) c.loaded_after.ensures.none
