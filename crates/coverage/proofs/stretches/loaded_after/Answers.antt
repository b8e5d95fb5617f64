use Rattle.std.proofs.Common.{arith}
use Rattle.coverage.proofs.Outside.{none_loaded}
use Rattle.coverage.proofs.stretches.loaded_after.Goals as goal

pub returns-clause-none : goal.returns-clause-none
returns-clause-none c =
    none_loaded c.args.image.now c.by_address-s-items.result.now c.args.a c.loop-s.end c.by_address-s-items.ensures.sorted c.requires.none
    (λ k d lt. c.loop-s.invariant.late k d (omega arith))
