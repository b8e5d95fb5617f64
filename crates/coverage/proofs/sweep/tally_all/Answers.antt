use Rattle.std.proofs.Common.{arith}
use Rattle.coverage.proofs.Sweeping.{swept_start, none_stray}
use Rattle.coverage.proofs.sweep.tally_all.Goals as goal

pub loop-a-init : goal.loop-a-init
loop-a-init c = record {
  swept = swept_start c.args.image.now c.args.layout.now c.args.kept.now c.new-tally.result c.nothing_yet-here.result
      c.new-tally.ensures.seen
      (c.nothing_yet-here.ensures c.args.layout.now c.args.kept.now) c.new-tally.ensures.counted;
  most = omega arith;
  loadable = λ lt. absurd (omega arith);
}

pub returns-clause-covered : goal.returns-clause-covered
returns-clause-covered c =
    none_stray c.args.image.now c.args.layout.now c.args.kept.now c.loop-a.tally c.loop-a.here c.loop-a.a
    (c.loop-a.invariant.loadable (omega arith)) c.loop-a.invariant.swept (omega arith)
