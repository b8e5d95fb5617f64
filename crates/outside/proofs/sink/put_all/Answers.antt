use Rattle.std.proofs.Common.{arith, length-drop, ℕ}
use Rattle.outside.proofs.AppendsLemmas.{appends_more}
use Rattle.outside.proofs.sink.put_all.Goals as goal

pub loop-at-preserved : goal.loop-at-preserved
loop-at-preserved g c = record {
  range = omega (arith, c.in_ok-at.ensures.bound, length-drop {A = ℕ});
  taken = appends_more _ _ _ c.args.bytes.now c.loop-at.at c.in_ok-at.field-0 c.loop-at.invariant.taken c.in_ok-at.ensures.appended;
  never_falls = omega arith;
}
