use Rattle.std.proofs.Common.{refl, arith}
use Rattle.coverage.proofs.Sorting.{numbered_seen, numbered_places}
use Rattle.coverage.proofs.claims.number.Goals as goal

pub loop-i-preserved : goal.loop-i-preserved
loop-i-preserved c = record {
  seen = numbered_seen c.loop-i.kept c.loop-i.i _ c.index-kept-i.result _ refl c.loop-i.invariant.seen;
  places = numbered_places c.loop-i.kept c.loop-i.i _ (omega arith) refl c.loop-i.invariant.places;
}
