use Rattle.std.proofs.Common.{◌≡◌, map}
use Rattle.coverage.specs.Orders.{kept_seen, ArePlaced}
use Rattle.coverage.proofs.claims.number.Given as goal

pub record Numbered (same placed : Type 0) : Type 0 where
  pub seen : same
  pub places : placed

abbrev pub invariant-loop-i : goal.invariant-loop-i
invariant-loop-i l = Numbered (map kept_seen l.kept ≡ map kept_seen l.initial.kept) (ArePlaced l.kept l.i)
