use Rattle.std.proofs.Common.{◌≡◌, ◌<◌, length, map, drop}
use Rattle.std.specs.Prelude.{IfSome}
use Rattle.ordered_tests.specs.Checks.{first_fault}
use Rattle.link_model.specs.Overlaps.{no_claim, overlap_checks}
use Rattle.coverage.specs.Orders.{kept_seen, claim_before}
use Rattle.coverage.proofs.claims.lowest_meeting.Given as goal

abbrev pub invariant-loop-j : goal.invariant-loop-j
invariant-loop-j l = record {
  within : IfSome l.before (λ i. i < length l.kept);
  left : first_fault (overlap_checks (claim_before l.kept l.before) (map kept_seen (drop l.j l.kept)))
      ≡ first_fault (overlap_checks no_claim (map kept_seen l.kept));
}
