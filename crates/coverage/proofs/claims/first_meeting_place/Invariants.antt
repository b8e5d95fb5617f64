use Rattle.std.proofs.Common.{◌≡◌, ◌+◌, ℕ, map, drop}
use Rattle.std.specs.Prelude.{option_map}
use Rattle.word_ops.specs.Ranges.{extent}
use Rattle.coverage.specs.Orders.{kept_seen, meet_from}
use Rattle.coverage.proofs.claims.first_meeting_place.Given as goal

abbrev pub invariant-loop-j : goal.invariant-loop-j
invariant-loop-j l =
    option_map (λ (i : ℕ). i + l.j) (meet_from (extent l.lo l.hi) (map kept_seen (drop l.j l.kept)))
    ≡ meet_from (extent 0 0) (map kept_seen l.kept)
