use Rattle.std.proofs.Common.{◌≡◌, ◌-◌}
use Rattle.std.specs.List.{list_all}
use Rattle.ordered_tests.specs.Checks.{from_to}
use Rattle.code_model.specs.Addresses.{is_writable_at}
use Rattle.data_match.proofs.place.is_writable_range.Given as goal

abbrev pub invariant-loop-a : goal.invariant-loop-a
invariant-loop-a l =
    list_all (is_writable_at l.segments) (from_to l.a l.range.hi) ≡ list_all (is_writable_at l.segments) (from_to l.range.lo l.range.hi)

abbrev pub decreases-loop-a : goal.decreases-loop-a
decreases-loop-a l = l.range.hi - l.a
