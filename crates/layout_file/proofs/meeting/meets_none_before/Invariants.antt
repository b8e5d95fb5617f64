use Rattle.std.proofs.Common.{◌≡◌, map}
use Rattle.word_ops.specs.Seen.{extent_of}
use Rattle.ordered_tests.specs.Checks.{first_fault, each_check, from_to}
use Rattle.layout_file.specs.LayoutFile.{pair_test, earlier_tests}
use Rattle.layout_file.proofs.meeting.meets_none_before.Given as goal

abbrev pub invariant-loop-earlier : goal.invariant-loop-earlier
invariant-loop-earlier l =
    first_fault (each_check (pair_test (map extent_of l.ranges) l.later) (from_to l.earlier l.later)) ≡ first_fault
    (earlier_tests (map extent_of l.ranges) l.later)
