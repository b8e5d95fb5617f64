use Rattle.std.proofs.Common.{◌≡◌, map, length}
use Rattle.word_ops.specs.Seen.{extent_of}
use Rattle.ordered_tests.specs.Checks.{first_fault, each_check, from_to}
use Rattle.layout_file.specs.LayoutFile.{earlier_tests, apart_tests}
use Rattle.layout_file.proofs.meeting.are_apart.Given as goal

abbrev pub invariant-loop-later : goal.invariant-loop-later
invariant-loop-later l =
    first_fault (each_check (earlier_tests (map extent_of l.ranges)) (from_to l.later (length (map extent_of l.ranges)))) ≡ first_fault
    (apart_tests (map extent_of l.ranges))
