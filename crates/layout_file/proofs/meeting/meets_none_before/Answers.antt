use Rattle.std.proofs.Common.{map, sym, ap, ◌∙◌, ◌<◌, length, arith}
use Rattle.word_ops.specs.Seen.{extent_of}
use Rattle.ordered_tests.specs.Checks.{first_fault}
use Rattle.ordered_tests.specs.Steps.{unless}
use Rattle.ordered_tests.proofs.Answers.{numbers_done}
use Rattle.layout_file.specs.LayoutFile.{pair_test, earlier_tests}
use Rattle.layout_file.proofs.Meetings.{pair_passes, pair_fails}
use Rattle.layout_file.proofs.meeting.meets_none_before.Goals as goal

pub returns-then-meets : goal.returns-then-meets
returns-then-meets c =
    let some : c.loop-earlier.earlier < length c.args.ranges.now = omega (arith, c.loop-earlier-test.true, c.requires.there) in
    ap unless (sym c.loop-earlier.invariant ∙ pair_fails c.args.ranges.now c.loop-earlier.earlier c.args.later
    c.index-ranges-earlier.result c.index-ranges-later.result c.loop-earlier-test.true c.requires.there some c.index-ranges-earlier.is
    c.index-ranges-later.is (sym c.if-meets.ensures.value))

pub loop-earlier-preserved : goal.loop-earlier-preserved
loop-earlier-preserved c =
    let some : c.loop-earlier.earlier < length c.args.ranges.now = omega (arith, c.loop-earlier-test.true, c.requires.there) in
    sym (pair_passes c.args.ranges.now c.loop-earlier.earlier c.args.later c.index-ranges-earlier.result c.index-ranges-later.result
    c.loop-earlier-test.true c.requires.there some c.index-ranges-earlier.is c.index-ranges-later.is (sym c.if-meets.ensures.value))
    ∙ c.loop-earlier.invariant

pub returns : goal.returns
returns c =
    let ranges = map extent_of c.args.ranges.now in
    numbers_done (pair_test ranges c.args.later) c.loop-earlier.earlier c.args.later (first_fault (earlier_tests ranges c.args.later))
    c.loop-earlier-test.false c.loop-earlier.invariant
