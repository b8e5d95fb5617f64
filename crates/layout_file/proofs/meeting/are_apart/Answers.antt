use Rattle.std.proofs.Common.{map, ◌<◌, ◌≤◌, length, arith}
use Rattle.std.proofs.lemmas.List.{length-map}
use Rattle.std.proofs.lemmas.Result.{err_from_is_err_and}
use Rattle.word_ops.specs.Seen.{extent_of}
use Rattle.ordered_tests.specs.Checks.{first_fault}
use Rattle.ordered_tests.proofs.Answers.{number_left, number_ends, numbers_done}
use Rattle.layout_file.specs.LayoutFile.{earlier_tests, apart_tests}
use Rattle.layout_file.specs.Errors.{told}
use Rattle.layout_file.proofs.meeting.are_apart.Goals as goal

pub returns-in_err-meets_none_before : goal.returns-in_err-meets_none_before
returns-in_err-meets_none_before c =
    let ranges = map extent_of c.args.ranges.now in
    let below : c.loop-later.later < length ranges = rw length-map (omega (arith, c.loop-later-test.true)) in
    let p = err_from_is_err_and c.from_residual.result c.from_residual.ensures.1 in
    rw (p.1, p.2) (number_ends (earlier_tests ranges) c.loop-later.later (length ranges) (first_fault (apart_tests ranges))
    (told c.in_err-meets_none_before.field-0.0) below c.in_err-meets_none_before.ensures c.loop-later.invariant)

pub loop-later-preserved : goal.loop-later-preserved
loop-later-preserved c =
    let ranges = map extent_of c.args.ranges.now in
    let below : c.loop-later.later < length ranges = rw length-map (omega (arith, c.loop-later-test.true)) in
    number_left (earlier_tests ranges) c.loop-later.later (length ranges) (first_fault (apart_tests ranges)) below
    c.in_ok-meets_none_before.ensures c.loop-later.invariant

pub returns : goal.returns
returns c =
    let ranges = map extent_of c.args.ranges.now in
    let most : length ranges ≤ c.loop-later.later = rw length-map (omega (arith, c.loop-later-test.false)) in
    numbers_done (earlier_tests ranges) c.loop-later.later (length ranges) (first_fault (apart_tests ranges)) most c.loop-later.invariant
