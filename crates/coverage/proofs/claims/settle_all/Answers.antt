use Rattle.std.proofs.Common.{◌≡◌, map, ap, sym, ◌∙◌, arith}
use Rattle.word_ops.specs.Ranges.{extent}
use Rattle.link_model.specs.Overlaps.{in_order}
use Rattle.coverage.specs.Orders.{kept_seen, meet_from}
use Rattle.coverage.proofs.Sorting.{settled}
use Rattle.coverage.proofs.Meetings.{pass_place}
use Rattle.coverage.proofs.Settled.{in_order_once, none_iff}
use Rattle.coverage.proofs.claims.settle_all.Goals as goal

pub returns-clause-order : goal.returns-clause-order
returns-clause-order c =
    settled c.number.new.kept c.sort.new.kept (omega arith) c.number.ensures.placed c.sort.ensures.all c.sort.ensures.sorted
    ∙ ap in_order c.number.ensures.same

pub returns-clause-place : goal.returns-clause-place
returns-clause-place c =
    let order : map kept_seen c.sort.new.kept ≡ in_order (map kept_seen c.args.kept.now) =
    settled c.number.new.kept c.sort.new.kept (omega arith) c.number.ensures.placed c.sort.ensures.all c.sort.ensures.sorted
    ∙ ap in_order c.number.ensures.same in
    c.first_meeting_place.ensures ∙ ap (meet_from (extent 0 0)) order ∙ sym (pass_place (map kept_seen c.args.kept.now))

pub returns-clause-settled : goal.returns-clause-settled
returns-clause-settled c =
    let cs = map kept_seen c.args.kept.now in
    let order : map kept_seen c.sort.new.kept ≡ in_order cs =
    settled c.number.new.kept c.sort.new.kept (omega arith) c.number.ensures.placed c.sort.ensures.all c.sort.ensures.sorted
    ∙ ap in_order c.number.ensures.same in
    ap in_order order ∙ in_order_once cs ∙ sym order

pub returns-clause-apart : goal.returns-clause-apart
returns-clause-apart c =
    let order : map kept_seen c.sort.new.kept ≡ in_order (map kept_seen c.args.kept.now) =
    settled c.number.new.kept c.sort.new.kept (omega arith) c.number.ensures.placed c.sort.ensures.all c.sort.ensures.sorted
    ∙ ap in_order c.number.ensures.same in
    none_iff c.first_meeting_place.result (map kept_seen c.args.kept.now)
    (c.first_meeting_place.ensures ∙ ap (meet_from (extent 0 0)) order ∙ sym (pass_place (map kept_seen c.args.kept.now)))
