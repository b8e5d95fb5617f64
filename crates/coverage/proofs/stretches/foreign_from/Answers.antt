use Rattle.std.proofs.Common.{sym, ◌∙◌, arith}
use Rattle.std.proofs.lemmas.Option.{get_or_from_slice_get}
use Rattle.word_ops.specs.Ranges.{Extent}
use Rattle.word_ops.specs.Seen.{extent_of}
use Rattle.coverage.proofs.Outside.{outside_more}
use Rattle.coverage.proofs.LayoutStretches.{foreign_at, no_foreign}
use Rattle.coverage.proofs.stretches.foreign_from.Goals as goal

pub returns-then-is_in-clause-holds : goal.returns-then-is_in-clause-holds
returns-then-is_in-clause-holds c =
    foreign_at c.args.layout.now c.loop-i.i c.args.a (extent_of c.foreign_range-range.result) c.foreign_range-range.ensures.value
    (sym c.is_in.ensures ∙ c.if-is_in.true)

pub loop-i-preserved : goal.loop-i-preserved
loop-i-preserved c =
    let rs = c.args.layout.now.foreign in
    let r = extent_of c.foreign_range-range.result in record {
      some = c.end_before-end.ensures.some c.loop-i.invariant.some;
      outside = outside_more (λ (range : Extent). range) rs c.loop-i.i c.args.a c.loop-i.end c.end_before-end.result r
          c.loop-i.invariant.outside c.end_before-end.ensures.most
          (λ d. get_or_from_slice_get rs c.loop-i.i r d c.foreign_range-range.ensures.value)
          (sym c.is_in.ensures ∙ c.if-is_in.false) c.end_before-end.ensures.before;
    }

pub returns-clause-holds : goal.returns-clause-holds
returns-clause-holds c = no_foreign c.args.layout.now c.args.a c.loop-i.end (λ k d lt. c.loop-i.invariant.outside k d (omega arith))
