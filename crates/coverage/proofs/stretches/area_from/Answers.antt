use Rattle.std.proofs.Common.{sym, ap, ◌∙◌, arith}
use Rattle.std.proofs.lemmas.Option.{get_or_from_slice_get}
use Rattle.layout_model.specs.Layouts.{area_range}
use Rattle.layout_file.specs.Seen.{area_seen}
use Rattle.coverage.proofs.Outside.{outside_more}
use Rattle.coverage.proofs.LayoutStretches.{area_at, no_area}
use Rattle.coverage.proofs.stretches.area_from.Goals as goal

pub returns-then-is_in-clause-holds : goal.returns-then-is_in-clause-holds
returns-then-is_in-clause-holds c =
    area_at c.args.layout.now c.loop-i.i c.args.a (area_seen c.area-area.result) _ c.area-area.ensures.value
    (sym c.is_in.ensures ∙ c.if-is_in.true) c.is_code.ensures

pub loop-i-preserved : goal.loop-i-preserved
loop-i-preserved c =
    let xs = c.args.layout.now.areas in
    let x = area_seen c.area-area.result in record {
      some = c.end_before-end.ensures.some c.loop-i.invariant.some;
      outside = outside_more area_range xs c.loop-i.i c.args.a c.loop-i.end c.end_before-end.result (area_range x)
          c.loop-i.invariant.outside c.end_before-end.ensures.most
          (λ d. ap area_range (get_or_from_slice_get xs c.loop-i.i x d c.area-area.ensures.value))
          (sym c.is_in.ensures ∙ c.if-is_in.false) c.end_before-end.ensures.before;
    }

pub returns-clause-holds : goal.returns-clause-holds
returns-clause-holds c = no_area c.args.layout.now c.args.a c.loop-i.end (λ k d lt. c.loop-i.invariant.outside k d (omega arith))
