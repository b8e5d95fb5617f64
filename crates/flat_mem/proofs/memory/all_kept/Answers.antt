use Rattle.std.proofs.Common.{List, ◌∷◌, ◌++◌, [], map, take, ap, sym, ◌∙◌}
use Rattle.image_model.specs.Image.{Segment}
use Rattle.flat_mem.specs.Built.{kept}
use Rattle.flat_mem.proofs.Kept.{map_more}
use Rattle.flat_mem.proofs.memory.all_kept.Goals as goal

pub loop-i-preserved : goal.loop-i-preserved
loop-i-preserved c =
    let segments = c.args.view.now.segments in
    c.in_ok-push.ensures.items
    ∙ ap (λ (l : List Segment). l ++ c.in_ok-region.region ∷ []) c.loop-i.invariant
    ∙ ap (λ (r : Segment). map kept (take c.loop-i.i segments) ++ r ∷ []) c.in_ok-region.ensures
    ∙ sym (map_more kept segments c.loop-i.i _ c.segment.ensures.shown)
