use Rattle.std.proofs.Common.{sym, ◌∙◌, ap, List, ◌++◌, [], ◌∷◌}
use Rattle.std.proofs.lemmas.List.{map-append}
use Rattle.std.proofs.lemmas.List.Elements.{All-push}
use Rattle.image_model.specs.Image.{Segment}
use Rattle.elf_view.specs.ByAddress.{IsNumbered, numbered_seen}
use Rattle.elf_view.specs.declared.loaded_segments.NumberedSegment.{NumberedSegment}
use Rattle.elf_view.proofs.ByAddressLemmas.{take_one}
use Rattle.elf_view.proofs.loaded_segments.all_segments.Goals as goal

pub loop-number-preserved : goal.loop-number-preserved
loop-number-preserved c =
    let segments = c.args.view.now.segments in
    let before = c.loop-number.list.items in
    let x : NumberedSegment = record { segment = c.segment-segment.result; number = c.loop-number.number } in
    rw c.in_ok-push.ensures.items (record {
      seen =
          map-append numbered_seen before (x ∷ [])
          ∙ (ap (λ (xs : List Segment). xs ++ numbered_seen x ∷ []) c.loop-number.invariant.seen
          ∙ sym (take_one segments c.loop-number.number _ c.segment-segment.ensures.shown));
      numbers = All-push (IsNumbered segments) before x c.loop-number.invariant.numbers c.segment-segment.ensures.shown;
    })
