use Rattle.std.proofs.Common.{◌≡◌, Some, sym, ap, ◌∙◌}
use Rattle.std.specs.Prelude.{slice_get}
use Rattle.image_model.specs.Image.{Image, image_of}
use Rattle.elf_view.specs.Views.{segment_seen}
use Rattle.elf_view.proofs.LentLemmas.{segment_part}
use Rattle.elf_view.proofs.view.ElfView.segment.Goals as goal

pub returns-clause-lent : goal.returns-clause-lent
unfolding image_of
returns-clause-lent c =
    let v = c.args.self.now in
    let shown : slice_get v.segments c.args.i ≡ Some (segment_seen c.segment.result) = ap (λ
    (x : Image). slice_get x.segments c.args.i) (sym c.self.view_is) ∙ c.segment.ensures.shown in
    segment_part v c.args.i (segment_seen c.segment.result) shown
