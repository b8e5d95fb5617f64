use Rattle.std.proofs.Common.{ℕ, ◌-◌, map, sym, ap, ◌∙◌}
use Rattle.image_model.specs.Loaded.{segment_byte}
use Rattle.elf_view.specs.Views.{segment_seen}
use Rattle.coverage.specs.Orders.{kept_seen}
use Rattle.coverage.proofs.Sweeping.{swept_stretch, stray_cause}
use Rattle.coverage.proofs.sweep.add_stretch.Goals as goal

pub returns-then-is_stray-clause-err : goal.returns-then-is_stray-clause-err
returns-then-is_stray-clause-err c =
    stray_cause c.args.image.now c.args.layout.now c.args.kept.now c.args.tally.now c.args.here.now c.args.a c.byte-byte.result
    (segment_seen c.args.segment.now) c.stretch_from-stretch.result c.requires.swept
    (c.stretch_from-stretch.ensures.kinds (map kept_seen c.args.kept.now) c.here_at.ensures.holds.claim)
    (sym c.is_stray.ensures ∙ c.if-is_stray.true) c.requires.loadable c.requires.segment c.requires.inside.0 c.requires.inside.1
    (c.byte-byte.ensures ∙ ap (λ (n : ℕ). segment_byte (segment_seen c.args.segment.now) (c.args.a - n)) c.from.ensures)

pub returns-in-Ok-clause-ok : goal.returns-in-Ok-clause-ok
returns-in-Ok-clause-ok c =
    swept_stretch c.args.image.now c.args.layout.now c.args.kept.now c.args.tally.now c.add.new.self c.args.here.now
    c.here_at.result c.args.a
    c.stretch_from-stretch.result c.requires.swept c.here_at.ensures.holds
    (c.stretch_from-stretch.ensures.kinds (map kept_seen c.args.kept.now) c.here_at.ensures.holds.claim)
    (sym c.is_stray.ensures ∙ c.if-is_stray.false) c.in-Ok.ensures.seen c.in-Ok.ensures.counted
