use Rattle.std.proofs.Common.{[], ◌∷◌, ap, refl, ◌∙◌}
use Rattle.std.specs.List.{list_all}
use Rattle.std.proofs.lemmas.List.Folds.{list_all-append}
use Rattle.asm_shapes.specs.Units.{unit_fits}
use Rattle.test_units.proofs.lines.read_all.Goals as goal

pub loop-text-preserved : goal.loop-text-preserved
loop-text-preserved c =
    ap (list_all unit_fits) c.in-Ok-push.ensures.items ∙ (list_all-append unit_fits c.loop-text.units.items (c.in-Ok.unit ∷ [])
    ∙ rw (c.loop-text.invariant, c.in-Ok.ensures.fits) refl)
