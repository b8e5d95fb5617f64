use Rattle.std.proofs.Common.{rules, sym, subst}
use Rattle.image_model.specs.Image.{Image}
use Rattle.word_ops.specs.Seen.{extent_of}
use Rattle.flat_mem.specs.Built.{AreRegionsOf}
use Rattle.flat_mem.proofs.Regions.{regions_kept}
use Rattle.flat_mem.proofs.ImageLaw.{built_holds}
use Rattle.flat_mem.proofs.memory.FlatMem.build.Goals as goal

pub invariant_of-result : goal.invariant_of-result
invariant_of-result c =
    subst (λ (v : Image). AreRegionsOf v c.in_ok-segments.segments.items) (sym c.in_ok-loaded.ensures)
    (regions_kept c.args.view.now c.in_ok-segments.segments.items c.in_ok-segments.ensures.kept c.all_kept.ensures.loadable)

pub returns-clause-holds : goal.returns-clause-holds
returns-clause-holds c =
    let v = c.args.view.now in
    built_holds v (extent_of c.args.stack.now) c.args.bytes.now _ c.requires.size (search rules)
