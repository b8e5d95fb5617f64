use Rattle.std.proofs.Common.{◌≡◌, false, List, sym, ap, ◌∙◌}
use Rattle.std.specs.Prelude.{find}
use Rattle.image_model.specs.Image.{Segment}
use Rattle.image_model.specs.Loaded.{covers}
use Rattle.flat_mem.proofs.Regions.{first_region, region_found, region_none}
use Rattle.flat_mem.proofs.memory.FlatMem.region.Goals as goal

pub returns-in-Some : goal.returns-in-Some
returns-in-Some c =
    let m = c.self.inside in
    let a = c.args.a in
    let ys : List Segment = m.segments.items in
    let off : covers a m.stack ≡ false = sym c.covers.ensures ∙ c.if-covers.false in
    let held = (rw c.from.ensures at c.in-Some.ensures.held) in
    let first = first_region a c.in-Some.i m.loaded.segments ys c.self.invariant.extents c.self.invariant.loadable.separate
    c.in-Some.ensures.within held in
    region_found a c.in-Some.i m.stack c.index.result.now ys off first c.index.ensures ∙ ap (find (covers a)) c.self.view_is

pub returns-in-None : goal.returns-in-None
returns-in-None c =
    let m = c.self.inside in
    let off : covers c.args.a m.stack ≡ false = sym c.covers.ensures ∙ c.if-covers.false in
    let none = (rw c.from.ensures at c.in-None.ensures.none) in
    sym (region_none m.loaded c.args.a m.stack m.segments.items off c.self.invariant none) ∙ ap (find (covers c.args.a)) c.self.view_is
