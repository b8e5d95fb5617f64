use Rattle.std.proofs.Common.{◌≡◌, List, ◌∷◌, false, slice_set, get_or, sym, ap, ◌∙◌}
use Rattle.image_model.specs.Image.{Segment}
use Rattle.image_model.specs.Loaded.{covers}
use Rattle.flat_mem.specs.Memory.{set_byte, written}
use Rattle.flat_mem.proofs.Regions.{IsFirst, first_region, region_none, region_set, regions_set, set_none}
use Rattle.flat_mem.proofs.memory.FlatMem.set.Goals as goal

pub returns-in_default : goal.returns-in_default
returns-in_default c =
    let m = c.self.inside in
    let a = c.args.a in
    let off : covers a m.stack ≡ false = sym c.covers.ensures ∙ c.if-covers.false in
    let none = (rw c.from.ensures at c.in_default.ensures.none) in
    let kept = set_none a c.args.byte (m.stack ∷ m.segments.items)
    (region_none m.loaded a m.stack m.segments.items off c.self.invariant none) in
    sym c.self.view_is ∙ sym kept ∙ ap (λ (l : List Segment). set_byte l a c.args.byte) c.self.view_is

pub set-requires-2 : goal.set-requires-2
set-requires-2 c =
    let m = c.self.inside in
    let held = (rw c.from.ensures at c.in-Some.ensures.held) in
    let first : IsFirst c.args.a c.in-Some.i m.segments.items =
    first_region c.args.a c.in-Some.i m.loaded.segments m.segments.items c.self.invariant.extents c.self.invariant.loadable.separate
    c.in-Some.ensures.within held in
    ap (covers c.args.a) c.index_mut-r.ensures.value ∙ first.here c.index_mut-r.result.now

pub invariant_of-self-2 : goal.invariant_of-self-2
invariant_of-self-2 c =
    let m = c.self.inside in
    let i = c.in-Some.i in
    let d = c.index_mut-r.result.now in
    let new : c.set-2.new.self ≡ written (get_or m.segments.items i d) c.args.a c.args.byte =
    c.set-2.ensures ∙ ap (λ (s : Segment). written s c.args.a c.args.byte) c.index_mut-r.ensures.value in
    rw new (regions_set m.loaded c.args.a c.args.byte i m.segments.items d c.self.invariant)

pub returns : goal.returns
returns c =
    let m = c.self.inside in
    let a = c.args.a in
    let i = c.in-Some.i in
    let d = c.index_mut-r.result.now in
    let ys : List Segment = m.segments.items in
    let off : covers a m.stack ≡ false = sym c.covers.ensures ∙ c.if-covers.false in
    let held = (rw c.from.ensures at c.in-Some.ensures.held) in
    let first : IsFirst a i ys =
    first_region a i m.loaded.segments ys c.self.invariant.extents c.self.invariant.loadable.separate c.in-Some.ensures.within held in
    ap (λ (s : Segment). m.stack ∷ slice_set ys i s) c.set-2.ensures
    ∙ region_set a c.args.byte i m.stack d ys off first c.index_mut-r.ensures.value
    ∙ ap (λ (l : List Segment). set_byte l a c.args.byte) c.self.view_is
