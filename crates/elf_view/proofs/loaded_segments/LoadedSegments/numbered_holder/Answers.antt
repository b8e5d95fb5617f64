use Rattle.std.proofs.Common.{◌≡◌, ℕ, List, ◌<◌, ◌-◌, ◌+◌, length, map, get_or, arith, sym, ap, ◌∙◌}
use Rattle.std.proofs.lemmas.List.{length-map, get_or-map}
use Rattle.image_model.specs.Image.{Image}
use Rattle.image_model.specs.Loaded.{segment_of}
use Rattle.elf_view.proofs.ByAddressLemmas.{holder_zero, holder_found, holder_none, range_in}
use Rattle.elf_view.specs.ByAddress.{numbered_seen}
use Rattle.elf_view.specs.declared.loaded_segments.NumberedSegment.{NumberedSegment}
use Rattle.elf_view.proofs.loaded_segments.LoadedSegments.numbered_holder.Goals as goal

pub returns-then-n-eq0-clause-found : goal.returns-then-n-eq0-clause-found
returns-then-n-eq0-clause-found c =
    let ys = map numbered_seen c.self.inside.segments.items in
    let point = (rw c.deref.ensures.value at c.started-n.ensures.point) in
    let none = (rw c.if-n-eq0.true at point) in
    sym (holder_zero c.self.inside.view ys c.args.a c.self.invariant.seen none) ∙ ap (λ (v : Image). segment_of v c.args.a) c.self.view_is

-- the segment at a place, as contracts see it
seen_at : (xs : List NumberedSegment) (i : ℕ) (s : NumberedSegment) → i < length xs → s ≡ get_or xs i s →
    get_or (map numbered_seen xs) i (numbered_seen s) ≡ numbered_seen s
seen_at xs i s lt h = get_or-map numbered_seen xs i s (numbered_seen s) lt ∙ ap numbered_seen (sym h)

seen_within : (xs : List NumberedSegment) (i : ℕ) → i < length xs → i < length (map numbered_seen xs)
seen_within xs i lt = omega (arith, length-map xs numbered_seen)

pub returns-then-covers-clause-found : goal.returns-then-covers-clause-found
returns-then-covers-clause-found c =
    let xs = c.self.inside.segments.items in
    let i = c.started-n.result - 1 in
    let s = c.index.result.now in
    let lt : i < length xs = omega (arith, ap length c.deref.ensures.value) in
    sym (holder_found c.self.inside.view (map numbered_seen xs) c.args.a i (numbered_seen s) c.self.invariant.seen (seen_within xs i lt)
    (seen_at xs i s lt c.index.ensures) (sym c.covers.ensures ∙ c.if-covers.true))
    ∙ ap (λ (v : Image). segment_of v c.args.a) c.self.view_is

pub returns-then-covers-clause-range : goal.returns-then-covers-clause-range
returns-then-covers-clause-range c =
    let xs = c.self.inside.segments.items in
    let i = c.started-n.result - 1 in
    let lt : i < length xs = omega (arith, ap length c.deref.ensures.value) in
    range_in c.self.inside.view (map numbered_seen xs) i (numbered_seen c.index.result.now) c.self.invariant.seen (seen_within xs i lt)
    (seen_at xs i c.index.result.now lt c.index.ensures)

pub returns-else-covers-clause-found : goal.returns-else-covers-clause-found
returns-else-covers-clause-found c =
    let xs = c.self.inside.segments.items in
    let i = c.started-n.result - 1 in
    let s = c.index.result.now in
    let lt : i < length xs = omega (arith, ap length c.deref.ensures.value) in
    let same : c.started-n.result ≡ i + 1 = omega arith in
    let point = (rw c.deref.ensures.value at c.started-n.ensures.point) in
    sym (holder_none c.self.inside.view (map numbered_seen xs) c.args.a i (numbered_seen s) c.self.invariant.seen (seen_within xs i lt)
    (seen_at xs i s lt c.index.ensures) (sym c.covers.ensures ∙ c.if-covers.false) (rw same at point))
    ∙ ap (λ (v : Image). segment_of v c.args.a) c.self.view_is
