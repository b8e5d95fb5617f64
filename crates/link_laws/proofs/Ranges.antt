-- The ranges of a layout: which addresses they keep apart.
use Rattle.std.proofs.Common.{◌≡◌, ℕ, ◌<◌, ◌≤◌, Bool, true, false, ◌&&◌, nat_lt, nat_le, [], ◌∷◌, ◌++◌, map, arith}
use Rattle.std.proofs.lemmas.Bool.{and_parts, and_from, leb-true, ltb-true, le-leb, lt-ltb}
use Rattle.std.proofs.lemmas.Bool.Decides.{nat_tests}
use Rattle.limits.specs.declared.TheConstants.{MOST_RANGE_END}
use Rattle.layout_model.specs.declared.kind.AreaKind.{AreaKind}
use Rattle.layout_model.specs.Facts.{AreApart, IsRange, IsLayout}
use Rattle.layout_model.specs.Layouts.{Area, Layout, is_foreign, area_range, stop_range}
use Rattle.ordered_tests.specs.Lists.{EachOf}
use Rattle.word_ops.specs.Ranges.{Extent, holds, is_inside, meets}
use Rattle.ordered_tests.proofs.Lists.{each_any, each_both, each_left, each_of_map, each_none, each_right, each_weak, pairs_across}
use Rattle.ordered_tests.proofs.Lists.{pairs_right}
use Rattle.code_model.specs.Areas.{is_in_one_area}

-- of two ranges that do not meet, only one holds an address
pub one_holds : (p q : Extent) (a : ℕ) → meets p q ≡ false → holds a p ≡ true → holds a q ≡ false
one_holds p q a m h = grind (arith, nat_tests)

pub other_holds : (p q : Extent) (a : ℕ) → meets p q ≡ false → holds a q ≡ true → holds a p ≡ false
other_holds p q a m h = grind (arith, nat_tests)

-- ---- what an area and a foreign range keep off

pub record IsAreaOf (l : Layout) (p : Extent) : Type 0 where
  pub range : IsRange p
  pub off_stack : (a : ℕ) → holds a p ≡ true → holds a l.stack ≡ false
  pub off_stop : (a : ℕ) → holds a p ≡ true → holds a (stop_range l.stop) ≡ false
  pub off_foreign : (a : ℕ) → holds a p ≡ true → is_foreign l a ≡ false

pub record IsForeignOf (l : Layout) (p : Extent) : Type 0 where
  pub range : IsRange p
  pub off_stack : (a : ℕ) → holds a p ≡ true → holds a l.stack ≡ false
  pub off_stop : (a : ℕ) → holds a p ≡ true → holds a (stop_range l.stop) ≡ false

abbrev AreaAt : Layout → Area → Type 0
AreaAt l area = IsAreaOf l area.range

area_of_parts : (l : Layout) (p : Extent) → IsRange p → AreApart l.stack p →
    EachOf (AreApart p) (l.foreign ++ stop_range l.stop ∷ []) → IsAreaOf l p
area_of_parts l p r off e = record {
  range = r;
  off_stack = λ a h. other_holds l.stack p a off h;
  off_stop = λ a h. one_holds p (stop_range l.stop) a (each_right (AreApart p) l.foreign (stop_range l.stop ∷ []) e).0 h;
  off_foreign = λ a h. each_none (AreApart p) (holds a) l.foreign (each_left (AreApart p) l.foreign (stop_range l.stop ∷ []) e)
      (λ q m. one_holds p q a m h);
}

foreign_of_parts : (l : Layout) (p : Extent) → IsRange p → AreApart l.stack p → EachOf (AreApart p) (stop_range l.stop ∷ []) →
    IsForeignOf l p
foreign_of_parts l p r off e = record {
  range = r;
  off_stack = λ a h. other_holds l.stack p a off h;
  off_stop = λ a h. one_holds p (stop_range l.stop) a e.0 h;
}

pub areas_of : (l : Layout) → IsLayout l → EachOf (AreaAt l) l.areas
areas_of l k =
    let rest = l.foreign ++ stop_range l.stop ∷ [] in
    let rs = map area_range l.areas in
    let off : EachOf (λ (area : Area). AreApart l.stack area.range) l.areas =
    each_of_map (AreApart l.stack) area_range l.areas (each_left (AreApart l.stack) rs rest k.apart.0) in
    let others : EachOf (λ (area : Area). EachOf (AreApart area.range) rest) l.areas =
    each_of_map (λ p. EachOf (AreApart p) rest) area_range l.areas (pairs_across AreApart rs rest k.apart.1) in
    each_weak _ (AreaAt l) l.areas (λ x h. area_of_parts l x.range h.0 h.1.0 h.1.1)
    (each_both _ _ l.areas k.parts.areas (each_both _ _ l.areas off others))

pub foreign_of : (l : Layout) → IsLayout l → EachOf (IsForeignOf l) l.foreign
foreign_of l k =
    let last = stop_range l.stop ∷ [] in
    let rs = map area_range l.areas in
    let off : EachOf (AreApart l.stack) l.foreign =
    each_left (AreApart l.stack) l.foreign last (each_right (AreApart l.stack) rs (l.foreign ++ last) k.apart.0) in
    let others : EachOf (λ p. EachOf (AreApart p) last) l.foreign =
    pairs_across AreApart l.foreign last (pairs_right AreApart rs (l.foreign ++ last) k.apart.1) in
    each_weak _ (IsForeignOf l) l.foreign (λ x h. foreign_of_parts l x h.0 h.1.0 h.1.1)
    (each_both _ _ l.foreign k.parts.foreign (each_both _ _ l.foreign off others))

-- ---- a range inside an area

pub record IsAreaRange (l : Layout) (p : Extent) : Type 0 where
  pub low : 1 ≤ p.lo
  pub high : p.hi ≤ MOST_RANGE_END
  pub off_stack : (a : ℕ) → holds a p ≡ true → holds a l.stack ≡ false
  pub off_stop : (a : ℕ) → holds a p ≡ true → holds a (stop_range l.stop) ≡ false
  pub off_foreign : (a : ℕ) → holds a p ≡ true → is_foreign l a ≡ false

inside_holds : (p q : Extent) (a : ℕ) → p.lo ≤ q.lo → q.hi ≤ p.hi → holds a q ≡ true → holds a p ≡ true
inside_holds p q a lo hi h = grind (arith, nat_tests)

pub range_in_area : (l : Layout) (k : IsLayout l) (kind : AreaKind → Bool) (q : Extent) → is_in_one_area l kind q ≡ true → IsAreaRange l q
range_in_area l k kind q h =
    let found = each_any (AreaAt l) (λ (area : Area). kind area.kind && is_inside q area.range) l.areas (areas_of l k) h in
    let area : Area = found.0 in
    let ok : AreaAt l area = found.2 in
    let test = and_parts (kind area.kind) (is_inside q area.range) found.1 in
    let ends = and_parts (nat_le area.range.lo q.lo) (nat_le q.hi area.range.hi) test.1 in
    let lo = leb-true area.range.lo q.lo ends.0 in
    let hi = leb-true q.hi area.range.hi ends.1 in
    let some = ok.range.some in let most = ok.range.most in
    record {
      low = omega arith;
      high = omega arith;
      off_stack = λ a t. ok.off_stack a (inside_holds area.range q a lo hi t);
      off_stop = λ a t. ok.off_stop a (inside_holds area.range q a lo hi t);
      off_foreign = λ a t. ok.off_foreign a (inside_holds area.range q a lo hi t);
    }

pub foreign_at : (l : Layout) (k : IsLayout l) (a : ℕ) → is_foreign l a ≡ true → (p : Extent) × (holds a p ≡ true) × IsForeignOf l p
foreign_at l k a h = each_any (IsForeignOf l) (holds a) l.foreign (foreign_of l k) h

pub holds_parts : (a : ℕ) (p : Extent) → holds a p ≡ true → (p.lo ≤ a) × (a < p.hi)
holds_parts a p h = let t = and_parts (nat_le p.lo a) (nat_lt a p.hi) h in (leb-true p.lo a t.0, ltb-true a p.hi t.1)

pub holds_from : (a : ℕ) (p : Extent) → p.lo ≤ a → a < p.hi → holds a p ≡ true
holds_from a p x y = and_from (nat_le p.lo a) (nat_lt a p.hi) (le-leb p.lo a x) (lt-ltb a p.hi y)
