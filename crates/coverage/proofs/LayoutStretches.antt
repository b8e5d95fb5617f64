-- Stretches in a layout.
use Rattle.std.proofs.Common.{◌≡◌, ℕ, ◌+◌, ◌<◌, ◌≤◌, Bool, true, false, ◌&&◌, List, length, get_or, take, Some, refl, ap, subst, ◌∙◌, arith}
use Rattle.std.specs.Prelude.{slice_get}
use Rattle.std.specs.List.{list_any}
use Rattle.std.proofs.lemmas.Bool.Decides.{nat_tests}
use Rattle.std.proofs.lemmas.List.Folds.{list_any_at, list_any_more}
use Rattle.std.proofs.lemmas.Option.{get_or_from_slice_get, slice_get_within}
use Rattle.word_ops.specs.Ranges.{Extent, extent, holds, is_inside}
use Rattle.layout_model.specs.declared.kind.AreaKind.{AreaKind}
use Rattle.layout_model.specs.declared.kind.AreaKind.TheVariants as areas
use Rattle.layout_model.specs.Layouts.{Area, Layout, area_holds, area_range, is_foreign}
use Rattle.code_model.specs.Areas.{is_code_kind, is_in_one_area}
use Rattle.link_model.specs.Kinds.{is_in_area}
use Rattle.link_laws.proofs.Items.{any_get}
use Rattle.coverage.specs.Stretches.{AreOutside, HoldsForeign, HoldsArea}
use Rattle.coverage.proofs.Outside.{outside_none}

in_range : (a b : ℕ) (r : Extent) → holds a r ≡ true → a ≤ b → b < r.hi → holds b r ≡ true
in_range a b r h low high = grind (arith, nat_tests)

pub foreign_at : (l : Layout) (i a : ℕ) (r : Extent) → slice_get l.foreign i ≡ Some r → holds a r ≡ true →
    HoldsForeign l a (record { is_foreign = true; end = r.hi })
foreign_at l i a r at h b low high = any_get (holds b) l.foreign i r at (in_range a b r h low high)

pub no_foreign : (l : Layout) (a end : ℕ) → AreOutside (λ (r : Extent). r) l.foreign (length l.foreign) a end →
    HoldsForeign l a (record { is_foreign = false; end = end })
no_foreign l a end h b low high = outside_none (λ (r : Extent). r) l.foreign a end b h low high

inside_range : (a lo hi : ℕ) (r : Extent) → holds a r ≡ true → a ≤ lo → hi ≤ r.hi → is_inside (extent lo hi) r ≡ true
inside_range a lo hi r h low high = grind (arith, nat_tests)

pub area_at : (l : Layout) (i a : ℕ) (x : Area) (is_code : Bool) → slice_get l.areas i ≡ Some x → holds a x.range ≡ true →
    is_code ≡ is_code_kind x.kind → HoldsArea l a (record { is_in_area = true; is_in_code = is_code; end = x.range.hi })
area_at l i a x is_code at h code = record {
  area = λ b low high. any_get (area_holds b) l.areas i x at (in_range a b x.range h low high);
  code = λ t lo hi low high.
      let kind : is_code_kind x.kind ≡ true = cc in
      any_get (λ (y : Area). is_code_kind y.kind && is_inside (extent lo hi) y.range) l.areas i x at
      (rw (kind, inside_range a lo hi x.range h low high) refl);
}

pub no_area : (l : Layout) (a end : ℕ) → AreOutside area_range l.areas (length l.areas) a end →
    HoldsArea l a (record { is_in_area = false; is_in_code = false; end = end })
no_area l a end h = record {
  area = λ b low high. outside_none area_range l.areas a end b h low high;
  code = λ t lo hi low high. absurd (cc);
}

pub item_fails : {X : Type 0} (p : X → Bool) (xs : List X) (i : ℕ) (x : X) → slice_get xs i ≡ Some x → p x ≡ false →
    list_any p (take i xs) ≡ false → list_any p (take (i + 1) xs) ≡ false
item_fails p xs i x at h before =
    let here : p (get_or xs i x) ≡ false = ap p (get_or_from_slice_get xs i x x at) ∙ h in
    list_any_more p xs i x (slice_get_within xs i x at) ∙ rw (before, here) refl
