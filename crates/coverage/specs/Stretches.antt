-- Addresses from one on up to an end, over which an answer stays the same.
use Rattle.std.specs.Prelude.{◌≡◌, ℕ, ◌<◌, ◌≤◌, ◌^◌, true, false, ◌||◌, Bool, nat_le, List, map, length, slice_index_or, position, Option}
use Rattle.std.specs.Prelude.{Some, None}
use Rattle.std.specs.List.{list_any}
use Rattle.word_ops.specs.Ranges.{Extent, extent, holds}
use Rattle.word_ops.specs.Seen.{extent_of}
use Rattle.image_model.specs.Image.{Image, Segment}
use Rattle.image_model.specs.Loaded.{segment_of}
use Rattle.elf_view.specs.declared.loaded_segments.NumberedSegment.{NumberedSegment}
use Rattle.layout_model.specs.Layouts.{Layout, is_foreign}
use Rattle.code_model.specs.Areas.{is_code_kind, is_in_one_area}
use Rattle.link_model.specs.Claims as model
use Rattle.link_model.specs.Kinds.{claim_holds, is_in_area}
use Rattle.coverage.specs.declared.claims.Kept.{Kept}
use Rattle.coverage.specs.declared.stretches.ClaimStretch.{ClaimStretch}
use Rattle.coverage.specs.declared.stretches.ForeignStretch.{ForeignStretch}
use Rattle.coverage.specs.declared.stretches.AreaStretch.{AreaStretch}
use Rattle.coverage.specs.declared.stretches.Here.{Here}
use Rattle.coverage.specs.Orders.{kept_seen}

-- no address from a on is in the range
abbrev pub is_past : ℕ → Extent → Bool
is_past a range = nat_le range.hi a || nat_le range.hi range.lo

-- no address from a on that is below end is in the range
abbrev pub is_outside : ℕ → ℕ → Extent → Bool
is_outside a end range = is_past a range || nat_le end range.lo

-- so is the range of each of the first n
abbrev pub AreOutside : {X : Type 0} → (X → Extent) → List X → ℕ → ℕ → ℕ → Type 0
AreOutside {X = X} range xs n a end = (k : ℕ) (d : X) → k < n → is_outside a end (range (slice_index_or xs k d)) ≡ true

abbrev pub kept_range : Kept → Extent
kept_range k = extent_of k.claim.range

-- the ranges of claims begin later and later
abbrev pub Rise : List Kept → Type 0
Rise ks = (i j : ℕ) (d : Kept) → i ≤ j → j < length ks → (kept_range (slice_index_or ks i d)).lo ≤ (kept_range (slice_index_or ks j d)).lo

-- the first n claims have no address from a on
abbrev pub ArePast : List Kept → ℕ → ℕ → Type 0
ArePast ks n a = (k : ℕ) (d : Kept) → k < n → is_past a (kept_range (slice_index_or ks k d)) ≡ true

-- the claim at a place has an address from a on
abbrev pub StandsAt : List Kept → ℕ → ℕ → Type 0
StandsAt ks j a = (d : Kept) → j < length ks → is_past a (kept_range (slice_index_or ks j d)) ≡ false

-- ---- stretches

abbrev pub HoldsForeign : Layout → ℕ → ForeignStretch → Type 0
HoldsForeign l a s = (b : ℕ) → a ≤ b → b < s.end → is_foreign l b ≡ s.is_foreign

-- where the area is one of code, it has the stretch
pub record HoldsArea (l : Layout) (a : ℕ) (s : AreaStretch) : Type 0 where
  pub area : (b : ℕ) → a ≤ b → b < s.end → is_in_area l b ≡ s.is_in_area
  pub code : s.is_in_code ≡ true → (lo hi : ℕ) → a ≤ lo → hi ≤ s.end → is_in_one_area l is_code_kind (extent lo hi) ≡ true

-- where no claim holds the stretch, its end is claimed or is the last of all
pub record HoldsClaim (cs : List model.Claim) (a : ℕ) (s : ClaimStretch) : Type 0 where
  pub holder : (b : ℕ) → a ≤ b → b < s.end → position (claim_holds b) cs ≡ s.holder
  pub next : s.holder ≡ None → a < s.end → s.end < 2 ^ 32 → list_any (claim_holds s.end) cs ≡ true

-- what holds from an address on
pub record HoldsHere (l : Layout) (ks : List Kept) (a : ℕ) (h : Here) : Type 0 where
  pub within : h.passed ≤ length ks
  pub passed : ArePast ks h.passed a
  pub claim : HoldsClaim (map kept_seen ks) a h.claim
  pub foreign : HoldsForeign l a h.foreign
  pub area : HoldsArea l a h.area

-- each stretch has the address
pub record ReachesPast (a : ℕ) (h : Here) : Type 0 where
  pub claim : a < h.claim.end
  pub foreign : a < h.foreign.end
  pub area : a < h.area.end

-- each of the first n segments begins at a or before it, or at end or behind it
abbrev pub AreLate : List NumberedSegment → ℕ → ℕ → ℕ → Type 0
AreLate segments n a end = (k : ℕ) (d : NumberedSegment) → k < n →
    (nat_le (slice_index_or segments k d).segment.vaddr a || nat_le end (slice_index_or segments k d).segment.vaddr) ≡ true

-- no address from a on that is below end is loaded
abbrev pub NoneLoaded : Image → ℕ → ℕ → Type 0
NoneLoaded v a end = (b : ℕ) → a ≤ b → b < end → (let none : Option Segment = None in segment_of v b ≡ none)
