-- Lists of ranges, none of which has an address of a stretch.
use Rattle.std.proofs.Common.{◌≡◌, ℕ, ◌+◌, ◌^◌, ◌<◌, ◌≤◌, inl, inr, Bool, true, false, ◌||◌, List, [], ◌∷◌, length, map, get_or, position}
use Rattle.std.proofs.Common.{Option, Some, None, refl, sym, ap, subst, ◌∙◌, arith}
use Rattle.std.specs.Prelude.{nat_le, slice_get}
use Rattle.std.specs.List.{list_any, find}
use Rattle.std.proofs.lemmas.Bool.{cases_Bool, cases_lt, or_cases, both_ways, leb-true, ltb-true, and_parts}
use Rattle.std.proofs.lemmas.Bool.Decides.{nat_tests}
use Rattle.std.proofs.lemmas.List.{get_or-map, get_or_default, length-map}
use Rattle.std.proofs.lemmas.List.Folds.{list_any_at, list_any_none}
use Rattle.std.proofs.lemmas.List.Sorted.{list_any-IsPermutation}
use Rattle.std.proofs.lemmas.Option.{get_or_from_slice_get, slice_get_within}
use Rattle.word_ops.specs.Ranges.{Extent, holds}
use Rattle.image_model.specs.Image.{Image, Segment}
use Rattle.image_model.specs.Loaded.{covers, segment_of}
use Rattle.image_model.proofs.Holders.{found_none}
use Rattle.elf_view.specs.ByAddress.{AreByAddress, numbered_seen}
use Rattle.elf_view.specs.declared.loaded_segments.NumberedSegment.{NumberedSegment}
use Rattle.link_model.specs.Kinds.{claim_holds}
use Rattle.link_model.specs.Overlaps.{no_claim}
use Rattle.coverage.specs.declared.claims.Kept.{Kept}
use Rattle.coverage.specs.Orders.{kept_seen}
use Rattle.coverage.specs.Stretches.{is_past, is_outside, AreOutside, AreLate, ArePast, StandsAt, Rise, HoldsClaim, NoneLoaded, kept_range}
use Rattle.coverage.proofs.Positions.{any_map, first_place, no_place}

-- ---- ranges in any order

outside_fails : (a end b : ℕ) (r : Extent) → is_outside a end r ≡ true → a ≤ b → b < end → holds b r ≡ false
outside_fails a end b r h low high = grind (arith, nat_tests)

outside_less : (a end less : ℕ) (r : Extent) → is_outside a end r ≡ true → less ≤ end → is_outside a less r ≡ true
outside_less a end less r h le = grind (arith, nat_tests)

-- a range that does not hold an address, and ends at it or begins at the end or behind
not_held : (a end : ℕ) (r : Extent) → holds a r ≡ false → (a < r.lo → end ≤ r.lo) → is_outside a end r ≡ true
not_held a end r h before = elim (cases_lt a r.lo) [
  | inl lt ↦ (let le = before lt in grind (arith, nat_tests))
  | inr ge ↦ grind (arith, nat_tests)
]

pub outside_none : {X : Type 0} (range : X → Extent) (xs : List X) (a end b : ℕ) → AreOutside range xs (length xs) a end → a ≤ b → b < end →
    list_any (λ x. holds b (range x)) xs ≡ false
outside_none range xs a end b h low high =
    list_any_none (λ x. holds b (range x)) xs (λ k d lt. outside_fails a end b (range (get_or xs k d)) (h k d lt) low high)

pub outside_more : {X : Type 0} (range : X → Extent) (xs : List X) (i a end less : ℕ) (r : Extent) → AreOutside range xs i a end
    → less ≤ end →
    ((d : X) → range (get_or xs i d) ≡ r) → holds a r ≡ false → (a < r.lo → less ≤ r.lo) → AreOutside range xs (i + 1) a less
outside_more range xs i a end less r h le is clear before k d lt = elim (cases_lt k i) [
  | inl below ↦ outside_less a end less (range (get_or xs k d)) (h k d below) le
  | inr up ↦ (let e : k ≡ i = omega arith in rw (e, is d) (not_held a less r clear before))
]

-- ---- claims in their order

past_outside : (a end : ℕ) (r : Extent) → is_past a r ≡ true → is_outside a end r ≡ true
past_outside a end r h = rw h refl

begins_later : (a end : ℕ) (r : Extent) → end ≤ r.lo → is_outside a end r ≡ true
begins_later a end r h = grind (arith, nat_tests)

pub past_more : (ks : List Kept) (j a : ℕ) (r : Extent) → ArePast ks j a → ((d : Kept) → kept_range (get_or ks j d) ≡ r)
    → is_past a r ≡ true →
    ArePast ks (j + 1) a
past_more ks j a r h is past k d lt = elim (cases_lt k j) [
  | inl below ↦ h k d below
  | inr up ↦ (let e : k ≡ j = omega arith in rw (e, is d) past)
]

pub past_later : (ks : List Kept) (n a b : ℕ) → ArePast ks n a → a ≤ b → ArePast ks n b
past_later ks n a b h le k d lt = later (kept_range (get_or ks k d)) (h k d lt)
  where
    later : (r : Extent) → is_past a r ≡ true → is_past b r ≡ true
    later r p = grind (arith, nat_tests)

none_holds : (ks : List Kept) (a end b : ℕ) → AreOutside kept_range ks (length ks) a end → a ≤ b → b < end →
    (let none : Option ℕ = None in position (claim_holds b) (map kept_seen ks) ≡ none)
none_holds ks a end b h low high =
    no_place (claim_holds b) (map kept_seen ks) no_claim
    (any_map (claim_holds b) kept_seen ks ∙ outside_none kept_range ks a end b h low high)

pub all_past : (ks : List Kept) (n a end : ℕ) → ArePast ks n a → length ks ≤ n → 2 ^ 32 ≤ end →
    HoldsClaim (map kept_seen ks) a (record { holder = None; end = end })
all_past ks n a end h most large = record {
  holder = λ b low high. none_holds ks a end b (λ k d lt. past_outside a end (kept_range (get_or ks k d)) (h k d (omega arith))) low high;
  next = λ none some less. absurd (omega arith);
}

pub comes_next : (ks : List Kept) (j a : ℕ) (x : Kept) → ArePast ks j a → Rise ks → StandsAt ks j a → j < length ks → get_or ks j x ≡ x →
    a < x.claim.range.lo → HoldsClaim (map kept_seen ks) a (record { holder = None; end = x.claim.range.lo })
comes_next ks j a x past rise stands lt is later = record {
  holder = λ b low high. none_holds ks a x.claim.range.lo b outside low high;
  next = λ none some less.
      any_map (claim_holds x.claim.range.lo) kept_seen ks
      ∙ list_any_at (λ k. holds x.claim.range.lo (kept_range k)) ks j x lt (rw is begins);
}
  where
    stand : is_past a (kept_range x) ≡ false
    stand = subst (λ (k : Kept). is_past a (kept_range k) ≡ false) is (stands x lt)

    begins : holds x.claim.range.lo (kept_range x) ≡ true
    begins = grind (arith, nat_tests, stand)

    outside : AreOutside kept_range ks (length ks) a x.claim.range.lo
    outside k d within = elim (cases_lt k j) [
      | inl below ↦ past_outside a x.claim.range.lo (kept_range (get_or ks k d)) (past k d below)
      | inr up ↦ (
          let low : (kept_range (get_or ks j x)).lo ≤ (kept_range (get_or ks k x)).lo = rise j k x up within in
          let same : get_or ks k d ≡ get_or ks k x = get_or_default ks k d x within in
          let here : x.claim.range.lo ≤ (kept_range (get_or ks k x)).lo =
          subst (λ (y : Kept). (kept_range y).lo ≤ (kept_range (get_or ks k x)).lo) is low in
          rw same (begins_later a x.claim.range.lo (kept_range (get_or ks k x)) here)
          )
    ]

pub holds_here : (ks : List Kept) (j a : ℕ) (x : Kept) → ArePast ks j a → j < length ks → get_or ks j x ≡ x → x.claim.range.lo ≤ a →
    HoldsClaim (map kept_seen ks) a (record { holder = Some j; end = x.claim.range.hi })
holds_here ks j a x past lt is low = record {
  holder = λ b from to.
      first_place (claim_holds b) (map kept_seen ks) j no_claim (omega (arith, length-map ks kept_seen))
      (λ k below.
      rw (get_or-map kept_seen ks k x no_claim (omega arith))
      (outside_fails a x.claim.range.hi b (kept_range (get_or ks k x))
      (past_outside a x.claim.range.hi (kept_range (get_or ks k x)) (past k x below)) from to))
      (rw (get_or-map kept_seen ks j x no_claim lt, is) (in_it b from to));
  next = λ none some less. absurd (cc);
}
  where
    in_it : (b : ℕ) → a ≤ b → b < x.claim.range.hi → holds b (kept_range x) ≡ true
    in_it b from to = grind (arith, nat_tests)

pub reaches : (a : ℕ) (r : Extent) → is_past a r ≡ false → a < r.hi
reaches a r h = grind (arith, nat_tests)

-- ---- segments

late_less : (a end less n : ℕ) → (nat_le n a || nat_le end n) ≡ true → less ≤ end → (nat_le n a || nat_le less n) ≡ true
late_less a end less n h le = grind (arith, nat_tests)

late_here : (a less n : ℕ) → (a < n → less ≤ n) → (nat_le n a || nat_le less n) ≡ true
late_here a less n before = elim (cases_lt a n) [
  | inl lt ↦ (let le = before lt in grind (arith, nat_tests))
  | inr ge ↦ grind (arith, nat_tests)
]

pub late_more : (ss : List NumberedSegment) (i a end less n : ℕ) → AreLate ss i a end → less ≤ end →
    ((d : NumberedSegment) → (get_or ss i d).segment.vaddr ≡ n) → (a < n → less ≤ n) → AreLate ss (i + 1) a less
late_more ss i a end less n h le is before k d lt = elim (cases_lt k i) [
  | inl below ↦ late_less a end less (get_or ss k d).segment.vaddr (h k d below) le
  | inr up ↦ (let e : k ≡ i = omega arith in rw (e, is d) (late_here a less n before))
]

not_found : (p : Segment → Bool) (xs : List Segment) → (let none : Option Segment = None in find p xs ≡ none) → list_any p xs ≡ false
not_found p [] h = refl
not_found p (x ∷ xs) h = elim (cases_Bool (p x)) [
  | inl t ↦ (let wrong : ◌≡◌ {A = Option Segment} (Some x) None = (rw t at h) in absurd (cc))
  | inr f ↦ rw f (not_found p xs (rw f at h))
]

-- a segment that covers an address behind a, and begins at a or before it, covers a
covers_back : (a b : ℕ) (s : Segment) → covers b s ≡ true → s.vaddr ≤ a → a ≤ b → covers a s ≡ true
covers_back a b s h low le = grind (arith, nat_tests)

pub none_loaded : (v : Image) (ss : List NumberedSegment) (a end : ℕ) → AreByAddress v (map numbered_seen ss) →
    (let none : Option Segment = None in segment_of v a ≡ none) → AreLate ss (length ss) a end → NoneLoaded v a end
none_loaded v ss a end by none late b low high =
    found_none (covers b) v.segments (list_any-IsPermutation (covers b) v.segments (map numbered_seen ss) by.all
    ∙ any_map (covers b) numbered_seen ss ∙ list_any_none (λ s. covers b (numbered_seen s)) ss each)
  where
    none_here : list_any (λ s. covers a (numbered_seen s)) ss ≡ false
    none_here =
        sym (list_any-IsPermutation (covers a) v.segments (map numbered_seen ss) by.all ∙ any_map (covers a) numbered_seen ss)
        ∙ not_found (covers a) v.segments none

    each : (k : ℕ) (d : NumberedSegment) → k < length ss → covers b (numbered_seen (get_or ss k d)) ≡ false
    each k d lt = elim (cases_Bool (covers b (numbered_seen (get_or ss k d)))) [
      | inr f ↦ f
      | inl t ↦ elim (cases_lt a (get_or ss k d).segment.vaddr) [
        | inl begins ↦ (let l = late k d lt in absurd (grind (arith, nat_tests)))
        | inr ge ↦ absurd (both_ways (list_any (λ s. covers a (numbered_seen s)) ss) none_here
            (list_any_at (λ s. covers a (numbered_seen s)) ss k d lt (covers_back a b (numbered_seen (get_or ss k d)) t ge low)))
      ]
    ]
