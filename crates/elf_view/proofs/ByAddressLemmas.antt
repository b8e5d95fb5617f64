-- The segment that holds an address, of those sorted by their addresses.
use Rattle.std.proofs.Common.{◌≡◌, ℕ, zero, suc, ◌+◌, ◌<◌, ◌≤◌, inl, inr, true, false, List, [], ◌∷◌, ◌++◌, length, map, take, get_or}
use Rattle.std.proofs.Common.{Option, Some, None, refl, sym, ◌∙◌, ap, subst, arith}
use Rattle.std.specs.Prelude.{All, Contains, IsPermutation, nat_le, slice_get}
use Rattle.std.specs.List.Sorted.{IsNonDecreasingBy, IsPartitionPoint}
use Rattle.std.proofs.lemmas.Bool.{cases_Bool, cases_lt, leb-true, leb-false}
use Rattle.std.proofs.lemmas.Bool.Decides.{nat_tests}
use Rattle.std.proofs.lemmas.List.{get_or_default, length-map}
use Rattle.std.proofs.lemmas.List.Folds.{list_any_none}
use Rattle.std.proofs.lemmas.List.Sorted.{Contains-permutation, IsPermutation-sym, list_any-IsPermutation}
use Rattle.image_model.specs.Image.{Image, Segment}
use Rattle.image_model.specs.Loaded.{covers, segment_of, HasRange}
use Rattle.image_model.proofs.Holders.{each_contained, only_holder, found_none}
use Rattle.elf_view.specs.ByAddress.{AreByAddress}

-- ---- a list that is mapped

at_map : {X Y : Type 0} (f : X → Y) (P : Y → Type 0) (xs : List X) (k : ℕ) (e : Y) → k < length xs → ((d : X) →
    P (f (get_or xs k d))) → P (get_or (map f xs) k e)
at_map f P [] k e lt h = absurd (omega arith)
at_map f P (x ∷ xs) zero e lt h = h x
at_map f P (x ∷ xs) (suc k) e lt h = at_map f P xs k e (omega arith) h

pub sorted_map : {X : Type 0} (f : X → Segment) (n : X → ℕ) (same : (x : X) → (f x).vaddr ≡ n x) (xs : List X) →
    IsNonDecreasingBy n xs → IsNonDecreasingBy (λ (s : Segment). s.vaddr) (map f xs)
sorted_map f n same xs h i j e le lt =
    let most : j < length xs = omega (arith, length-map xs f) in
    at_map f (λ y. y.vaddr ≤ (get_or (map f xs) j e).vaddr) xs i e (omega arith) (λ d.
    at_map f (λ z. (f (get_or xs i d)).vaddr ≤ z.vaddr) xs j e most (λ c.
    let rises = h i j c le most in
    let one : get_or xs i d ≡ get_or xs i c = get_or_default xs i d c (omega arith) in
    rw (same (get_or xs i d), same (get_or xs j c), one) rises))

pub point_map : {X : Type 0} (f : X → Segment) (n : X → ℕ) (same : (x : X) → (f x).vaddr ≡ n x) (a : ℕ) (xs : List X) (i : ℕ) →
    i ≤ length xs →
    IsPartitionPoint (λ x. nat_le (n x) a ≡ true) (λ x. nat_le (n x) a ≡ false) xs i →
    IsPartitionPoint (λ (s : Segment). s.vaddr ≤ a) (λ (s : Segment). a < s.vaddr) (map f xs) i
point_map f n same a xs i most h = (
  (λ k e low high. at_map f (λ s. s.vaddr ≤ a) xs k e (omega arith) (λ d. rw (same (get_or xs k d)) (leb-true (n (get_or xs k d)) a
      (h.0 k d low high)))),
  (λ k e low high.
      let within : k < length xs = omega (arith, length-map xs f) in
      at_map f (λ s. a < s.vaddr) xs k e within (λ d. rw (same (get_or xs k d)) (leb-false (n (get_or xs k d)) a (h.1 k d low within)))),
)

-- ---- the holder of an address

contained : (v : Image) (ys : List Segment) (s : Segment) → AreByAddress v ys → Contains ys s → Contains v.segments s
contained v ys s h c = Contains-permutation ys v.segments s (IsPermutation-sym v.segments ys h.all) c

pub holder_found : (v : Image) (ys : List Segment) (a i : ℕ) (s : Segment) → AreByAddress v ys → i < length ys → get_or ys i s ≡ s →
    covers a s ≡ true → segment_of v a ≡ Some s
holder_found v ys a i s h lt is c = only_holder a v.segments s h.loadable.separate (contained v ys s h (i, lt, is)) c

none_covers : (v : Image) (ys : List Segment) (a : ℕ) → AreByAddress v ys → ((i : ℕ) (d : Segment) → i < length ys →
    covers a (get_or ys i d) ≡ false) →
    (let none : Option Segment = None in segment_of v a ≡ none)
none_covers v ys a h f = found_none (covers a) v.segments (list_any-IsPermutation (covers a) v.segments ys h.all
    ∙ list_any_none (covers a) ys f)

-- a segment that begins behind an address does not cover it
late : (a : ℕ) (s : Segment) → a < s.vaddr → covers a s ≡ false
late a s h = grind (arith, nat_tests)

pub holder_zero : (v : Image) (ys : List Segment) (a : ℕ) → AreByAddress v ys →
    IsPartitionPoint (λ (s : Segment). s.vaddr ≤ a) (λ (s : Segment). a < s.vaddr) ys 0 →
    (let none : Option Segment = None in segment_of v a ≡ none)
holder_zero v ys a h p = none_covers v ys a h (λ i d lt. late a (get_or ys i d) (p.1 i d (omega arith) lt))

starts : (s : Segment) → HasRange s → covers s.vaddr s ≡ true
starts s r = let some = r.some in grind (arith, nat_tests)

-- of two segments, one that covers both an address and the begin of the other is the other
pub same_segment : (v : Image) (ys : List Segment) (a : ℕ) (s t : Segment) → AreByAddress v ys → Contains ys s → Contains ys t →
    covers a t ≡ true → t.vaddr ≤ s.vaddr → s.vaddr ≤ a → covers a s ≡ true
same_segment v ys a s t h cs ct cover low high =
    let ins = contained v ys s h cs in
    let int = contained v ys t h ct in
    let begins = starts s (each_contained HasRange v.segments s h.loadable.ranges ins) in
    let begins_in : covers s.vaddr t ≡ true = grind (arith, nat_tests) in
    let one = only_holder s.vaddr v.segments s h.loadable.separate ins begins in
    let two = only_holder s.vaddr v.segments t h.loadable.separate int begins_in in
    let both : Some t ≡ Some s = sym two ∙ one in
    let same : t ≡ s = cc in
    subst (λ x. covers a x ≡ true) same cover

pub holder_none : (v : Image) (ys : List Segment) (a i : ℕ) (s : Segment) → AreByAddress v ys → i < length ys → get_or ys i s ≡ s →
    covers a s ≡ false →
    IsPartitionPoint (λ (s : Segment). s.vaddr ≤ a) (λ (s : Segment). a < s.vaddr) ys (i + 1) →
    (let none : Option Segment = None in segment_of v a ≡ none)
holder_none v ys a i s h lt is f p = none_covers v ys a h each
  where
    each : (j : ℕ) (d : Segment) → j < length ys → covers a (get_or ys j d) ≡ false
    each j d within = elim (cases_lt i j) [
      | inl behind ↦ late a (get_or ys j d) (p.1 j d (omega arith) within)
      | inr before ↦ elim (cases_Bool (covers a (get_or ys j d))) [
        | inr clear ↦ clear
        | inl covering ↦ (
            let low : (get_or ys j d).vaddr ≤ (get_or ys i d).vaddr = h.sorted j i d before lt in
            let one : get_or ys i d ≡ s = get_or_default ys i d s lt ∙ is in
            let t : (get_or ys j d).vaddr ≤ s.vaddr = subst (λ x. (get_or ys j d).vaddr ≤ x.vaddr) one low in
            let high : s.vaddr ≤ a = subst (λ x. x.vaddr ≤ a) is (p.0 i s (omega arith) (omega arith)) in
            let there : Contains ys (get_or ys j d) = (j, within, get_or_default ys j (get_or ys j d) d within) in
            let wrong = same_segment v ys a s (get_or ys j d) h (i, lt, is) there covering t high in
            absurd (let e : true ≡ false = sym wrong ∙ f in cc)
            )
      ]
    ]

-- ---- the segments read so far

pub take_one : {X : Type 0} (xs : List X) (i : ℕ) (x : X) → slice_get xs i ≡ Some x → take (i + 1) xs ≡ take i xs ++ x ∷ []
take_one [] i x h = absurd (cc)
take_one (y ∷ ys) zero x h = let s : y ≡ x = cc in rw s refl
take_one {X = X} (y ∷ ys) (suc i) x h = let e : suc i + 1 ≡ suc (i + 1) = omega arith in rw e (ap (λ (zs : List X). y ∷ zs)
    (take_one ys i x h))

pub range_in : (v : Image) (ys : List Segment) (i : ℕ) (s : Segment) → AreByAddress v ys → i < length ys → get_or ys i s ≡ s → HasRange s
range_in v ys i s h lt is = each_contained HasRange v.segments s h.loadable.ranges (contained v ys s h (i, lt, is))

-- what holds of each holds of each in another order
pub all_permuted : {X : Type 0} (P : X → Type 0) (xs ys : List X) → IsPermutation xs ys → All P xs → All P ys
all_permuted P xs ys moved h k d lt =
    let y = get_or ys k d in
    let here : Contains ys y = (k, lt, get_or_default ys k y d lt) in
    let there = Contains-permutation ys xs y (IsPermutation-sym xs ys moved) here in
    subst P there.2 (h there.0 y there.1)
