-- At most one segment holds an address, so a segment that was found once answers for every address that it covers.
use Rattle.std.proofs.Common.{◌≡◌, ℕ, zero, suc, ◌+◌, ◌-◌, ◌^◌, ◌<◌, ◌≤◌, inl, inr, Bool, true, false, List, [], ◌∷◌, length, Option, Some}
use Rattle.std.proofs.Common.{None, refl, sym, ap, subst, arith}
use Rattle.std.specs.Prelude.{find, nat_le, nat_lt, slice_index, Contains, cond, option_map}
use Rattle.std.specs.List.{list_any}
use Rattle.std.proofs.lemmas.Bool.{cases_Bool, and_parts, leb-true, ltb-true}
use Rattle.std.proofs.lemmas.Bool.Decides.{nat_tests}
use Rattle.image_model.specs.Bytes.{AreBytes}
use Rattle.image_model.specs.Image.{Image, Segment}
use Rattle.ordered_tests.specs.Lists.{EachOf, Pairwise}
use Rattle.image_model.specs.Loaded.{covers, segment_of, byte_at, word_at, segment_byte, segment_word, HasRange}
use Rattle.image_model.specs.Segments.{AreSeparate, IsLoadable}

-- ---- a list of segments

pub each_found : (P : Segment → Type 0) (p : Segment → Bool) (xs : List Segment) (s : Segment) → EachOf P xs → find p xs ≡ Some s → P s
each_found P p [] s e h = absurd (cc)
each_found P p (x ∷ xs) s e h = elim (cases_Bool (p x)) [
  | inl t ↦ (let q : Some x ≡ Some s = (rw t at h) in let same : x ≡ s = cc in subst P same e.0)
  | inr f ↦ each_found P p xs s e.1 (rw f at h)
]

pub found_passes : (p : Segment → Bool) (xs : List Segment) (s : Segment) → find p xs ≡ Some s → p s ≡ true
found_passes p [] s h = absurd (cc)
found_passes p (x ∷ xs) s h = elim (cases_Bool (p x)) [
  | inl t ↦ (let q : Some x ≡ Some s = (rw t at h) in let same : x ≡ s = cc in subst (λ y. p y ≡ true) same t)
  | inr f ↦ found_passes p xs s (rw f at h)
]

pub found_none : (p : Segment → Bool) (xs : List Segment) → list_any p xs ≡ false → (let none : Option Segment = None in find p xs ≡ none)
found_none p [] h = refl
found_none p (x ∷ xs) h = elim (cases_Bool (p x)) [
  | inl t ↦ (let wrong : true ≡ false = (rw t at h) in absurd (cc))
  | inr f ↦ rw f (found_none p xs (rw f at h))
]

pub each_contained : (P : Segment → Type 0) (xs : List Segment) (s : Segment) → EachOf P xs → Contains xs s → P s
each_contained P [] s e h = absurd (omega (arith, h.1))
each_contained P (x ∷ xs) s e (zero, lt, same) = subst P same e.0
each_contained P (x ∷ xs) s e (suc k, lt, same) = each_contained P xs s e.1 (k, omega arith, same)

-- a segment of the list that covers an address is the one that is found
pub only_holder : (a : ℕ) (xs : List Segment) (s : Segment) → Pairwise AreSeparate xs → Contains xs s → covers a s ≡ true →
    find (covers a) xs ≡ Some s
only_holder a [] s p h c = absurd (omega (arith, h.1))
only_holder a (x ∷ xs) s p (zero, lt, same) c =
    let here : covers a x ≡ true = subst (λ y. covers a y ≡ true) (sym same) c in
    rw here (ap Some same)
only_holder a (x ∷ xs) s p (suc k, lt, same) c =
    let within : Contains xs s = (k, omega arith, same) in
    elim (cases_Bool (covers a x)) [
      | inl t ↦ absurd (each_contained (AreSeparate x) xs s p.0 within a t c)
      | inr f ↦ rw f (only_holder a xs s p.1 within c)
    ]

-- the segment of one address is that of each address that it covers
pub same_holder : (home a : ℕ) (xs : List Segment) (s : Segment) → Pairwise AreSeparate xs → find (covers home) xs ≡ Some s →
    covers a s ≡ true → find (covers a) xs ≡ Some s
same_holder home a [] s p h c = absurd (cc)
same_holder home a (x ∷ xs) s p h c = elim (cases_Bool (covers home x)) [
  | inl t ↦ (let q : Some x ≡ Some s = (rw t at h) in let same : x
      ≡ s = cc in let cx : covers a x ≡ true = subst (λ y. covers a y ≡ true) (sym same) c in rw cx q)
  | inr f ↦ (
      let rest : find (covers home) xs ≡ Some s = (rw f at h) in
      elim (cases_Bool (covers a x)) [
        | inl t ↦ absurd (each_found (AreSeparate x) (covers home) xs s p.0 rest a t c)
        | inr g ↦ rw g (same_holder home a xs s p.1 rest c)
      ]
      )
]

none_high : (a : ℕ) (xs : List Segment) → EachOf HasRange xs → 2 ^ 32 ≤ a → (let none : Option Segment = None in find (covers a) xs ≡ none)
none_high a [] e h = refl
none_high a (x ∷ xs) e h =
    let below = e.0.below in
    let f : covers a x ≡ false = grind (arith, nat_tests) in
    rw f (none_high a xs e.1 h)

-- ---- an image

pub segment_same : (v : Image) (home a : ℕ) (s : Segment) → IsLoadable v → segment_of v home ≡ Some s → s.vaddr ≤ a →
    a < s.vaddr + s.memsz → segment_of v a ≡ Some s
segment_same v home a s k h low high = same_holder home a v.segments s k.separate h (grind (arith, nat_tests))

-- the segment of an address has it
pub found_in : (v : Image) (a : ℕ) (s : Segment) → segment_of v a ≡ Some s → (s.vaddr ≤ a) × (a < s.vaddr + s.memsz)
found_in v a s h =
    let c = and_parts (nat_le s.vaddr a) (nat_lt a (s.vaddr + s.memsz)) (found_passes (covers a) v.segments s h) in
    (leb-true s.vaddr a c.0, ltb-true a (s.vaddr + s.memsz) c.1)

pub found_range : (v : Image) (a : ℕ) (s : Segment) → IsLoadable v → segment_of v a ≡ Some s → HasRange s
found_range v a s k h = each_found HasRange (covers a) v.segments s k.ranges h

near_byte : (v : Image) (home a i : ℕ) (s : Segment) → IsLoadable v → segment_of v home ≡ Some s → s.vaddr ≤ a → a + i < s.vaddr + s.memsz →
    byte_at v (a + i) ≡ Some (segment_byte s (a - s.vaddr + i))
near_byte v home a i s k h low high =
    let e : a + i - s.vaddr ≡ a - s.vaddr + i = omega arith in
    rw (segment_same v home (a + i) s k h (omega arith) high) (ap (λ j. Some (segment_byte s j)) e)

-- the word at an address, of which the segment of some address has all four bytes
pub near_word : (v : Image) (home a : ℕ) (s : Segment) → IsLoadable v → segment_of v home ≡ Some s → s.vaddr ≤ a →
    a + 4 ≤ s.vaddr + s.memsz →
    word_at v a ≡ Some (segment_word s (a - s.vaddr))
near_word v home a s k h low high =
    let z : a + 0 ≡ a = omega arith in
    let y : a - s.vaddr + 0 ≡ a - s.vaddr = omega arith in
    let b0 : byte_at v a ≡ Some (segment_byte s (a - s.vaddr)) = (rw (z, y) at (near_byte v home a 0 s k h low (omega arith))) in
    rw (
      b0,
      near_byte v home a 1 s k h low (omega arith),
      near_byte v home a 2 s k h low (omega arith),
      near_byte v home a 3 s k h low
          (omega arith),
    ) refl

-- the word at an address, of which its own segment has all four bytes
pub held_word : (v : Image) (a : ℕ) (s : Segment) → IsLoadable v → segment_of v a ≡ Some s → a + 4 ≤ s.vaddr + s.memsz →
    word_at v a ≡ Some (segment_word s (a - s.vaddr))
held_word v a s k h high = near_word v a a s k h (found_in v a s h).0 high

pub no_word : (v : Image) (a : ℕ) → (let none : Option Segment = None in segment_of v a ≡ none) →
    (let none : Option ℕ = None in word_at v a ≡ none)
no_word v a h = rw h refl

pub high_segment : (v : Image) (a : ℕ) → IsLoadable v → 2 ^ 32 ≤ a → (let none : Option Segment = None in segment_of v a ≡ none)
high_segment v a k h = none_high a v.segments k.ranges h

-- ---- bytes are below 256

pub segment_byte_below : (s : Segment) (i : ℕ) → AreBytes s.held → segment_byte s i < 256
segment_byte_below s i h = at (nat_lt i (length s.held)) refl
  where
    at : (x : Bool) → nat_lt i (length s.held) ≡ x → cond x (slice_index s.held i) 0 < 256
    at true e = h i 0 (ltb-true i (length s.held) e)
    at false e = omega arith

pub byte_below : (v : Image) (a n : ℕ) → IsLoadable v → byte_at v a ≡ Some n → n < 256
byte_below v a n k h = at (segment_of v a) refl h
  where
    at : (o : Option Segment) → segment_of v a ≡ o → option_map (λ (s : Segment). segment_byte s (a - s.vaddr)) o ≡ Some n → n < 256
    at None f e = absurd (cc)
    at (Some s) f e =
        let same : segment_byte s (a - s.vaddr) ≡ n = cc in
        subst (λ m. m < 256) same (segment_byte_below s (a - s.vaddr) (each_found (λ (x : Segment). AreBytes x.held)
        (covers a) v.segments s k.bytes f))
