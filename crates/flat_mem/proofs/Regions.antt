-- The first region that covers an address, by the number of the image's segment that does.
use Rattle.std.proofs.Common.{◌≡◌, ℕ, zero, suc, ◌<◌, inl, inr, Bool, true, false, List, [], ◌∷◌, length, map, get_or, slice_set, Option}
use Rattle.std.proofs.Common.{Some, None, refl, sym, ◌∙◌, ap, arith}
use Rattle.std.specs.Prelude.{find, slice_get}
use Rattle.std.proofs.lemmas.Bool.{cases_Bool}
use Rattle.std.proofs.Math.Seq.{map-set_same}
use Rattle.word_ops.specs.Ranges.{holds}
use Rattle.ordered_tests.specs.Lists.{Pairwise}
use Rattle.ordered_tests.proofs.Lists.{each_get}
use Rattle.image_model.specs.Image.{Image, Segment}
use Rattle.image_model.specs.Loaded.{covers, is_writable, segment_of}
use Rattle.image_model.specs.Segments.{AreSeparate, IsLoadable}
use Rattle.image_model.proofs.Holders.{found_passes}
use Rattle.flat_mem.specs.Memory.{written, set_byte}
use Rattle.flat_mem.specs.Built.{segment_extent, AreRegionsOf, kept}

-- the region at a place covers an address, and none before it does
pub record IsFirst (a i : ℕ) (ys : List Segment) : Type 0 where
  pub within : i < length ys
  pub before : (k : ℕ) (d : Segment) → k < i → covers a (get_or ys k d) ≡ false
  pub here : (d : Segment) → covers a (get_or ys i d) ≡ true

first_behind : (a i : ℕ) (y : Segment) (ys : List Segment) → covers a y ≡ false → IsFirst a i ys → IsFirst a (suc i) (y ∷ ys)
first_behind a i y ys off f = record { within = omega (arith, f.within); before = before; here = f.here }
  where
    before : (k : ℕ) (d : Segment) → k < suc i → covers a (get_or (y ∷ ys) k d) ≡ false
    before zero d lt = off
    before (suc k) d lt = f.before k d (omega arith)

first_here : (a : ℕ) (y : Segment) (ys : List Segment) → covers a y ≡ true → IsFirst a zero (y ∷ ys)
first_here a y ys t = record { within = omega arith; before = λ k d lt. absurd (omega arith); here = λ d. t }

pub first_region : (a i : ℕ) (xs ys : List Segment) → map segment_extent ys ≡ map segment_extent xs → Pairwise AreSeparate xs →
    i < length xs →
    slice_get xs i ≡ find (covers a) xs → IsFirst a i ys
first_region a i [] ys e p lt h = absurd (omega arith)
first_region a i (x ∷ xs) [] e p lt h = absurd (cc)
first_region a i (x ∷ xs) (y ∷ ys) e p lt h =
    let head : segment_extent y ≡ segment_extent x = cc in
    let tail : map segment_extent ys ≡ map segment_extent xs = cc in
    let same : covers a y ≡ covers a x = ap (holds a) head in
    at (covers a x) refl i lt h same (λ j less found. first_region a j xs ys tail p.1 less found)
  where
    at : (t : Bool) → covers a x ≡ t → (i : ℕ) → i < length (x ∷ xs) → slice_get (x ∷ xs) i ≡ find (covers a) (x ∷ xs) →
        covers a y ≡ covers a x →
        ((j : ℕ) → j < length xs → slice_get xs j ≡ find (covers a) xs → IsFirst a j ys) → IsFirst a i (y ∷ ys)
    at true t zero lt h same rest = first_here a y ys (same ∙ t)
    at true t (suc i) lt h same rest =
        let found : slice_get xs i ≡ Some x = (rw t at h) in absurd (each_get (AreSeparate x) xs p.0 i x found a t t)
    at false t zero lt h same rest =
        let found : Some x ≡ find (covers a) xs = (rw t at h) in
        absurd (let wrong : true ≡ false = sym (found_passes (covers a) xs x (sym found)) ∙ t in cc)
    at false t (suc i) lt h same rest =
        let found : slice_get xs i ≡ find (covers a) xs = (rw t at h) in
        first_behind a i y ys (same ∙ t) (rest i (omega arith) found)

pub no_region : (a : ℕ) (xs ys : List Segment) → map segment_extent ys ≡ map segment_extent xs →
    (let none : Option Segment = None in find (covers a) xs ≡ none) →
    (let none : Option Segment = None in find (covers a) ys ≡ none)
no_region a [] [] e h = refl
no_region a [] (y ∷ ys) e h = absurd (cc)
no_region a (x ∷ xs) [] e h = absurd (cc)
no_region a (x ∷ xs) (y ∷ ys) e h =
    let head : segment_extent y ≡ segment_extent x = cc in
    let tail : map segment_extent ys ≡ map segment_extent xs = cc in
    let same : covers a y ≡ covers a x = ap (holds a) head in
    elim (cases_Bool (covers a x)) [
      | inl t ↦ absurd (let none : Option Segment = None in let wrong : Some x ≡ none = (rw t at h) in cc)
      | inr f ↦ (
          let left : (let none : Option Segment = None in find (covers a) xs ≡ none) = (rw f at h) in
          let off : covers a y ≡ false = same ∙ f in
          rw off (no_region a xs ys tail left)
          )
    ]

pub find_first : (a i : ℕ) (ys : List Segment) (d : Segment) → IsFirst a i ys → find (covers a) ys ≡ Some (get_or ys i d)
find_first a i [] d f = absurd (omega (arith, f.within))
find_first a zero (y ∷ ys) d f = let t : covers a y ≡ true = f.here d in rw t refl
find_first a (suc i) (y ∷ ys) d f =
    let off : covers a y ≡ false = f.before zero d (omega arith) in
    rw off (find_first a i ys d (record {
      within = omega (arith, f.within);
      before = λ k c lt. f.before (suc k) c
          (omega arith);
      here = f.here;
    }))

pub set_first : (a x i : ℕ) (ys : List Segment) (d : Segment) → IsFirst a i ys →
    set_byte ys a x ≡ slice_set ys i (written (get_or ys i d) a x)
set_first a x i [] d f = absurd (omega (arith, f.within))
set_first a x zero (y ∷ ys) d f = let t : covers a y ≡ true = f.here d in rw t refl
set_first a x (suc i) (y ∷ ys) d f =
    let off : covers a y ≡ false = f.before zero d (omega arith) in
    rw off (ap (λ l. y ∷ l) (set_first a x i ys d (record {
      within = omega (arith, f.within);
      before = λ k c lt. f.before (suc k) c
          (omega arith);
      here = f.here;
    })))

pub set_none : (a x : ℕ) (ys : List Segment) → (let none : Option Segment = None in find (covers a) ys ≡ none) → set_byte ys a x ≡ ys
set_none a x [] h = refl
set_none a x (y ∷ ys) h = elim (cases_Bool (covers a y)) [
  | inl t ↦ absurd (let none : Option Segment = None in let wrong : Some y ≡ none = (rw t at h) in cc)
  | inr f ↦ rw f (ap (λ l. y ∷ l) (set_none a x ys (rw f at h)))
]

-- ---- where regions stand

extent_written : (s : Segment) (a x : ℕ) → segment_extent (written s a x) ≡ segment_extent s
extent_written s a x = elim (cases_Bool (is_writable s.flags)) [ inl t ↦ rw t refl | inr f ↦ rw f refl ]

pub regions_set : (v : Image) (a x i : ℕ) (ys : List Segment) (d : Segment) → AreRegionsOf v ys →
    AreRegionsOf v (slice_set ys i (written (get_or ys i d) a x))
regions_set v a x i ys d r = record {
  loadable = r.loadable;
  extents = map-set_same segment_extent ys i (written (get_or ys i d) a x) d (extent_written (get_or ys i d) a x) ∙ r.extents;
}

extent_kept : (s : Segment) → segment_extent (kept s) ≡ segment_extent s
extent_kept s = elim (cases_Bool (is_writable s.flags)) [ inl t ↦ rw t refl | inr f ↦ rw f refl ]

extents_kept : (xs : List Segment) → map segment_extent (map kept xs) ≡ map segment_extent xs
extents_kept [] = refl
extents_kept (x ∷ xs) = rw (extent_kept x, extents_kept xs) refl

pub regions_kept : (v : Image) (ys : List Segment) → ys ≡ map kept v.segments → IsLoadable v → AreRegionsOf v ys
regions_kept v ys e h = rw e (record { loadable = h; extents = extents_kept v.segments })

-- ---- the stack and the regions

pub region_found : (a i : ℕ) (stack d : Segment) (ys : List Segment) → covers a stack ≡ false → IsFirst a i ys → d ≡ get_or ys i d →
    Some d ≡ find (covers a) (stack ∷ ys)
region_found a i stack d ys off f e = rw off (ap (λ s. Some s) e ∙ sym (find_first a i ys d f))

pub region_none : (v : Image) (a : ℕ) (stack : Segment) (ys : List Segment) → covers a stack ≡ false → AreRegionsOf v ys →
    (let none : Option Segment = None in segment_of v a ≡ none) → (let none : Option Segment = None in find (covers a) (stack ∷ ys) ≡ none)
region_none v a stack ys off r h = rw off (no_region a v.segments ys r.extents h)

pub region_set : (a x i : ℕ) (stack d : Segment) (ys : List Segment) → covers a stack ≡ false → IsFirst a i ys → d ≡ get_or ys i d →
    stack ∷ slice_set ys i (written d a x) ≡ set_byte (stack ∷ ys) a x
region_set a x i stack d ys off f e =
    let whole : slice_set ys i (written (get_or ys i d) a x)
    ≡ slice_set ys i (written d a x) = ap (λ s. slice_set ys i (written s a x)) (sym e) in
    rw off (ap (λ l. stack ∷ l) (sym (set_first a x i ys d f ∙ whole)))
