-- What is built holds what the image loads, and the stack.
use Rattle.std.proofs.Common.{◌≡◌, ℕ, zero, suc, ◌+◌, ◌-◌, ◌<◌, ◌≤◌, inl, inr, Bool, true, false, List, [], ◌∷◌, ◌++◌, length, map}
use Rattle.std.proofs.Common.{replicate, Option, Some, None, slice_index, nat_lt, refl, sym, arith, ◌∙◌, ap}
use Rattle.std.specs.Prelude.{find, option_map, slice_get}
use Rattle.std.proofs.lemmas.Bool.{cases_Bool, ltb-false}
use Rattle.std.proofs.lemmas.Bool.Decides.{nat_tests}
use Rattle.word_ops.specs.Ranges.{Extent, holds}
use Rattle.image_model.specs.Image.{Image, Segment}
use Rattle.image_model.specs.Loaded.{covers, segment_byte, is_writable, byte_at, flags_at}
use Rattle.flat_mem.specs.Memory.{byte_in, flags_in}
use Rattle.flat_mem.specs.Built.{kept, built, stack_segment, HoldsImage}

zeros_alone : (n i : ℕ) → slice_index (replicate n 0) i ≡ 0
zeros_alone zero i = refl
zeros_alone (suc n) zero = refl
zeros_alone (suc n) (suc i) = zeros_alone n i

past : (i : ℕ) → 0 ≡ slice_index [] i
past zero = refl
past (suc i) = refl

-- zeros behind bytes are read as zeros are past their end
zeros_behind : (held : List ℕ) (n i : ℕ) → slice_index (held ++ replicate n 0) i ≡ slice_index held i
zeros_behind [] n i = zeros_alone n i ∙ past i
zeros_behind (x ∷ xs) n zero = refl
zeros_behind (x ∷ xs) n (suc i) = zeros_behind xs n i

-- the same segment covers an address
kept_covers : (s : Segment) (a : ℕ) → covers a (kept s) ≡ covers a s
kept_covers s a = elim (cases_Bool (is_writable s.flags)) [ inl t ↦ rw t refl | inr f ↦ rw f refl ]

kept_flags : (s : Segment) → (kept s).flags ≡ s.flags
kept_flags s = elim (cases_Bool (is_writable s.flags)) [ inl t ↦ rw t refl | inr f ↦ rw f refl ]

kept_vaddr : (s : Segment) → (kept s).vaddr ≡ s.vaddr
kept_vaddr s = elim (cases_Bool (is_writable s.flags)) [ inl t ↦ rw t refl | inr f ↦ rw f refl ]

find_kept : (ss : List Segment) (a : ℕ) → find (covers a) (map kept ss) ≡ option_map kept (find (covers a) ss)
find_kept [] a = refl
find_kept (s ∷ ss) a = at (find_kept ss a) (covers a s) refl
  where
    at : find (covers a) (map kept ss) ≡ option_map kept (find (covers a) ss) → (t : Bool) → covers a s ≡ t
        → find (covers a) (map kept (s ∷ ss)) ≡ option_map kept (find (covers a) (s ∷ ss))
    at rest true e = rw (kept_covers s a, e) refl
    at rest false e = rw (kept_covers s a, e) rest

-- the byte of a segment is that of its list, which has 0 past its end
beyond : (xs : List ℕ) (i : ℕ) → length xs ≤ i → slice_index xs i ≡ 0
beyond [] zero h = refl
beyond [] (suc i) h = refl
beyond (x ∷ xs) zero h = absurd (omega arith)
beyond (x ∷ xs) (suc i) h = beyond xs i (omega arith)

pub plain_byte : (s : Segment) (i : ℕ) → segment_byte s i ≡ slice_index s.held i
plain_byte s i = at (nat_lt i (length s.held)) refl
  where
    at : (t : Bool) → nat_lt i (length s.held) ≡ t → segment_byte s i ≡ slice_index s.held i
    at true e = rw e refl
    at false e = rw e (sym (beyond s.held i (ltb-false _ _ e)))

-- what is kept of a segment has its bytes
kept_byte : (s : Segment) (i : ℕ) → segment_byte (kept s) i ≡ segment_byte s i
kept_byte s i = plain_byte (kept s) i ∙ at (is_writable s.flags) refl ∙ sym (plain_byte s i)
  where
    at : (t : Bool) → is_writable s.flags ≡ t → slice_index (kept s).held i ≡ slice_index s.held i
    at true e = rw e (zeros_behind s.held (s.memsz - length s.held) i)
    at false e = rw e refl

bytes_kept : (v : Image) (a : ℕ) → byte_in (map kept v.segments) a ≡ byte_at v a
bytes_kept v a = rw (find_kept v.segments a) (at (find (covers a) v.segments))
  where
    at : (o : Option Segment) → option_map (λ (s : Segment). segment_byte s (a - s.vaddr)) (option_map kept o)
        ≡ option_map (λ (s : Segment). segment_byte s (a - s.vaddr)) o
    at None = refl
    at (Some s) = rw (kept_vaddr s, kept_byte s (a - s.vaddr)) refl

flags_kept : (v : Image) (a : ℕ) → flags_in (map kept v.segments) a ≡ flags_at v a
flags_kept v a = rw (find_kept v.segments a) (at (find (covers a) v.segments))
  where
    at : (o : Option Segment) → option_map (λ (s : Segment). s.flags) (option_map kept o) ≡ option_map (λ (s : Segment). s.flags) o
    at None = refl
    at (Some s) = rw (kept_flags s) refl

-- the stack's own bytes
get_index : (xs : List ℕ) (i : ℕ) → i < length xs → Some (slice_index xs i) ≡ slice_get xs i
get_index [] i h = absurd (omega arith)
get_index (x ∷ xs) zero h = refl
get_index (x ∷ xs) (suc i) h = get_index xs i (omega arith)

stack_byte : (from : ℕ) (stack : List ℕ) (a : ℕ) → from ≤ a → a < from + length stack →
    Some (segment_byte (stack_segment from stack) (a - from)) ≡ slice_get stack (a - from)
stack_byte from stack a low high =
    let within : a - from < length stack = omega arith in
    ap (λ n. Some n) (plain_byte (stack_segment from stack) (a - from)) ∙ get_index stack (a - from) within

pub built_holds : (v : Image) (range : Extent) (stack : List ℕ) (m : List Segment) → range.hi ≡ range.lo + length stack →
    m ≡ built v range.lo stack →
    HoldsImage v range stack m
built_holds v range stack m size e = rw e (record {
  stack_bytes = λ a h. (
      let there : covers a (stack_segment range.lo stack) ≡ true = inside a true h in
      let low : range.lo ≤ a = grind (arith, nat_tests, h) in
      let high : a < range.lo + length stack = grind (arith, nat_tests, h, size) in
      rw there (stack_byte range.lo stack a low high)
      );
  stack_flags = λ a h. (let there : covers a (stack_segment range.lo stack) ≡ true = inside a true h in rw there refl);
  image_bytes = λ a h. (let off : covers a (stack_segment range.lo stack) ≡ false = inside a false h in rw off (bytes_kept v a));
  image_flags = λ a h. (let off : covers a (stack_segment range.lo stack) ≡ false = inside a false h in rw off (flags_kept v a));
})
  where
    inside : (a : ℕ) (t : Bool) → holds a range ≡ t → covers a (stack_segment range.lo stack) ≡ t
    inside a t h = (rw size at h)
