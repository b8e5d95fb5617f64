-- The first fault of neighbouring bytes, from the front.
use Rattle.std.proofs.Common.{◌≡◌, ℕ, zero, suc, ◌+◌, ◌-◌, ◌<◌, ◌≤◌, true, false, List, [], ◌∷◌, ◌++◌, length, get_or, drop, replicate, inl}
use Rattle.std.proofs.Common.{inr, subst, Option, Some, None, refl, sym, ap, ◌∙◌, arith}
use Rattle.std.specs.Prelude.{◌==◌, nat_lt, unwrap_or}
use Rattle.std.specs.Option.{option_map_or, option_or}
use Rattle.std.proofs.lemmas.Bool.{cases_Bool}
use Rattle.std.proofs.lemmas.Bool.Decides.{nat_tests}
use Rattle.std.proofs.lemmas.List.{drop_more}
use Rattle.asm_syntax.specs.declared.rule.Rule.TheVariants as rules
use Rattle.image_model.specs.Image.{Image, Segment}
use Rattle.image_model.specs.Loaded.{byte_at, segment_of, segment_byte}
use Rattle.image_model.proofs.Holders.{segment_same}
use Rattle.code_model.specs.declared.spot.Spot.{Spot}
use Rattle.code_model.specs.WordChecks.{spot}
use Rattle.code_model.specs.Variables.{no_byte}
use Rattle.data_match.specs.Stretches.{bytes_fault, HasAll}

same_number : (n : ℕ) → (n == n) ≡ true
same_number n = grind (arith, nat_tests)

-- ---- one byte

pub byte_passes : (v : Image) (a o b : ℕ) (bs : List ℕ) → byte_at v (a + o) ≡ Some b →
    bytes_fault v a o (b ∷ bs) ≡ bytes_fault v a (o + 1) bs
unfolding bytes_fault
byte_passes v a o b bs h = rw (h, same_number b) refl

pub byte_fails : (v : Image) (a o b : ℕ) (bs : List ℕ) → option_map_or (λ found. found == b) (byte_at v (a + o)) false ≡ false →
    bytes_fault v a o (b ∷ bs) ≡ Some (spot rules.DataBytes o 0 b (unwrap_or (byte_at v (a + o)) no_byte))
unfolding bytes_fault
byte_fails v a o b bs h = rw h refl

pub no_bytes : (v : Image) (a o : ℕ) → (let none : Option Spot = None in bytes_fault v a o [] ≡ none)
unfolding bytes_fault
no_bytes v a o = refl

-- ---- bytes of one segment

pub byte_here : (v : Image) (s : Segment) (lo hi a : ℕ) → HasAll v s lo hi → lo ≤ a → a < hi →
    byte_at v a ≡ Some (segment_byte s (a - s.vaddr))
byte_here v s lo hi a h low high =
    let same : segment_of v a ≡ Some s = segment_same v h.home a s h.loadable h.found (omega (arith, h.low)) (omega (arith, h.high)) in
    rw same refl

-- ---- appended bytes

pub bytes_append : (v : Image) (a o : ℕ) (xs ys : List ℕ) → bytes_fault v a o (xs ++ ys)
    ≡ option_or (bytes_fault v a o xs) (bytes_fault v a (o + length xs) ys)
unfolding bytes_fault
bytes_append v a o [] ys = let e : o + 0 ≡ o = omega arith in rw e refl
bytes_append v a o (x ∷ xs) ys =
    let e : o + suc (length xs) ≡ o + 1 + length xs = omega arith in
    elim (cases_Bool (option_map_or (λ found. found == x) (byte_at v (a + o)) false)) [
      | inl t ↦ rw (t, e) (bytes_append v a (o + 1) xs ys)
      | inr f ↦ rw f refl
    ]

-- ---- a list of bytes, by place

-- a byte of the segment, at an offset of the variable
pub record IsFound (v : Image) (s : Segment) (lo hi a o at found : ℕ) : Type 0 where
  pub has : HasAll v s lo hi
  pub place : at ≡ a + o
  pub low : lo ≤ at
  pub high : at < hi
  pub byte : found ≡ segment_byte s (at - s.vaddr)

pub found_byte : (v : Image) (s : Segment) (lo hi a o at found : ℕ) → IsFound v s lo hi a o at found → byte_at v (a + o) ≡ Some found
found_byte v s lo hi a o at found h =
    subst (λ x. byte_at v x ≡ Some found) h.place (byte_here v s lo hi at h.has h.low h.high ∙ ap Some (sym h.byte))

pub listed_passes : (v : Image) (a o i found : ℕ) (bytes : List ℕ) → byte_at v (a + (o + i)) ≡ Some found →
    i < length bytes → found ≡ get_or bytes i 0 →
    bytes_fault v a (o + i) (drop i bytes) ≡ bytes_fault v a (o + (i + 1)) (drop (i + 1) bytes)
listed_passes v a o i found bytes h lt same =
    let f : o + i + 1 ≡ o + (i + 1) = omega arith in
    let is : byte_at v (a + (o + i)) ≡ Some (get_or bytes i 0) = h ∙ ap Some same in
    rw (drop_more bytes i 0 lt) (rw f at (byte_passes v a (o + i) (get_or bytes i 0) (drop (i + 1) bytes) is))

pub listed_fails : (v : Image) (a o i found : ℕ) (bytes : List ℕ) → byte_at v (a + (o + i)) ≡ Some found →
    i < length bytes → (found ≡ get_or bytes i 0 → ⊥) →
    bytes_fault v a (o + i) (drop i bytes) ≡ Some (spot rules.DataBytes (o + i) 0 (get_or bytes i 0) found)
listed_fails v a o i found bytes is lt other =
    let differ : (found == get_or bytes i 0) ≡ false = grind (arith, nat_tests) in
    let fails : option_map_or (λ found. found == get_or bytes i 0) (byte_at v (a + (o + i))) false ≡ false = rw is differ in
    let here = byte_fails v a (o + i) (get_or bytes i 0) (drop (i + 1) bytes) fails in
    rw (drop_more bytes i 0 lt) (rw is at here)

no_byte_at : (v : Image) (a b : ℕ) → (let none : Option Segment = None in none ≡ segment_of v a) → a ≡ b →
    (let none : Option ℕ = None in byte_at v b ≡ none)
no_byte_at v a b h e = subst (λ x. let none : Option ℕ = None in byte_at v x ≡ none) e (rw (sym h) refl)

pub listed_missing : (v : Image) (a o i at : ℕ) (bytes : List ℕ) → i < length bytes →
    (let none : Option Segment = None in none ≡ segment_of v at) → at ≡ a + (o + i) →
    bytes_fault v a (o + i) (drop i bytes) ≡ Some (spot rules.DataBytes (o + i) 0 (get_or bytes i 0) no_byte)
listed_missing v a o i at bytes lt h e =
    let is : (let none : Option ℕ = None in byte_at v (a + (o + i)) ≡ none) = no_byte_at v at (a + (o + i)) h e in
    let fails : option_map_or (λ found. found == get_or bytes i 0) (byte_at v (a + (o + i))) false ≡ false = rw is refl in
    let here = byte_fails v a (o + i) (get_or bytes i 0) (drop (i + 1) bytes) fails in
    rw (drop_more bytes i 0 lt) (rw is at here)

-- ---- zeros

one_zero : (n i : ℕ) → i < n → replicate {A = ℕ} (n - i) 0 ≡ 0 ∷ replicate (n - (i + 1)) 0
one_zero n i lt = let e : n - i ≡ suc (n - (i + 1)) = omega arith in rw e refl

pub zero_passes : (v : Image) (a o i n found : ℕ) → byte_at v (a + (o + i)) ≡ Some found → i < n → found ≡ 0 →
    bytes_fault v a (o + i) (replicate (n - i) 0) ≡ bytes_fault v a (o + (i + 1)) (replicate (n - (i + 1)) 0)
zero_passes v a o i n found h lt zero_is =
    let is : byte_at v (a + (o + i)) ≡ Some 0 = h ∙ ap Some zero_is in
    let f : o + i + 1 ≡ o + (i + 1) = omega arith in
    rw (one_zero n i lt) (rw f at (byte_passes v a (o + i) 0 (replicate (n - (i + 1)) 0) is))

pub zero_fails : (v : Image) (a o i n found : ℕ) → byte_at v (a + (o + i)) ≡ Some found → i < n → (found ≡ 0 → ⊥) →
    bytes_fault v a (o + i) (replicate (n - i) 0) ≡ Some (spot rules.DataBytes (o + i) 0 0 found)
zero_fails v a o i n found is lt other =
    let differ : (found == 0) ≡ false = grind (arith, nat_tests) in
    let fails : option_map_or (λ found. found == 0) (byte_at v (a + (o + i))) false ≡ false = rw is differ in
    let here = byte_fails v a (o + i) 0 (replicate (n - (i + 1)) 0) fails in
    rw (one_zero n i lt) (rw is at here)

pub zero_missing : (v : Image) (a o i n at : ℕ) → i < n → (let none : Option Segment = None in none ≡ segment_of v at) →
    at ≡ a + (o + i) →
    bytes_fault v a (o + i) (replicate (n - i) 0) ≡ Some (spot rules.DataBytes (o + i) 0 0 no_byte)
zero_missing v a o i n at lt h e =
    let is : (let none : Option ℕ = None in byte_at v (a + (o + i)) ≡ none) = no_byte_at v at (a + (o + i)) h e in
    let fails : option_map_or (λ found. found == 0) (byte_at v (a + (o + i))) false ≡ false = rw is refl in
    let here = byte_fails v a (o + i) 0 (replicate (n - (i + 1)) 0) fails in
    rw (one_zero n i lt) (rw is at here)

-- zeros that the segment does not have in the file
pub zeros_pass : (v : Image) (s : Segment) (lo hi a o n i k : ℕ) → HasAll v s lo hi → lo ≤ a + (o + i) → a + (o + (i + k)) ≤ hi →
    s.vaddr + length s.held ≤ a + (o + i) → i + k ≤ n →
    bytes_fault v a (o + i) (replicate (n - i) 0) ≡ bytes_fault v a (o + (i + k)) (replicate (n - (i + k)) 0)
zeros_pass v s lo hi a o n i zero h low high behind le = let e : i + 0 ≡ i = omega arith in rw e refl
zeros_pass v s lo hi a o n i (suc k) h low high behind le =
    let e : i + suc k ≡ i + 1 + k = omega arith in
    let vaddr = h.low in
    let past : nat_lt (a + (o + i) - s.vaddr) (length s.held) ≡ false = grind (arith, nat_tests) in
    let is : byte_at v (a + (o + i)) ≡ Some 0 = byte_here v s lo hi (a + (o + i)) h low (omega arith) ∙ rw past refl in
    rw e (zero_passes v a o i n 0 is (omega arith) refl
    ∙ zeros_pass v s lo hi a o n (i + 1) k h (omega arith) (omega arith) (omega arith) (omega arith))

-- ---- the end

pub no_more : {X : Type 0} (xs : List X) (i : ℕ) → length xs ≤ i → drop i xs ≡ []
no_more [] zero h = refl
no_more [] (suc i) h = refl
no_more (x ∷ xs) zero h = absurd (omega arith)
no_more (x ∷ xs) (suc i) h = no_more xs i (omega arith)

pub listed_end : (v : Image) (a o i : ℕ) (bytes : List ℕ) → length bytes ≤ i →
    (let none : Option Spot = None in bytes_fault v a o (drop i bytes) ≡ none)
listed_end v a o i bytes h = rw (no_more bytes i h) (no_bytes v a o)

pub zeros_end : (v : Image) (a o i n : ℕ) → n ≤ i → (let none : Option Spot = None in bytes_fault v a o (replicate (n - i) 0) ≡ none)
zeros_end v a o i n h = let e : n - i ≡ 0 = omega arith in rw e (no_bytes v a o)
