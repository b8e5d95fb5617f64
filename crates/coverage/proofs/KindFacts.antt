-- Kinds of loaded addresses.
use Rattle.std.proofs.Common.{◌≡◌, ℕ, zero, suc, ◌+◌, ◌-◌, ◌*◌, ◌%◌, ◌^◌, ◌<◌, ◌≤◌, inl, inr, Bool, true, false, not, ◌&&◌, ◌||◌, ◌==◌}
use Rattle.std.proofs.Common.{List, [], ◌∷◌, length, get_or, map, position, max, Option, Some, None, refl, sym, ap, subst, ◌∙◌, arith}
use Rattle.std.proofs.Common.{if◌then◌else◌}
use Rattle.std.specs.Prelude.{nat_lt, nat_le, option_map, option_and_then}
use Rattle.std.specs.List.{list_any}
use Rattle.std.specs.Option.{option_map_or}
use Rattle.std.proofs.lemmas.Bool.{cases_Bool, cases_lt, and_parts, or_cases, both_ways, eqb-true}
use Rattle.std.proofs.lemmas.Bool.Decides.{nat_tests}
use Rattle.isa_model.specs.Instructions.{nop_word}
use Rattle.word_ops.specs.Ranges.{Extent, extent, holds, meets, is_inside}
use Rattle.image_model.specs.Image.{Image, Segment}
use Rattle.image_model.specs.Loaded.{byte_at, word_at, segment_of, segment_byte}
use Rattle.image_model.specs.Segments.{IsLoadable}
use Rattle.image_model.proofs.Holders.{segment_same, byte_below}
use Rattle.layout_model.specs.Layouts.{Area, Layout, area_holds, is_foreign}
use Rattle.code_model.specs.Areas.{is_code_kind, is_in_one_area}
use Rattle.link_model.specs.Claims.{Claim}
use Rattle.coverage.proofs.Positions.{or_true}
use Rattle.link_model.specs.Kinds.{Kind, Claimed, Foreign, Padding, Stray, claim_holds, is_in_area, is_free_nop, is_padding, kind_of_byte}
use Rattle.link_model.specs.Kinds.{kind_at}

-- ---- each kind

pub claimed : (v : Image) (l : Layout) (cs : List Claim) (a byte j : ℕ) → byte_at v a ≡ Some byte → position (claim_holds a) cs ≡ Some j →
    kind_at v l cs a ≡ Some (Claimed j)
unfolding kind_at
claimed v l cs a byte j e p = rw (e, p) refl

pub foreign : (v : Image) (l : Layout) (cs : List Claim) (a byte : ℕ) → byte_at v a ≡ Some byte
    → (let none : Option ℕ = None in position (claim_holds a) cs ≡ none) →
    is_foreign l a ≡ true → kind_at v l cs a ≡ Some Foreign
unfolding kind_at
foreign v l cs a byte e p f = rw (e, p, f) refl

pub unclaimed : (v : Image) (l : Layout) (cs : List Claim) (a byte : ℕ) → byte_at v a ≡ Some byte
    → (let none : Option ℕ = None in position (claim_holds a) cs ≡ none) →
    is_foreign l a ≡ false → kind_at v l cs a ≡ Some (if is_padding v l cs a byte then Padding else Stray)
unfolding kind_at
unclaimed v l cs a byte e p f = rw (e, p, f) refl

pub unloaded : (v : Image) (l : Layout) (cs : List Claim) (a : ℕ) → (let none : Option Segment = None in segment_of v a ≡ none) →
    (let none : Option Kind = None in kind_at v l cs a ≡ none)
unfolding kind_at
unloaded v l cs a e = rw e refl

-- the byte of an address in the segment of one before it
pub byte_in : (v : Image) (a b : ℕ) (s : Segment) → IsLoadable v → segment_of v a ≡ Some s → s.vaddr ≤ b → b < s.vaddr + s.memsz →
    byte_at v b ≡ Some (segment_byte s (b - s.vaddr))
byte_in v a b s k e low high = ap (option_map (λ (t : Segment). segment_byte t (b - t.vaddr))) (segment_same v a b s k e low high)

-- ---- nops

word_bytes : (o p q r : Option ℕ) → ((n : ℕ) → p ≡ Some n → n < 256) → ((n : ℕ) → q ≡ Some n → n < 256) → ((n : ℕ) → r ≡ Some n → n < 256) →
    option_map_or (λ w. w == nop_word) (option_and_then (λ x. option_and_then (λ y. option_and_then (λ z. option_map (λ w.
    16777216 * x + 65536 * y + 256 * z + w) r) q) p) o) false ≡ true → (p ≡ Some 0) × (q ≡ Some 0) × (r ≡ Some 0)
word_bytes None p q r f g h t = absurd (cc)
word_bytes (Some x) None q r f g h t = absurd (cc)
word_bytes (Some x) (Some y) None r f g h t = absurd (cc)
word_bytes (Some x) (Some y) (Some z) None f g h t = absurd (cc)
word_bytes (Some x) (Some y) (Some z) (Some w) f g h t =
    let e = eqb-true (16777216 * x + 65536 * y + 256 * z + w) nop_word t in
    let i = f y refl in
    let j = g z refl in
    let k = h w refl in
    let one : y ≡ 0 = omega arith in
    let two : z ≡ 0 = omega arith in
    let three : w ≡ 0 = omega arith in
    (ap Some one, ap Some two, ap Some three)

abbrev is_nop : Image → ℕ → Bool
is_nop v x = option_map_or (λ w. w == nop_word) (word_at v x) false

nop_bytes : (v : Image) (x : ℕ) → IsLoadable v → is_nop v x ≡ true →
    (byte_at v (x + 1) ≡ Some 0) × (byte_at v (x + 2) ≡ Some 0) × (byte_at v (x + 3) ≡ Some 0)
nop_bytes v x k h = word_bytes (byte_at v x) (byte_at v (x + 1)) (byte_at v (x + 2)) (byte_at v (x + 3))
    (λ n e. byte_below v (x + 1) n k e) (λ n e. byte_below v (x + 2) n k e) (λ n e. byte_below v (x + 3) n k e) h

abbrev has_code : Extent → Area → Bool
has_code range area = is_code_kind area.kind && is_inside range area.range

in_area : (areas : List Area) (lo hi a : ℕ) → lo ≤ a → a < hi → list_any (has_code (extent lo hi)) areas ≡ true →
    list_any (area_holds a) areas ≡ true
in_area [] lo hi a low high h = absurd (cc)
in_area (x ∷ xs) lo hi a low high h = elim (or_cases (has_code (extent lo hi) x) (list_any (has_code (extent lo hi)) xs) h) [
  | inl t ↦ (
      let inside = (and_parts (is_code_kind x.kind) (is_inside (extent lo hi) x.range) t).1 in
      let here : holds a x.range ≡ true = grind (arith, nat_tests) in rw here refl
      )
  | inr t ↦ rw (in_area xs lo hi a low high t) (or_true (area_holds a x))
]

record IsNop (v : Image) (l : Layout) (x : ℕ) : Type 0 where
  pub word : is_nop v x ≡ true
  pub code : is_in_one_area l is_code_kind (extent x (x + 4)) ≡ true

nop_parts : (v : Image) (l : Layout) (cs : List Claim) (x : ℕ) → is_free_nop v l cs x ≡ true → IsNop v l x
unfolding is_free_nop
nop_parts v l cs x h =
    let code = is_in_one_area l is_code_kind (extent x (x + 4)) in
    let one = and_parts (is_nop v x && code) _ h in
    let two = and_parts (is_nop v x) code one.0 in record { word = two.0; code = two.1 }

-- a later byte of a free nop is zero, and in an area
later_byte : (v : Image) (l : Layout) (cs : List Claim) (x r a : ℕ) → IsLoadable v → is_free_nop v l cs x ≡ true → 0 < r → r < 4 →
    x + r ≡ a → (byte_at v a ≡ Some 0) × (is_in_area l a ≡ true)
later_byte v l cs x r a k h low high is =
    let parts = nop_parts v l cs x h in
    let zeros = nop_bytes v x k parts.word in (
      elim (cases_lt r 2) [
        | inl one ↦ (let e : a ≡ x + 1 = omega arith in rw e zeros.0)
        | inr more ↦ elim (cases_lt r 3) [
          | inl two ↦ (let e : a ≡ x + 2 = omega arith in rw e zeros.1)
          | inr three ↦ (let e : a ≡ x + 3 = omega arith in rw e zeros.2)
        ]
      ],
      in_area l.areas x (x + 4) a (omega arith) (omega arith) parts.code,
    )

-- of a byte that is not a zero in an area, padding is asked at the first byte of a word alone
pub padding_is : (v : Image) (l : Layout) (cs : List Claim) (a byte : ℕ) → IsLoadable v → byte_at v a ≡ Some byte →
    ((byte == 0) && is_in_area l a) ≡ false → is_padding v l cs a byte ≡ ((a % 4 == 0) && is_free_nop v l cs a)
padding_is v l cs a byte k e other = elim (cases_lt 0 (a % 4)) [
  | inr first ↦ (
      let yes : (a % 4 == 0) ≡ true = grind (arith, nat_tests) in
      let here : a - a % 4 ≡ a = omega arith in
      rw (other, yes, here) refl
      )
  | inl later ↦ (
      let no : (a % 4 == 0) ≡ false = grind (arith, nat_tests) in
      let not_nop : is_free_nop v l cs (a - a % 4) ≡ false = not_free (is_free_nop v l cs (a - a % 4)) refl later in
      rw (other, no, not_nop) refl
      )
]
  where
    not_free : (b : Bool) → is_free_nop v l cs (a - a % 4) ≡ b → 0 < a % 4 → b ≡ false
    not_free false h later = refl
    not_free true h later =
        let found = later_byte v l cs (a - a % 4) (a % 4) a k h later (omega arith) (omega arith) in
        let same : Some byte ≡ Some 0 = sym e ∙ found.0 in
        let zero : byte ≡ 0 = cc in
        let yes : (byte == 0) ≡ true = rw zero refl in
        let both : ((byte == 0) && is_in_area l a) ≡ true = rw (yes, found.1) refl in
        absurd (both_ways ((byte == 0) && is_in_area l a) other both)

-- ---- claims that meet a word

pub meeting_claimed : (cs : List Claim) (a e : ℕ) → list_any (λ (c : Claim). meets (extent a e) c.range) cs ≡ true →
    (b : ℕ) × (a ≤ b) × (b < e) × (list_any (claim_holds b) cs ≡ true)
meeting_claimed [] a e h = absurd (cc)
meeting_claimed (c ∷ cs) a e h = elim (or_cases (meets (extent a e) c.range) (list_any (λ (c : Claim). meets (extent a e) c.range) cs) h) [
  | inl t ↦ (
      let b = max a c.range.lo in
      let low : a ≤ b = omega arith in
      let high : b < e = grind (arith, nat_tests) in
      let here : claim_holds b c ≡ true = grind (arith, nat_tests) in
      (b, low, high, rw here refl)
      )
  | inr t ↦ (let r = meeting_claimed cs a e t in (r.0, r.1, r.2, rw r.3 (or_true (claim_holds r.0 c))))
]

pub claimed_meeting : (cs : List Claim) (a e b : ℕ) → a ≤ b → b < e → list_any (claim_holds b) cs ≡ true →
    list_any (λ (c : Claim). meets (extent a e) c.range) cs ≡ true
claimed_meeting [] a e b low high h = absurd (cc)
claimed_meeting (c ∷ cs) a e b low high h = elim (or_cases (claim_holds b c) (list_any (claim_holds b) cs) h) [
  | inl t ↦ (let here : meets (extent a e) c.range ≡ true = grind (arith, nat_tests) in rw here refl)
  | inr t ↦ rw (claimed_meeting cs a e b low high t) (or_true (meets (extent a e) c.range))
]
