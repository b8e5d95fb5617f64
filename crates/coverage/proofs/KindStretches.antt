-- Stretches of one kind.
use Rattle.std.proofs.Common.{◌≡◌, ℕ, ◌+◌, ◌-◌, ◌%◌, ◌^◌, ◌<◌, ◌≤◌, inl, inr, Bool, true, false, not, ◌&&◌, ◌==◌, List, position, Option}
use Rattle.std.proofs.Common.{Some, None, refl, sym, ap, subst, ◌∙◌, arith, if◌then◌else◌}
use Rattle.std.specs.Prelude.{nat_le}
use Rattle.std.specs.List.{list_any}
use Rattle.std.proofs.lemmas.Bool.{cases_Bool, cases_lt, both_ways, eqb-true, false_from_ne_true, le-leb, lt-leb, ne_eqb}
use Rattle.word_ops.specs.Ranges.{extent, meets}
use Rattle.image_model.specs.Image.{Image, Segment}
use Rattle.image_model.specs.Loaded.{byte_at, segment_of, segment_byte}
use Rattle.image_model.specs.Segments.{IsLoadable}
use Rattle.layout_model.specs.Layouts.{Layout, is_foreign}
use Rattle.code_model.specs.Areas.{is_code_kind, is_in_one_area}
use Rattle.link_model.specs.Claims.{Claim}
use Rattle.link_model.specs.Kinds as model
use Rattle.link_model.specs.Kinds.{claim_holds, is_free_nop, is_in_area, is_padding, kind_at}
use Rattle.coverage.specs.declared.stretches.ClaimStretch.{ClaimStretch}
use Rattle.coverage.specs.declared.stretches.Here.{Here}
use Rattle.coverage.specs.declared.kinds.Kind.{Kind}
use Rattle.coverage.specs.declared.kinds.Kind.TheVariants as kinds
use Rattle.coverage.specs.Stretches.{HoldsArea, HoldsClaim, HoldsForeign}
use Rattle.coverage.specs.Kinds.{AreZero, EndsWithin, IsStretch, is_nop_at, kind_seen}
use Rattle.coverage.proofs.Positions.{none_passes}
use Rattle.coverage.proofs.KindFacts.{claimed, foreign, unclaimed, byte_in, padding_is, meeting_claimed, claimed_meeting}

-- ---- claimed and foreign

pub record IsKnown (v : Image) (l : Layout) (cs : List Claim) (s : Segment) (h : Here) (a end : ℕ) : Type 0 where
  pub loadable : IsLoadable v
  pub segment : segment_of v a ≡ Some s
  pub low : s.vaddr ≤ a
  pub ends : EndsWithin a end s h
  pub claim : HoldsClaim cs a h.claim

byte_known : (v : Image) (l : Layout) (cs : List Claim) (s : Segment) (h : Here) (a end b : ℕ) → IsKnown v l cs s h a end → a ≤ b
    → b < end →
    byte_at v b ≡ Some (segment_byte s (b - s.vaddr))
byte_known v l cs s h a end b k low high =
    let within = k.ends.segment in let begin = k.low in byte_in v a b s k.loadable k.segment (omega arith) (omega arith)

pub claimed_stretch : (v : Image) (l : Layout) (cs : List Claim) (s : Segment) (h : Here) (a end j : ℕ) → IsKnown v l cs s h a end →
    h.claim.holder ≡ Some j → IsStretch v l cs a (record { kind = kinds.Claimed j; end = end })
claimed_stretch v l cs s h a end j k some = record {
  some = k.ends.some;
  within = k.ends.small;
  kinds = λ b low high.
      let most = k.ends.claim in
      claimed v l cs b (segment_byte s (b - s.vaddr)) j (byte_known v l cs s h a end b k low high)
      (k.claim.holder b low (omega arith) ∙ some);
}

pub foreign_stretch : (v : Image) (l : Layout) (cs : List Claim) (s : Segment) (h : Here) (a end : ℕ) → IsKnown v l cs s h a end →
    (let none : Option ℕ = None in h.claim.holder ≡ none) → HoldsForeign l a h.foreign → h.foreign.is_foreign ≡ true →
    IsStretch v l cs a (record { kind = kinds.Foreign; end = end })
foreign_stretch v l cs s h a end k none f is = record {
  some = k.ends.some;
  within = k.ends.small;
  kinds = λ b low high.
      let most = k.ends.claim in
      let more = k.ends.foreign in
      foreign v l cs b (segment_byte s (b - s.vaddr)) (byte_known v l cs s h a end b k low high) (k.claim.holder b low (omega arith) ∙ none)
      (f b low (omega arith) ∙ is);
}

-- ---- neither

pub record IsBare (v : Image) (l : Layout) (cs : List Claim) (s : Segment) (h : Here) (a end : ℕ) : Type 0 where
  pub known : IsKnown v l cs s h a end
  pub none : (let none : Option ℕ = None in h.claim.holder ≡ none)
  pub foreign : HoldsForeign l a h.foreign
  pub native : h.foreign.is_foreign ≡ false
  pub area : HoldsArea l a h.area

bare_kind : (v : Image) (l : Layout) (cs : List Claim) (s : Segment) (h : Here) (a end b : ℕ) → IsBare v l cs s h a end → a ≤ b → b < end →
    kind_at v l cs b ≡ Some (if is_padding v l cs b (segment_byte s (b - s.vaddr)) then model.Padding else model.Stray)
bare_kind v l cs s h a end b k low high =
    let most = k.known.ends.claim in
    let more = k.known.ends.foreign in
    unclaimed v l cs b (segment_byte s (b - s.vaddr)) (byte_known v l cs s h a end b k.known low high)
    (k.known.claim.holder b low (omega arith) ∙ k.none) (k.foreign b low (omega arith) ∙ k.native)

zero_pads : (v : Image) (l : Layout) (cs : List Claim) (b byte : ℕ) → byte ≡ 0 → is_in_area l b ≡ true → is_padding v l cs b byte ≡ true
zero_pads v l cs b byte e area = let z : (byte == 0) ≡ true = rw e refl in rw (z, area) refl

pub zeros_stretch : (v : Image) (l : Layout) (cs : List Claim) (s : Segment) (h : Here) (a end z : ℕ) → IsBare v l cs s h a end → a < z
    → z ≤ end →
    AreZero s a z → h.area.is_in_area ≡ true → IsStretch v l cs a (record { kind = kinds.Padding; end = z })
zeros_stretch v l cs s h a end z k some most zeros area = record {
  some = some;
  within = let small = k.known.ends.small in omega arith;
  kinds = λ b low high.
      let far = k.known.ends.area in
      bare_kind v l cs s h a end b k low (omega arith)
      ∙ ap (λ p. Some (if p then model.Padding else model.Stray))
      (zero_pads v l cs b (segment_byte s (b - s.vaddr)) (zeros b low high) (k.area.area b low (omega arith) ∙ area));
}

-- ---- one byte that is no zero in an area

free_word : (cs : List Claim) (a : ℕ) (c : ClaimStretch) → HoldsClaim cs a c → (let none : Option ℕ = None in c.holder ≡ none) → a < c.end →
    a % 4 ≡ 0 → a < 4294967296 → not (list_any (λ (d : Claim). meets (extent a (a + 4)) d.range) cs) ≡ nat_le (a + 4) c.end
free_word cs a c h none some aligned small = elim (cases_lt c.end (a + 4)) [
  | inl lt ↦ (
      let no : nat_le (a + 4) c.end ≡ false = lt-leb (a + 4) c.end lt in
      let met : list_any (λ (d : Claim). meets (extent a (a + 4)) d.range) cs ≡ true =
      claimed_meeting cs a (a + 4) c.end (omega arith) lt (h.next none some (omega arith)) in
      rw (met, no) refl
      )
  | inr ge ↦ (
      let yes : nat_le (a + 4) c.end ≡ true = le-leb (a + 4) c.end ge in
      let clear : list_any (λ (d : Claim). meets (extent a (a + 4)) d.range) cs ≡ false =
      false_from_ne_true (list_any (λ (d : Claim). meets (extent a (a + 4)) d.range) cs) (λ t. unmet (meeting_claimed cs a (a + 4) t) ge) in
      rw (clear, yes) refl
      )
]
  where
    unmet : (b : ℕ) × (a ≤ b) × (b < a + 4) × (list_any (claim_holds b) cs ≡ true) → a + 4 ≤ c.end → ⊥
    unmet m ge =
        let low = m.1 in
        let high = m.2 in
        both_ways (list_any (claim_holds m.0) cs) (none_passes (claim_holds m.0) cs (h.holder m.0 low (omega arith) ∙ none)) m.3

abbrev pub is_free : Image → Layout → ℕ → ℕ → Bool
is_free v l a end = is_nop_at v a && is_in_one_area l is_code_kind (extent a (a + 4)) && nat_le (a + 4) end

free_is : (v : Image) (l : Layout) (cs : List Claim) (a : ℕ) (c : ClaimStretch) → HoldsClaim cs a c →
    (let none : Option ℕ = None in c.holder ≡ none) → a < c.end → a % 4 ≡ 0 → a < 4294967296 → is_free_nop v l cs a ≡ is_free v l a c.end
unfolding is_free_nop
free_is v l cs a c h none some aligned small =
    ap (λ b. is_nop_at v a && is_in_one_area l is_code_kind (extent a (a + 4)) && b) (free_word cs a c h none some aligned small)

pads : (v : Image) (l : Layout) (cs : List Claim) (s : Segment) (h : Here) (a end : ℕ) → IsBare v l cs s h a end →
    ((segment_byte s (a - s.vaddr) == 0) && is_in_area l a) ≡ false →
    is_padding v l cs a (segment_byte s (a - s.vaddr)) ≡ ((a % 4 == 0) && is_free v l a h.claim.end)
pads v l cs s h a end k next =
    let some = k.known.ends.some in
    let most = k.known.ends.claim in
    let small = k.known.ends.small in
    padding_is v l cs a (segment_byte s (a - s.vaddr)) k.known.loadable (byte_known v l cs s h a end a k.known (omega arith) some) next
    ∙ at (a % 4 == 0) refl (omega arith) (omega arith)
  where
    at : (b : Bool) → (a % 4 == 0) ≡ b → a < h.claim.end → a < 4294967296 → (b && is_free_nop v l cs a) ≡ (b && is_free v l a h.claim.end)
    at true e some small = free_is v l cs a h.claim k.known.claim k.none some (eqb-true (a % 4) 0 e) small
    at false e some small = refl

byte_stretch : (v : Image) (l : Layout) (cs : List Claim) (s : Segment) (h : Here) (a end : ℕ) → IsBare v l cs s h a end →
    ((segment_byte s (a - s.vaddr) == 0) && is_in_area l a) ≡ false → (f : Bool) → f ≡ ((a % 4 == 0) && is_free v l a h.claim.end) →
    (kind : Kind) → kind_seen kind ≡ (if f then model.Padding else model.Stray) →
    IsStretch v l cs a (record { kind = kind; end = a + 1 })
byte_stretch v l cs s h a end k next f is kind e = record {
  some = omega arith;
  within = let some = k.known.ends.some in let small = k.known.ends.small in omega arith;
  kinds = λ b low high.
      let same : b ≡ a = omega arith in
      rw same (bare_kind v l cs s h a end a k (omega arith) k.known.ends.some
      ∙ ap (λ p. Some (if p then model.Padding else model.Stray)) (pads v l cs s h a end k next ∙ sym is)
      ∙ ap Some (sym e));
}

pub padded_byte : (v : Image) (l : Layout) (cs : List Claim) (s : Segment) (h : Here) (a end : ℕ) → IsBare v l cs s h a end →
    ((segment_byte s (a - s.vaddr) == 0) && is_in_area l a) ≡ false → ((a % 4 == 0) && is_free v l a h.claim.end) ≡ true →
    IsStretch v l cs a (record { kind = kinds.Padding; end = a + 1 })
padded_byte v l cs s h a end k next free = byte_stretch v l cs s h a end k next true (sym free) kinds.Padding refl

pub stray_byte : (v : Image) (l : Layout) (cs : List Claim) (s : Segment) (h : Here) (a end : ℕ) → IsBare v l cs s h a end →
    ((segment_byte s (a - s.vaddr) == 0) && is_in_area l a) ≡ false → ((a % 4 == 0) && is_free v l a h.claim.end) ≡ false →
    IsStretch v l cs a (record { kind = kinds.Stray; end = a + 1 })
stray_byte v l cs s h a end k next free = byte_stretch v l cs s h a end k next false (sym free) kinds.Stray refl

-- ---- zero bytes

pub not_zero : (byte : ℕ) (area : Bool) → (byte ≡ 0 → ⊥) → ((byte == 0) && area) ≡ false
not_zero byte area h = let no : (byte == 0) ≡ false = ne_eqb byte 0 h in rw no refl

pub not_in_area : (byte : ℕ) (area : Bool) → area ≡ false → ((byte == 0) && area) ≡ false
not_in_area byte area h = rw h (and_false (byte == 0))
  where
    and_false : (b : Bool) → (b && false) ≡ false
    and_false true = refl
    and_false false = refl
