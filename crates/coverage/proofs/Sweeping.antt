-- What is known of the addresses below one, after one stretch more.
use Rattle.std.proofs.Common.{◌≡◌, ℕ, ◌+◌, ◌-◌, ◌^◌, ◌<◌, ◌≤◌, inl, inr, Bool, true, false, List, [], map, Option, Some, None, refl, sym}
use Rattle.std.proofs.Common.{ap, subst, ◌∙◌, arith}
use Rattle.std.proofs.lemmas.Bool.{cases_lt, both_ways}
use Rattle.image_model.specs.Image.{Image, Segment}
use Rattle.image_model.specs.Loaded.{byte_at, segment_of, segment_byte}
use Rattle.image_model.specs.Segments.{IsLoadable}
use Rattle.image_model.proofs.Holders.{high_segment}
use Rattle.layout_model.specs.Layouts.{Layout}
use Rattle.link_model.specs.Claims.{Claim}
use Rattle.link_model.specs.Kinds as model
use Rattle.link_model.specs.Kinds.{kind_at, NoneStray}
use Rattle.link_model.specs.Account.{same_kind, tally_below}
use Rattle.link_laws.specs.Laws.{IsLowestStray}
use Rattle.coverage.specs.declared.claims.Kept.{Kept}
use Rattle.coverage.specs.declared.stretches.Here.{Here}
use Rattle.coverage.specs.declared.kinds.Stretch.{Stretch}
use Rattle.coverage.specs.declared.tally.Tally.{Tally}
use Rattle.coverage.specs.Orders.{kept_seen}
use Rattle.coverage.specs.Stretches.{HoldsHere, NoneLoaded}
use Rattle.coverage.specs.Kinds.{IsStretch, kind_seen}
use Rattle.coverage.specs.Tallies.{tally_seen, with_stretch, IsCounted}
use Rattle.coverage.specs.Sweeps.{Swept}
use Rattle.coverage.proofs.Outside.{past_later}
use Rattle.coverage.proofs.Stretching.{stretch_below, gap_below}
use Rattle.coverage.proofs.KindFacts.{unloaded, byte_in}

pub here_later : (l : Layout) (ks : List Kept) (a b : ℕ) (h : Here) → HoldsHere l ks a h → a ≤ b → HoldsHere l ks b h
here_later l ks a b h k le = record {
  within = k.within;
  passed = past_later ks h.passed a b k.passed le;
  claim = record {
    holder = λ i low high. k.claim.holder i (omega arith) high;
    next = λ none some less. k.claim.next none (omega arith) less;
  };
  foreign = λ i low high. k.foreign i (omega arith) high;
  area = record {
    area = λ i low high. k.area.area i (omega arith) high;
    code = λ t lo hi low high. k.area.code t lo hi (omega arith) high;
  };
}

pub swept_start : (v : Image) (l : Layout) (ks : List Kept) (t : Tally) (h : Here) →
    tally_seen t ≡ record { runs = []; padding = 0; foreign = 0; loaded = 0 } → HoldsHere l ks 0 h → IsCounted t 0 → Swept v l ks t h 0
unfolding tally_below
swept_start v l ks t h e k n = record { tally = e; none = λ b lt stray. absurd (omega arith); here = k; counted = n }

pub swept_gap : (v : Image) (l : Layout) (ks : List Kept) (t : Tally) (h : Here) (a end : ℕ) → Swept v l ks t h a → a ≤ end
    → NoneLoaded v a end →
    Swept v l ks t h end
swept_gap v l ks t h a end s le gap = record {
  tally = s.tally ∙ sym (gap_below v l cs a end le none);
  none = λ b lt stray. elim (cases_lt b a) [
    | inl below ↦ s.none b below stray
    | inr from ↦ (let wrong : ◌≡◌ {A = Option model.Kind} (Some model.Stray) None = sym stray ∙ none b from lt in absurd (cc))
  ];
  here = here_later l ks a end h s.here le;
  counted = let p = s.counted.padding in let f = s.counted.foreign in let m = s.counted.loaded in record {
    padding = omega arith;
    foreign = omega arith;
    loaded = omega arith;
  };
}
  where
    cs : List Claim
    cs = map kept_seen ks

    none : (b : ℕ) → a ≤ b → b < end → (let none : Option model.Kind = None in kind_at v l cs b ≡ none)
    none b low high = unloaded v l cs b (gap b low high)

stray_is : (k : model.Kind) → k ≡ model.Stray → same_kind k model.Stray ≡ true
stray_is k e = rw e refl

is_stray : (k : model.Kind) → same_kind k model.Stray ≡ true → k ≡ model.Stray
is_stray (model.Claimed j) h = absurd (cc)
is_stray model.Foreign h = absurd (cc)
is_stray model.Padding h = absurd (cc)
is_stray model.Stray h = refl

pub swept_stretch : (v : Image) (l : Layout) (ks : List Kept) (t new : Tally) (last h : Here) (a : ℕ) (s : Stretch)
    → Swept v l ks t last a →
    HoldsHere l ks a h → IsStretch v l (map kept_seen ks) a s → same_kind (kind_seen s.kind) model.Stray ≡ false →
    tally_seen new ≡ with_stretch (tally_seen t) a s.end (kind_seen s.kind) → IsCounted new s.end → Swept v l ks new h s.end
swept_stretch v l ks t new last h a s swept here stretch other e counted = record {
  tally =
      e ∙ ap (λ x. with_stretch x a s.end (kind_seen s.kind)) swept.tally
      ∙ sym (stretch_below v l (map kept_seen ks) a s.end (kind_seen s.kind) stretch.some stretch.kinds);
  none = λ b lt stray. elim (cases_lt b a) [
    | inl below ↦ swept.none b below stray
    | inr from ↦ (
        let same : Some (kind_seen s.kind) ≡ Some model.Stray = sym (stretch.kinds b from lt) ∙ stray in
        let kind : kind_seen s.kind ≡ model.Stray = cc in
        absurd (both_ways (same_kind (kind_seen s.kind) model.Stray) other (stray_is (kind_seen s.kind) kind))
        )
  ];
  here = here_later l ks a s.end h here (let some = stretch.some in omega arith);
  counted = counted;
}

pub stray_cause : (v : Image) (l : Layout) (ks : List Kept) (t : Tally) (h : Here) (a byte : ℕ) (s : Segment) (stretch : Stretch) →
    Swept v l ks t h a → IsStretch v l (map kept_seen ks) a stretch → same_kind (kind_seen stretch.kind) model.Stray ≡ true → IsLoadable v →
    segment_of v a ≡ Some s → s.vaddr ≤ a → a < s.vaddr + s.memsz → byte ≡ segment_byte s (a - s.vaddr) →
    IsLowestStray v l (map kept_seen ks) a byte
stray_cause v l ks t h a byte s stretch swept k is load at low high e = record {
  loaded = byte_in v a a s load at low high ∙ ap Some (sym e);
  stray = k.kinds a (omega arith) k.some ∙ ap Some (is_stray (kind_seen stretch.kind) is);
  lower = swept.none;
}

pub none_stray : (v : Image) (l : Layout) (ks : List Kept) (t : Tally) (h : Here) (a : ℕ) → IsLoadable v → Swept v l ks t h a → 2 ^ 32 ≤ a →
    NoneStray v l (map kept_seen ks)
none_stray v l ks t h a load swept all b = λ stray. elim (cases_lt b a) [
  | inl below ↦ swept.none b below stray
  | inr from ↦ (
      let gone = unloaded v l (map kept_seen ks) b (high_segment v b load (omega arith)) in
      let wrong : ◌≡◌ {A = Option model.Kind} (Some model.Stray) None = sym stray ∙ gone in absurd (cc)
      )
]
