-- Addresses in segments with PF_W, segment by segment.
use Rattle.std.proofs.Common.{◌≡◌, ℕ, zero, suc, ◌+◌, ◌-◌, ◌<◌, ◌≤◌, inl, inr, Bool, true, false, Some, None, refl, sym, ◌∙◌, arith}
use Rattle.std.specs.Prelude.{Option}
use Rattle.std.specs.List.{list_all}
use Rattle.std.proofs.lemmas.Bool.{cases_lt}
use Rattle.ordered_tests.specs.Checks.{from_to}
use Rattle.ordered_tests.proofs.Faults.{from_to_step, from_to_end}
use Rattle.image_model.specs.Image.{Image, Segment}
use Rattle.image_model.specs.Loaded.{segment_of, is_writable}
use Rattle.image_model.specs.Segments.{IsLoadable}
use Rattle.image_model.proofs.Holders.{segment_same}
use Rattle.code_model.specs.Addresses.{is_writable_at}

all_pass : (p : ℕ → Bool) (a n k : ℕ) → ((b : ℕ) → a ≤ b → b < a + k → p b ≡ true) →
    list_all p (from_to a n) ≡ list_all p (from_to (a + k) n)
all_pass p a n zero h = let e : a + 0 ≡ a = omega arith in rw e refl
all_pass p a n (suc k) h =
    let e : a + suc k ≡ a + 1 + k = omega arith in
    let rest = all_pass p (a + 1) n k (λ b low high. h b (omega arith) (omega arith)) in
    elim (cases_lt a n) [
      | inl lt ↦ rw (from_to_step a n lt, h a (omega arith) (omega arith), e) rest
      | inr le ↦ rw (from_to_end a n le, from_to_end (a + suc k) n (omega arith)) refl
    ]

pub all_to : (p : ℕ → Bool) (a b n : ℕ) → a ≤ b → ((c : ℕ) → a ≤ c → c < b → p c ≡ true) →
    list_all p (from_to b n) ≡ list_all p (from_to a n)
all_to p a b n le h =
    let e : a + (b - a) ≡ b = omega arith in
    sym (rw e at (all_pass p a n (b - a) (λ c low high. h c low (omega arith))))

pub one_fails : (p : ℕ → Bool) (a n : ℕ) → a < n → p a ≡ false → list_all p (from_to a n) ≡ false
one_fails p a n lt h = rw (from_to_step a n lt, h) refl

pub none_left : (p : ℕ → Bool) (a n : ℕ) → n ≤ a → list_all p (from_to a n) ≡ true
none_left p a n le = rw (from_to_end a n le) refl

pub not_there : (v : Image) (a : ℕ) → (let none : Option Segment = None in none ≡ segment_of v a) → is_writable_at v a ≡ false
not_there v a h = rw (sym h) refl

pub writable_there : (v : Image) (a : ℕ) (s : Segment) → Some s ≡ segment_of v a → is_writable_at v a ≡ is_writable s.flags
writable_there v a s h = rw (sym h) refl

pub writable_throughout : (v : Image) (a : ℕ) (s : Segment) → IsLoadable v → Some s ≡ segment_of v a → s.vaddr ≤ a →
    is_writable s.flags ≡ true →
    (b : ℕ) → a ≤ b → b < s.vaddr + s.memsz → is_writable_at v b ≡ true
writable_throughout v a s k h low w b from to =
    writable_there v b s (sym (segment_same v a b s k (sym h) (omega arith) to)) ∙ w
