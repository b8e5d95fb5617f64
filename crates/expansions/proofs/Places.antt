-- Bytes that may run, segment by segment.
use Rattle.std.proofs.Common.{◌≡◌, ℕ, zero, suc, ◌+◌, ◌-◌, ◌<◌, ◌≤◌, inl, inr, true, false, Option, Some, None, refl, sym, ◌∙◌, arith}
use Rattle.std.specs.List.{range_with_len}
use Rattle.std.proofs.lemmas.Bool.{cases_lt}
use Rattle.ordered_tests.specs.Checks.{first_fault, from_to}
use Rattle.image_model.specs.Image.{Image, Segment}
use Rattle.image_model.specs.Loaded.{segment_of, is_executable}
use Rattle.code_model.specs.Addresses.{is_executable_at}
use Rattle.asm_syntax.specs.declared.rule.Rule.TheVariants as rules
use Rattle.code_model.specs.declared.spot.Spot.{Spot}
use Rattle.code_model.specs.WordChecks.{spot}
use Rattle.code_model.specs.FunctionChecks.{byte_checks}
use Rattle.image_model.specs.Segments.{IsLoadable}
use Rattle.image_model.proofs.Holders.{segment_same, found_in}

-- the first byte of those left does not run
pub byte_fails : (v : Image) (base a end : ℕ) (whole : Option Spot) → a < end → is_executable_at v a ≡ false →
    first_fault (byte_checks v base (from_to a end)) ≡ whole → Some (spot rules.Place (a - base) 3 0 base) ≡ whole
unfolding byte_checks
byte_fails v base a end whole lt f e = sym (let n : end - a ≡ suc (end - (a + 1)) = omega arith in rw n (rw f refl)) ∙ e

-- m bytes that run
bytes_run : (v : Image) (base a m n : ℕ) → m ≤ n → ((b : ℕ) → a ≤ b → b < a + m → is_executable_at v b ≡ true) →
    first_fault (byte_checks v base (range_with_len a n)) ≡ first_fault (byte_checks v base (range_with_len (a + m) (n - m)))
unfolding byte_checks
bytes_run v base a zero n le h = let z : a + 0 ≡ a = omega arith in let y : n - 0 ≡ n = omega arith in rw (z, y) refl
bytes_run v base a (suc m) zero le h = absurd (omega arith)
bytes_run v base a (suc m) (suc n) le h =
    let s : suc n - suc m ≡ n - m = omega arith in
    let t : a + suc m ≡ a + 1 + m = omega arith in
    rw (s, t) (rw (h a (omega arith) (omega arith))
    (bytes_run v base (a + 1) m n (omega arith) (λ b low high. h b (omega arith) (omega arith))))

-- the bytes of a segment that may run, from one of them on
pub segment_runs : (v : Image) (s : Segment) (base a end : ℕ) (whole : Option Spot) → IsLoadable v → segment_of v a ≡ Some s →
    is_executable s.flags ≡ true → a < end →
    first_fault (byte_checks v base (from_to a end)) ≡ whole → first_fault (byte_checks v base (from_to (s.vaddr + s.memsz) end)) ≡ whole
segment_runs v s base a end whole k h x lt e = let held = found_in v a s h in
    let low = held.0 in
    let high = held.1 in
    elim (cases_lt (s.vaddr + s.memsz) end) [
      | inl less ↦ (
          let m : ℕ = s.vaddr + s.memsz - a in
          let at : a + m ≡ s.vaddr + s.memsz = omega arith in
          let left : end - a - m ≡ end - (s.vaddr + s.memsz) = omega arith in
          let r = bytes_run v base a m (end - a) (omega arith) (λ b lo hi. runs b lo (omega arith)) in
          sym (r ∙ rw (at, left) refl) ∙ e
          )
      | inr more ↦ (
          let m : ℕ = end - a in
          let none : end - (s.vaddr + s.memsz) ≡ 0 = omega arith in
          let left : end - a - m ≡ 0 = omega arith in
          let r = bytes_run v base a m (end - a) (omega arith) (λ b lo hi. runs b lo (omega arith)) in
          sym (r ∙ rw (left, none) (empty (a + m) (s.vaddr + s.memsz))) ∙ e
          )
    ]
  where
    runs : (b : ℕ) → a ≤ b → b < s.vaddr + s.memsz → is_executable_at v b ≡ true
    runs b lo hi = let low = (found_in v a s h).0 in rw (segment_same v a b s k h (omega arith) hi) x

    empty : (i j : ℕ) → first_fault (byte_checks v base (range_with_len i 0)) ≡ first_fault (byte_checks v base (range_with_len j 0))
    empty i j = refl

pub not_runs : (v : Image) (s : Segment) (a : ℕ) → segment_of v a ≡ Some s → is_executable s.flags ≡ false → is_executable_at v a ≡ false
not_runs v s a h f = rw h f

pub none_runs : (v : Image) (a : ℕ) → (let none : Option Segment = None in segment_of v a ≡ none) → is_executable_at v a ≡ false
none_runs v a h = rw h refl

pub bytes_end : (v : Image) (base a end : ℕ) (whole : Option Spot) → end ≤ a →
    first_fault (byte_checks v base (from_to a end)) ≡ whole → None ≡ whole
unfolding byte_checks
bytes_end v base a end whole le e = sym (let n : end - a ≡ 0 = omega arith in rw n refl) ∙ e
