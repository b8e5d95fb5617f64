-- Flat memory as it starts: off the stack it has the image's bytes and flags, and the stack can be stored to.
use Rattle.std.proofs.Common.{◌≡◌, ℕ, zero, suc, ◌+◌, ◌-◌, ◌*◌, ◌<◌, ◌≤◌, Bool, true, false, ◌&&◌, nat_lt, nat_le, List, length, Option}
use Rattle.std.proofs.Common.{Some, None, refl, sym, ap, ◌∙◌, subst, arith}
use Rattle.std.specs.Prelude.{is_some, option_map, option_and_then}
use Rattle.std.specs.Option.{option_map_or}
use Rattle.isa_model.specs.Word.{wrapped}
use Rattle.word_ops.specs.Ranges.{Extent, holds}
use Rattle.image_model.specs.Image.{Image, Segment}
use Rattle.image_model.specs.Loaded.{segment_byte, segment_of, byte_at, flags_at, word_at, is_writable, is_executable}
use Rattle.code_model.specs.Addresses.{is_executable_at, is_writable_at}
use Rattle.flat_mem.specs.Memory.{byte_in, byte_of, flags_in, is_mapped, may_write, may_run}
use Rattle.flat_mem.specs.Access.{word_of, next}
use Rattle.flat_mem.specs.Built.{built, HoldsImage}
use Rattle.flat_mem.proofs.ImageLaw.{built_holds}

-- the bytes of a loaded word
record Bytes (v : Image) (a n : ℕ) : Type 0 where
  b0 : ℕ
  b1 : ℕ
  b2 : ℕ
  b3 : ℕ
  e0 : byte_at v a ≡ Some b0
  e1 : byte_at v (a + 1) ≡ Some b1
  e2 : byte_at v (a + 2) ≡ Some b2
  e3 : byte_at v (a + 3) ≡ Some b3
  is : n ≡ 16777216 * b0 + 65536 * b1 + 256 * b2 + b3

bytes_of : (v : Image) (a n : ℕ) → word_at v a ≡ Some n → Bytes v a n
bytes_of v a n h = at (byte_at v a) (byte_at v (a + 1)) (byte_at v (a + 2)) (byte_at v (a + 3)) refl refl refl refl h
  where
    at : (p q r s : Option ℕ) → byte_at v a ≡ p → byte_at v (a + 1) ≡ q → byte_at v (a + 2) ≡ r → byte_at v (a + 3) ≡ s
        → option_and_then (λ x. option_and_then (λ y. option_and_then
        (λ z. option_map (λ w. 16777216 * x + 65536 * y + 256 * z + w) s) r) q) p ≡ Some n
        → Bytes v a n
    at (Some x) (Some y) (Some z) (Some w) e0 e1 e2 e3 k =
        let q : 16777216 * x + 65536 * y + 256 * z + w ≡ n = cc in
        record { b0 = x; b1 = y; b2 = z; b3 = w; e0 = e0; e1 = e1; e2 = e2; e3 = e3; is = sym q }
    at None q r s e0 e1 e2 e3 k = cc
    at (Some x) None r s e0 e1 e2 e3 k = cc
    at (Some x) (Some y) None s e0 e1 e2 e3 k = cc
    at (Some x) (Some y) (Some z) None e0 e1 e2 e3 k = cc

-- what has a byte has flags
pub flagged : (v : Image) (a b : ℕ) → byte_at v a ≡ Some b → is_some (flags_at v a) ≡ true
flagged v a b h = at (segment_of v a) h
  where
    at : (o : Option Segment) → option_map (λ (s : Segment). segment_byte s (a - s.vaddr)) o ≡ Some b
        → is_some (option_map (λ (s : Segment). s.flags) o) ≡ true
    at None k = cc
    at (Some s) k = refl

-- each byte of a loaded word has flags
pub word_flagged : (v : Image) (a n : ℕ) → word_at v a ≡ Some n → (i : ℕ) → i < 4 → is_some (flags_at v (a + i)) ≡ true
word_flagged v a n e i h = at i h
  where
    p : Bytes v a n
    p = bytes_of v a n e

    z : a + 0 ≡ a
    z = omega arith

    at : (i : ℕ) → i < 4 → is_some (flags_at v (a + i)) ≡ true
    at zero h = subst (λ b. is_some (flags_at v b) ≡ true) (sym z) (flagged v a p.b0 p.e0)
    at (suc zero) h = flagged v (a + 1) p.b1 p.e1
    at (suc (suc zero)) h = flagged v (a + 2) p.b2 p.e2
    at (suc (suc (suc zero))) h = flagged v (a + 3) p.b3 p.e3
    at (suc (suc (suc (suc i)))) h = absurd (omega arith)

module _ (v : Image) (range : Extent) (stack : List ℕ) (long : length stack + range.lo ≡ range.hi) where
  abbrev M : List Segment
  M = built v range.lo stack

  holding : HoldsImage v range stack M
  holding = built_holds v range stack M (omega arith) refl

  pub flags_off : (a : ℕ) → holds a range ≡ false → flags_in M a ≡ flags_at v a
  flags_off a h = holding.image_flags a h

  pub mapped_off : (a : ℕ) → holds a range ≡ false → is_some (flags_at v a) ≡ true → is_mapped M a ≡ true
  mapped_off a h e = ap is_some (flags_off a h) ∙ e

  pub write_off : (a : ℕ) → holds a range ≡ false → is_writable_at v a ≡ true → may_write M a ≡ true
  write_off a h e = ap (λ f. option_map_or is_writable f false) (flags_off a h) ∙ e

  pub run_off : (a : ℕ) → holds a range ≡ false → is_executable_at v a ≡ true → may_run M a ≡ true
  run_off a h e = ap (λ f. option_map_or is_executable f false) (flags_off a h) ∙ e

  pub stack_open : (a : ℕ) → holds a range ≡ true → may_write M a ≡ true
  stack_open a h = ap (λ f. option_map_or is_writable f false) (holding.stack_flags a h)

  pub byte_off : (a b : ℕ) → holds a range ≡ false → byte_at v a ≡ Some b → byte_of M a ≡ b
  byte_off a b h e = ap (λ o. option_map_or (λ n. n) o 0) (holding.image_bytes a h ∙ e)

  pub word_off : (a n : ℕ) → a + 4 ≤ 0xfffffff0 → ((i : ℕ) → i < 4 → holds (a + i) range ≡ false) → word_at v a ≡ Some n → word_of M a ≡ n
  word_off a n l h e =
      let p = bytes_of v a n e in
      let z : a + 0 ≡ a = omega arith in
      let q0 : byte_of M a ≡ p.b0 = byte_off a p.b0 (subst (λ b. holds b range ≡ false) z (h 0 (omega arith))) p.e0 in
      let n1 : next a ≡ a + 1 = omega arith in
      let n2 : next (next a) ≡ a + 2 = omega arith in
      let n3 : next (next (next a)) ≡ a + 3 = omega arith in
      let q1 : byte_of M (next a) ≡ p.b1 = subst (λ b. byte_of M b ≡ p.b1) (sym n1) (byte_off (a + 1) p.b1 (h 1 (omega arith)) p.e1) in
      let q2 : byte_of M (next (next a)) ≡ p.b2 =
      subst (λ b. byte_of M b ≡ p.b2) (sym n2) (byte_off (a + 2) p.b2 (h 2 (omega arith)) p.e2) in
      let q3 : byte_of M (next (next (next a))) ≡ p.b3 =
      subst (λ b. byte_of M b ≡ p.b3) (sym n3) (byte_off (a + 3) p.b3 (h 3 (omega arith)) p.e3) in
      let k = p.is in
      omega arith
