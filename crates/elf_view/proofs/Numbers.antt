-- What `byteorder` reads is the number at a place.
use Rattle.std.proofs.Common.{◌≡◌, ℕ, ◌+◌, ◌-◌, ◌<◌, ◌≤◌, List, length, get_or, take, drop, arith, ◌∙◌}
use Rattle.std.proofs.lemmas.List.{get_or-take, get_or-drop}
use Rattle.byteorder.specs.Endian.{big_number}
use Rattle.image_model.specs.Bytes.{half, word}

byte_read : (b : List ℕ) (at i : ℕ) → at + i < length b → get_or (take (length b - at) (drop at b)) i 0 ≡ get_or b (at + i) 0
byte_read b at i h = get_or-take (length b - at) (drop at b) i 0 (omega arith) ∙ get_or-drop at b i 0

pub half_read : (b : List ℕ) (at : ℕ) → at + 2 ≤ length b → big_number 2 (take (length b - at) (drop at b)) ≡ half b at
unfolding half
half_read b at h =
    let z : at + 0 ≡ at = omega arith in
    let zero : get_or (take (length b - at) (drop at b)) 0 0 ≡ get_or b at 0 = rw z at (byte_read b at 0 (omega arith)) in
    omega (arith, zero, byte_read b at 1 (omega arith))

pub word_read : (b : List ℕ) (at : ℕ) → at + 4 ≤ length b → big_number 4 (take (length b - at) (drop at b)) ≡ word b at
unfolding word half
word_read b at h =
    let z : at + 0 ≡ at = omega arith in
    let e : at + 2 + 1 ≡ at + 3 = omega arith in
    let zero : get_or (take (length b - at) (drop at b)) 0 0 ≡ get_or b at 0 = rw z at (byte_read b at 0 (omega arith)) in
    rw e (omega (arith, zero, byte_read b at 1 (omega arith), byte_read b at 2 (omega arith), byte_read b at 3 (omega arith)))
