use Rattle.std.proofs.Common.{◌≡◌, ◌≤◌, ◌+◌, ◌*◌, ◌<◌, ◌^◌, suc, ℕ, arith}
use Rattle.std.proofs.Math.Nat.{pow-suc, pow-le-pow_right}
use Rattle.json_tree.proofs.address.hex_number.Goals as goal

-- below eight digits there is room for one more
room : (value i n : ℕ) → value < 16 ^ i → i < n → n ≤ 8 → value * 16 + 16 ≤ 2 ^ 32
room value i n fits below few =
    let more : suc i ≤ 8 = omega arith in
    let power : 16 ^ suc i ≤ 16 ^ 8 = pow-le-pow_right (omega arith) more in
    let next : 16 ^ suc i ≡ 16 ^ i * 16 = pow-suc 16 i in
    omega arith

pub overflow_mul-value : goal.overflow_mul-value
overflow_mul-value c = omega (
  arith,
  room c.loop-byte.value c.loop-byte.byte-index _ c.loop-byte.invariant.fits c.loop-byte-test.true
      c.requires.few,
)

pub overflow_add-value : goal.overflow_add-value
overflow_add-value c = omega (
  arith,
  room c.loop-byte.value c.loop-byte.byte-index _ c.loop-byte.invariant.fits c.loop-byte-test.true
      c.requires.few,
)
