-- Numbers of at most ten digits, in a base of at most 16.
use Rattle.std.proofs.Common.{◌≡◌, ◌≤◌, ◌+◌, ◌*◌, ◌<◌, ◌^◌, suc, ℕ, arith}
use Rattle.std.proofs.Math.Nat.{pow-suc, pow-le-pow_right, mul-le-mul_left}

-- what one more digit makes
pub next_digit : (base number i : ℕ) → base ≤ 16 → number < 16 ^ i → number * base + 16 ≤ 16 ^ suc i
next_digit base number i small fits =
    let product : number * base ≤ number * 16 = mul-le-mul_left number small in
    let power : 16 ^ suc i ≡ 16 ^ i * 16 = pow-suc 16 i in
    omega arith

-- below ten digits there is room for one more
pub room : (base number i n : ℕ) → base ≤ 16 → number < 16 ^ i → i < n → n ≤ 10 → number * base + 16 ≤ 2 ^ 64
room base number i n small fits below few =
    let more : suc i ≤ 10 = omega arith in
    let power : 16 ^ suc i ≤ 16 ^ 10 = pow-le-pow_right (omega arith) more in
    let next = next_digit base number i small fits in
    omega arith

pub more_digits : (number n most : ℕ) → number < 16 ^ n → n ≤ most → number < 16 ^ most
more_digits number n most fits few =
    let power : 16 ^ n ≤ 16 ^ most = pow-le-pow_right (omega arith) few in
    omega arith

pub eight_digits : (number : ℕ) → number < 16 ^ 8 → number < 2 ^ 32
eight_digits number fits = omega arith
