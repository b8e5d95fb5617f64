-- What the code's shifts and counts give.
use Rattle.std.proofs.Common.{◌≡◌, ℕ, zero, suc, ◌+◌, ◌-◌, ◌*◌, ◌/◌, ◌%◌, ◌^◌, ◌<◌, ◌≤◌, inl, inr, ap, subst, sym, ◌∙◌, arith, pow-add}
use Rattle.std.specs.Int.Count.{count_leading_zeros, leading_unique}
use Rattle.std.proofs.lemmas.Int.{to_z-of_z}
use Rattle.std.proofs.lemmas.Bool.{lt-ltb, le-ltb, cases_lt}
use Rattle.std.proofs.Math.Pow.{pow_mono}
use Rattle.std.proofs.Math.Nat.{mul-le-mul_right, mod-lt, div-lt_iff_lt-mul}
use Rattle.std.proofs.lemmas.Nat.{mod-mul-add, pow_pos}
use Rattle.isa_model.specs.Word.{clz, zeros_above}

zeros_length : (k a : ℕ) → a < 2 ^ k → (m : ℕ) × (zeros_above k a + m ≡ k) × (a < 2 ^ m) × (2 ^ m ≤ 2 * a + 1)
zeros_length zero a h = (0, omega arith, h, omega arith)
zeros_length (suc k) a h = elim (cases_lt a (2 ^ k)) [
  | inl l ↦ (let r = zeros_length k a l in let t = lt-ltb a (2 ^ k) l in (r.0, rw t (omega arith), r.2, r.3))
  | inr g ↦ (let t = le-ltb a (2 ^ k) g in (suc k, rw t (omega arith), h, omega arith))
]

pub leading_zeros_is_clz : (a : ℕ) → a < 2 ^ 32 → count_leading_zeros 32 a ≡ clz a
unfolding clz
leading_zeros_is_clz a h =
    let z = zeros_length 32 a h in
    sym (leading_unique 32 a (zeros_above 32 a) z.0 z.1 z.2 z.3)

-- a number of two digits, times q: the low digit to the base q r
low_digit : (b c q r : ℕ) → c < r → 0 < q → (b * r + c) * q % (q * r) ≡ c * q
low_digit b c q r hc hq =
    let below : c * q < q * r = (let s : suc c * q ≤ r * q = mul-le-mul_right q hc in omega arith) in
    let parts : (b * r + c) * q ≡ b * (q * r) + c * q = omega arith in
    rw parts (mod-mul-add b (q * r) (c * q) below)

digits_fit : (b c q r : ℕ) → b < q → c < r → c * q + b < q * r
digits_fit b c q r hb hc = let s : suc c * q ≤ r * q = mul-le-mul_right q hc in omega arith

-- the two parts of a rotated number, below q r, do not meet
pub rotation_fits : (a q r : ℕ) → a < q * r → 0 < r → a * q % (q * r) + a / r < q * r
rotation_fits a q r h hr =
    let hb : a / r < q = (div-lt_iff_lt-mul hr).1 h in
    let hc : a % r < r = mod-lt a hr in
    let e : a / r * r + a % r ≡ a = omega arith in
    let low = low_digit (a / r) (a % r) q r hc (omega arith) in
    let low' : a * q % (q * r) ≡ a % r * q = subst (λ n. n * q % (q * r) ≡ a % r * q) e low in
    rw low' (digits_fit (a / r) (a % r) q r hb hc)

pub rotated_below : (a k : ℕ) → a < 2 ^ 32 → k ≤ 32 → a * 2 ^ k % 2 ^ 32 + a / 2 ^ (32 - k) < 2 ^ 32
rotated_below a k h hk =
    let whole : k + (32 - k) ≡ 32 = omega arith in
    let e : 2 ^ k * 2 ^ (32 - k) ≡ 2 ^ 32 = sym (pow-add 2 k (32 - k)) ∙ ap (λ n. 2 ^ n) whole in
    let below : a < 2 ^ k * 2 ^ (32 - k) = rw e h in
    let fits = rotation_fits a (2 ^ k) (2 ^ (32 - k)) below (pow_pos (32 - k)) in
    subst (λ n. a * 2 ^ k % n + a / 2 ^ (32 - k) < n) e fits

pub power_within : (n : ℕ) → n ≤ 32 → 2 ^ n ≤ 2 ^ 32
power_within n h = pow_mono h

-- a longer mask has more ones
pub power_below : (i j : ℕ) → i ≤ j → 2 ^ i ≤ 2 ^ j
power_below i j h = pow_mono h

pub ruleset casts = (to_z-of_z)
