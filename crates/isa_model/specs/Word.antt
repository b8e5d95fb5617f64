-- Words and their arithmetic. A word is a number below 2 ^ 32; its bit 0 is the highest. Power ISA 2.07, Book I.
use Rattle.std.specs.Prelude.{◌≡◌, ℕ, zero, suc, ◌+◌, ◌-◌, ◌*◌, ◌/◌, ◌%◌, ◌^◌, ◌<◌, ℤ, ◌*ℤ◌, Bool, nat_lt, nat_le, if◌then◌else◌, List, []}
use Rattle.std.specs.Prelude.{◌∷◌}
use Rattle.std.specs.Int.{cast_unsigned, cast_signed, w32, w64}

-- a sum or a product as a word
abbrev pub wrapped : ℕ → ℕ
wrapped n = n % 2 ^ 32

-- ---- halves. PowerPC EABI, the operators @ha, @h and @l

-- the high half, adjusted for a low half that is sign-extended
abbrev pub ha : ℕ → ℕ
ha a = wrapped (a + 2 ^ 15) / 2 ^ 16

abbrev pub hi : ℕ → ℕ
hi a = a / 2 ^ 16

abbrev pub lo : ℕ → ℕ
lo a = a % 2 ^ 16

-- the low k bits of n, sign-extended to a word
abbrev pub sign_extended : ℕ → ℕ → ℕ
sign_extended k n = let low = n % 2 ^ k in if nat_lt low (2 ^ (k - 1)) then low else low + (2 ^ 32 - 2 ^ k)

-- EXTS of a byte
abbrev pub sext8 : ℕ → ℕ
sext8 n = sign_extended 8 n

-- EXTS of an immediate of 16 bits
abbrev pub sext16 : ℕ → ℕ
sext16 n = sign_extended 16 n

-- EXTS of a displacement of 26 bits
abbrev pub sext26 : ℕ → ℕ
sext26 n = sign_extended 26 n

-- the address that an adjusted high half and a sign-extended low half give
abbrev pub joined : ℕ → ℕ → ℕ
joined high low = wrapped (high * 2 ^ 16 + sext16 low)

abbrev pub HalvesJoin : Type 0
HalvesJoin = (a : ℕ) → a < 2 ^ 32 → joined (ha a) (lo a) ≡ a

-- ---- rotation and masks. Power ISA 2.07, "Fixed-Point Rotate and Shift Instructions": ROTL32 and MASK

abbrev pub rotl : ℕ → ℕ → ℕ
rotl a n = let k = n % 32 in wrapped (a * 2 ^ k) + a / 2 ^ (32 - k)

-- ones from the bit mb to the lowest, and none from 32 on
abbrev pub ones_from : ℕ → ℕ
ones_from mb = 2 ^ (32 - mb) - 1

-- ones from the bit mb to the bit me, around the end where mb is above me, and zeros elsewhere
abbrev pub mask : ℕ → ℕ → ℕ
mask mb me =
    if nat_le mb me then ones_from mb - ones_from (me + 1)
    else 2 ^ 32 - 1 - (ones_from (me + 1) - ones_from mb)

-- ---- arithmetic. Power ISA 2.07, "Fixed-Point Arithmetic Instructions"

abbrev pub carry_bit : Bool → ℕ
carry_bit c = if c then 1 else 0

-- a sum with a carry in, as a word
abbrev pub carrying_sum : ℕ → ℕ → Bool → ℕ
carrying_sum a b c = wrapped (a + b + carry_bit c)

-- the carry out of that sum
abbrev pub carry_out : ℕ → ℕ → Bool → Bool
carry_out a b c = nat_le (2 ^ 32) (a + b + carry_bit c)

-- a word as a number with a sign
abbrev pub signed_word : ℕ → ℤ
signed_word a = cast_signed w32 a

-- the high word of the product with a sign, which has 64 bits
abbrev pub mulh_s : ℕ → ℕ → ℕ
mulh_s a b = cast_unsigned w64 (signed_word a *ℤ signed_word b) / 2 ^ 32

-- the high word of the product without a sign
abbrev pub mulh_u : ℕ → ℕ → ℕ
mulh_u a b = a * b / 2 ^ 32

-- the number of zeros above the highest one among the low k bits
abbrev pub zeros_above : ℕ → ℕ → ℕ
zeros_above zero a = 0
zeros_above (suc k) a = if nat_lt a (2 ^ k) then suc (zeros_above k a) else 0

-- the number of leading zeros of a word. Power ISA 2.07, cntlzw
unfoldable pub clz : ℕ → ℕ
clz a = zeros_above 32 a

-- ---- a word in print

-- a lower-case hexadecimal digit
abbrev pub hex_digit : ℕ → ℕ
hex_digit d = if nat_lt d 10 then 48 + d else 87 + d

-- the last k hexadecimal digits, the highest first
abbrev pub hex_digits : ℕ → ℕ → List ℕ
hex_digits zero w = []
hex_digits (suc k) w = hex_digit (w / 2 ^ (4 * k) % 16) ∷ hex_digits k w

-- the eight hexadecimal digits of a word
unfoldable pub word_digits : ℕ → List ℕ
word_digits w = hex_digits 8 w
