-- The meaning of each operation on words. Power ISA 2.07, Book I, "Fixed-Point Facility" and "Condition Register Logical Instructions".
use Rattle.std.specs.Prelude.{ℕ, ◌+◌, ◌-◌, ◌*◌, ◌/◌, ◌%◌, ◌^◌, Bool, false, not, ◌&&◌, ◌||◌, nat_lt, nat_le, ◌==◌, if◌then◌else◌, int_lt}
use Rattle.std.specs.Prelude.{int_div, bit_and, bit_or, bit_xor, min}
use Rattle.std.specs.Int.{cast_unsigned, w32}
use Rattle.isa_model.specs.Word.{wrapped, carry_bit, signed_word, sext8, sext16, mulh_s, mulh_u, rotl, mask, clz}
use Rattle.effect_model.specs.declared.Op.{Op}
use Rattle.effect_model.specs.declared.Op.TheVariants.{Sum, Difference, CarryingSum, CarryingDifference, LowProduct, HighProduct}
use Rattle.effect_model.specs.declared.Op.TheVariants.{HighProductUnsigned, Quotient, QuotientUnsigned, And, AndNot, Or, OrNot, Xor, Nor}
use Rattle.effect_model.specs.declared.Op.TheVariants.{Nand, Equivalence, ShiftLeft, ShiftRight, ShiftRightSigned, Rotation, Insertion}
use Rattle.effect_model.specs.declared.Op.TheVariants.{LeadingZeros, SignedHalf, SignedByte, Comparison, ComparisonUnsigned}
use Rattle.effect_model.specs.declared.Op.TheVariants.{BitEquivalence, Copy}
use Rattle.effect_model.specs.declared.Results.{Results}

-- ---- one result, two, or three that are bits; the others are 0

abbrev pub one : ℕ → Results
one n = record { first = n; second = 0; third = 0 }

abbrev pub two : ℕ → ℕ → Results
two n m = record { first = n; second = m; third = 0 }

abbrev pub three : Bool → Bool → Bool → Results
three a b c = record { first = carry_bit a; second = carry_bit b; third = carry_bit c }

-- ---- arithmetic. "Fixed-Point Arithmetic Instructions"

-- the word with each bit changed
abbrev pub complement : ℕ → ℕ
complement a = 2 ^ 32 - 1 - a

-- a sum, and its carry
abbrev pub carrying : ℕ → Results
carrying n = two (wrapped n) (n / 2 ^ 32)

-- the quotient, rounded toward zero
abbrev pub quotient : ℕ → ℕ → ℕ
quotient a b = if b == 0 then 0 else cast_unsigned w32 (int_div (signed_word a) (signed_word b))

abbrev pub quotient_unsigned : ℕ → ℕ → ℕ
quotient_unsigned a b = if b == 0 then 0 else a / b

-- ---- shifts and rotations. "Fixed-Point Rotate and Shift Instructions"

abbrev pub shifted_left : ℕ → ℕ → ℕ
shifted_left a n = wrapped (a * 2 ^ n)

-- the sign of a word, as a test
abbrev pub is_negative : ℕ → Bool
is_negative a = nat_le (2 ^ 31) a

-- at most 32 places to the right, with copies of the sign from the left
abbrev pub shifted_signed : ℕ → ℕ → ℕ
shifted_signed a n = a / 2 ^ n + (if is_negative a then 2 ^ 32 - 2 ^ (32 - n) else 0)

-- a is negative and a one was shifted out
abbrev pub loses_ones : ℕ → ℕ → Bool
loses_ones a n = is_negative a && not (a % 2 ^ n == 0)

-- a where the mask has ones, and b elsewhere
abbrev pub inserted : ℕ → ℕ → ℕ → ℕ
inserted a b m = bit_or (bit_and a m) (bit_and b (complement m))

-- ---- the operations, on all numbers

unfoldable pub results : Op → ℕ → ℕ → ℕ → Results
results Sum x y z = one (wrapped (x + y))
results Difference x y z = one (wrapped (complement x + y + 1))
results CarryingSum x y z = carrying (x + y + z)
results CarryingDifference x y z = carrying (complement x + y + z)
results LowProduct x y z = one (wrapped (x * y))
results HighProduct x y z = one (mulh_s x y)
results HighProductUnsigned x y z = one (mulh_u x y)
results Quotient x y z = one (quotient x y)
results QuotientUnsigned x y z = one (quotient_unsigned x y)
results And x y z = one (bit_and x y)
results AndNot x y z = one (bit_and x (complement y))
results Or x y z = one (bit_or x y)
results OrNot x y z = one (bit_or x (complement y))
results Xor x y z = one (bit_xor x y)
results Nor x y z = one (complement (bit_or x y))
results Nand x y z = one (complement (bit_and x y))
results Equivalence x y z = one (complement (bit_xor x y))
results ShiftLeft x y z = one (shifted_left x (y % 64))
results ShiftRight x y z = one (x / 2 ^ (y % 64))
results ShiftRightSigned x y z = let n = min (y % 64) 32 in two (shifted_signed x n) (carry_bit (loses_ones x n))
results (Rotation sh mb me) x y z = one (bit_and (rotl x sh) (mask mb me))
results (Insertion sh mb me) x y z = one (inserted (rotl x sh) y (mask mb me))
results LeadingZeros x y z = one (clz x)
results SignedHalf x y z = one (sext16 x)
results SignedByte x y z = one (sext8 x)
results Comparison x y z =
    three (int_lt (signed_word x) (signed_word y)) (int_lt (signed_word y) (signed_word x)) (x == y)
results ComparisonUnsigned x y z = three (nat_lt x y) (nat_lt y x) (x == y)
results BitEquivalence x y z = one (bit_xor (bit_xor x y) 1)
results Copy x y z = one x

-- the division has no result: it is by 0, or of the least signed word by -1
abbrev pub stops : Op → ℕ → ℕ → Bool
stops Quotient x y = y == 0 || (x == 2 ^ 31 && y == 2 ^ 32 - 1)
stops QuotientUnsigned x y = y == 0
stops op x y = false
