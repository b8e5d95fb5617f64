-- Values of the operations and rows at the edges of words, worked by hand from the Power ISA. Nothing cites them.
use Rattle.std.specs.Prelude.{◌≡◌, ℕ, pos, negsuc, true, false, ◌∷◌, ◌++◌, replicate, refl}
use Rattle.isa_model.specs.Word.{clz}
use Rattle.effect_model.specs.declared.Op.TheVariants as op
use Rattle.effect_model.specs.declared.Constant.TheVariants.{Int}
use Rattle.effect_model.specs.declared.Place.{Place}
use Rattle.effect_model.specs.declared.Place.TheVariants.{Gpr, Bit, Ctr, Ca}
use Rattle.effect_model.specs.declared.Action.{Action}
use Rattle.effect_model.specs.declared.Action.TheVariants.{Work, Divide, Store}
use Rattle.effect_model.specs.declared.Form.TheVariants.{Word}
use Rattle.effect_model.specs.declared.Operand.TheVariants.{At, Number}
use Rattle.effect_model.specs.Meaning.{one, two, three, results, stops}
use Rattle.effect_model.specs.Files.{File, get, flat_all, flat_effect, word_of_bits}
use Rattle.effect_model.specs.Rows.{alu_imm, alu, alu2, log, log_imm, cmp, move, cr_bit, srawi, rot, stwu, register}

-- ---- operations

sums : (results op.Sum 0xffffffff 1 0 ≡ one 0) × (results op.Sum 0x7fffffff 1 0 ≡ one 0x80000000)
unfolding results
sums = (refl, refl)

-- subf and neg
differences :
    (results op.Difference 1 0 0 ≡ one 0xffffffff) × (results op.Difference 3 10 0 ≡ one 7)
    × (results op.Difference 0x80000000 0 0 ≡ one 0x80000000)
unfolding results
differences = (refl, refl, refl)

-- addc and adde
carrying_sums :
    (results op.CarryingSum 0xffffffff 0 1 ≡ two 0 1) × (results op.CarryingSum 0x7fffffff 0x80000000 0 ≡ two 0xffffffff 0)
    × (results op.CarryingSum 0xffffffff 0xffffffff 1 ≡ two 0xffffffff 1)
unfolding results
carrying_sums = (refl, refl, refl)

-- subfc carries where it does not borrow; subfe without a carry takes one more
carrying_differences :
    (results op.CarryingDifference 3 5 1 ≡ two 2 1) × (results op.CarryingDifference 5 3 1 ≡ two 0xfffffffe 0)
    × (results op.CarryingDifference 0 0 1 ≡ two 0 1) × (results op.CarryingDifference 3 5 0 ≡ two 1 1)
    × (results op.CarryingDifference 5 5 0 ≡ two 0xffffffff 0)
unfolding results
carrying_differences = (refl, refl, refl, refl, refl)

low_products : (results op.LowProduct 0x10000 0x10000 0 ≡ one 0) × (results op.LowProduct 0xffffffff 7 0 ≡ one 0xfffffff9)
unfolding results
low_products = (refl, refl)

-- -1 by -1, the least word by itself, 3 by -2
high_products :
    (results op.HighProduct 0xffffffff 0xffffffff 0 ≡ one 0) × (results op.HighProduct 0x80000000 0x80000000 0 ≡ one 0x40000000)
    × (results op.HighProduct 3 0xfffffffe 0 ≡ one 0xffffffff) × (results op.HighProductUnsigned 3 0xfffffffe 0 ≡ one 2)
    × (results op.HighProductUnsigned 0xffffffff 0xffffffff 0 ≡ one 0xfffffffe)
unfolding results
high_products = (refl, refl, refl, refl, refl)

-- -7 by 2, 7 by -2, -8 by -2, toward zero
quotients :
    (results op.Quotient 0xfffffff9 2 0 ≡ one 0xfffffffd) × (results op.Quotient 7 0xfffffffe 0 ≡ one 0xfffffffd)
    × (results op.Quotient 0xfffffff8 0xfffffffe 0 ≡ one 4) × (results op.QuotientUnsigned 0xfffffff9 2 0 ≡ one 0x7ffffffc)
    × (results op.QuotientUnsigned 5 7 0 ≡ one 0)
unfolding results
quotients = (refl, refl, refl, refl, refl)

bad_divisions :
    (stops op.Quotient 0x80000000 0xffffffff ≡ true) × (stops op.Quotient 1 0 ≡ true) × (stops op.QuotientUnsigned 1 0 ≡ true)
    × (stops op.Quotient 0x80000000 1 ≡ false) × (stops op.Quotient 0x7fffffff 0xffffffff ≡ false)
    × (stops op.QuotientUnsigned 0x80000000 0xffffffff ≡ false) × (stops op.Sum 1 0 ≡ false)
bad_divisions = (refl, refl, refl, refl, refl, refl, refl)

logic :
    (results op.And 0xf0f0f0f0 0xff00ff00 0 ≡ one 0xf000f000) × (results op.AndNot 0xf0f0f0f0 0xff00ff00 0 ≡ one 0x00f000f0)
    × (results op.Or 0xf0f0f0f0 0xff00ff00 0 ≡ one 0xfff0fff0) × (results op.OrNot 0xf0f0f0f0 0xff00ff00 0 ≡ one 0xf0fff0ff)
    × (results op.Xor 0xf0f0f0f0 0xff00ff00 0 ≡ one 0x0ff00ff0) × (results op.Nor 0xf0f0f0f0 0xff00ff00 0 ≡ one 0x000f000f)
    × (results op.Nand 0xf0f0f0f0 0xff00ff00 0 ≡ one 0x0fff0fff)
    × (results op.Equivalence 0xf0f0f0f0 0xff00ff00 0 ≡ one 0xf00ff00f)
unfolding results
logic = (refl, refl, refl, refl, refl, refl, refl, refl)

-- 0 from 32 on, and the low six bits of the shift alone
shifts :
    (results op.ShiftLeft 1 31 0 ≡ one 0x80000000) × (results op.ShiftLeft 1 32 0 ≡ one 0) × (results op.ShiftLeft 1 64 0 ≡ one 1)
    × (results op.ShiftRight 0x80000000 31 0 ≡ one 1) × (results op.ShiftRight 0x80000000 63 0 ≡ one 0)
    × (results op.ShiftRight 0x80000000 64 0 ≡ one 0x80000000)
unfolding results
shifts = (refl, refl, refl, refl, refl, refl)

-- the carry where the word is negative and a one is shifted out
signed_shifts :
    (results op.ShiftRightSigned 0x80000000 31 0 ≡ two 0xffffffff 0) × (results op.ShiftRightSigned 0x80000000 32 0 ≡ two 0xffffffff 1)
    × (results op.ShiftRightSigned 0x80000000 40 0 ≡ two 0xffffffff 1) × (results op.ShiftRightSigned 0x7fffffff 40 0 ≡ two 0 0)
    × (results op.ShiftRightSigned 0xfffffff1 4 0 ≡ two 0xffffffff 1)
    × (results op.ShiftRightSigned 0xfffffff0 4 0 ≡ two 0xffffffff 0)
    × (results op.ShiftRightSigned 5 1 0 ≡ two 2 0) × (results op.ShiftRightSigned 0xffffffff 64 0 ≡ two 0xffffffff 0)
unfolding results
signed_shifts = (refl, refl, refl, refl, refl, refl, refl, refl)

-- rlwinm as a shift to the left by 2, to the right by 8, and with a mask around the end; rlwimi with both kinds of mask
rotations :
    (results (op.Rotation 2 0 29) 0xc0000001 0 0 ≡ one 4) × (results (op.Rotation 24 8 31) 0x12345678 0 0 ≡ one 0x00123456)
    × (results (op.Rotation 0 24 7) 0xffffffff 0 0 ≡ one 0xff0000ff)
    × (results (op.Insertion 8 0 7) 0x12345678 0xffffffff 0 ≡ one 0x34ffffff)
    × (results (op.Insertion 0 24 7) 0 0xffffffff 0 ≡ one 0x00ffff00)
unfolding results
rotations = (refl, refl, refl, refl, refl)

zeros :
    (results op.LeadingZeros 0 0 0 ≡ one 32) × (results op.LeadingZeros 1 0 0 ≡ one 31) × (results op.LeadingZeros 0x80000000 0 0 ≡ one 0)
unfolding results clz
zeros = (refl, refl, refl)

extensions :
    (results op.SignedHalf 0x8000 0 0 ≡ one 0xffff8000) × (results op.SignedHalf 0x17fff 0 0 ≡ one 0x7fff)
    × (results op.SignedByte 0x80 0 0 ≡ one 0xffffff80) × (results op.SignedByte 0x17f 0 0 ≡ one 0x7f)
unfolding results
extensions = (refl, refl, refl, refl)

comparisons :
    (results op.Comparison 0xffffffff 0 0 ≡ three true false false)
    × (results op.Comparison 0x7fffffff 0x80000000 0 ≡ three false true false)
    × (results op.Comparison 5 5 0 ≡ three false false true) × (results op.ComparisonUnsigned 0xffffffff 0 0 ≡ three false true false)
    × (results op.ComparisonUnsigned 0 0x80000000 0 ≡ three true false false)
unfolding results
comparisons = (refl, refl, refl, refl, refl)

bits :
    (results op.BitEquivalence 0 0 0 ≡ one 1) × (results op.BitEquivalence 1 0 0 ≡ one 0) × (results op.BitEquivalence 1 1 0 ≡ one 1)
    × (results op.Copy 7 0 0 ≡ one 7)
unfolding results
bits = (refl, refl, refl, refl)

-- ---- rows

-- r0 is 16, r5 is 7, r6 is -1, LR and CTR are 4 and 8, the carry and the summary overflow are set, all else is 0
before : File ℕ
before = record {
  gprs = 16 ∷ replicate 4 0 ++ 7 ∷ 0xffffffff ∷ replicate 25 0;
  bits = replicate 32 0;
  lr = 4;
  ctr = 8;
  ca = 1;
  so = 1;
}

abbrev file_after : Action → File ℕ
file_after (Work es) = flat_all es before
file_after (Divide e) = flat_effect e before
file_after _ = before

-- what the instruction leaves in a place
abbrev after : Action → Place → ℕ
after a p = get 0 (file_after a) p

-- addi and addis read the number 0 for register 0, addic and oris the register
immediates :
    (after (alu_imm 3 3 0 (Int (pos 7))) (Gpr 3) ≡ 7) × (after (alu_imm 3 3 5 (Int (negsuc 7))) (Gpr 3) ≡ 0xffffffff)
    × (after (alu_imm 4 4 0 (Int (pos 0x1001))) (Gpr 4) ≡ 0x10010000) × (after (alu_imm 2 3 0 (Int (pos 7))) (Gpr 3) ≡ 23)
    × (after (alu_imm 2 3 0 (Int (pos 7))) Ca ≡ 0) × (after (log_imm 1 3 0 1) (Gpr 3) ≡ 0x10010)
unfolding results flat_effect before
immediates = (refl, refl, refl, refl, refl, refl)

-- subfc 3,6,5; adde 3,5,6; subfe 3,5,6; addze 3,6; subfze 3,6; neg 3,5; divw 3,5,6
arithmetic :
    (after (alu 0 3 6 5) (Gpr 3) ≡ 8) × (after (alu 0 3 6 5) Ca ≡ 0) × (after (alu 6 3 5 6) (Gpr 3) ≡ 7)
    × (after (alu 6 3 5 6) Ca ≡ 1) × (after (alu 5 3 5 6) (Gpr 3) ≡ 0xfffffff8) × (after (alu 5 3 5 6) Ca ≡ 1)
    × (after (alu2 2 3 6) (Gpr 3) ≡ 0) × (after (alu2 2 3 6) Ca ≡ 1) × (after (alu2 1 3 6) (Gpr 3) ≡ 1)
    × (after (alu2 1 3 6) Ca ≡ 0) × (after (alu2 0 3 5) (Gpr 3) ≡ 0xfffffff9) × (after (alu 10 3 5 6) (Gpr 3) ≡ 0xfffffff9)
unfolding results flat_effect before
arithmetic = (refl, refl, refl, refl, refl, refl, refl, refl, refl, refl, refl, refl)

-- and. 3,5,6 gives 7, andis. 3,6,0x8000 a negative word; the last bit of the field is the summary overflow
recorded_results :
    (after (log 11 3 5 6) (Gpr 3) ≡ 7) × (after (log 11 3 5 6) (Bit 1) ≡ 1) × (after (log 11 3 5 6) (Bit 3) ≡ 1)
    × (after (log_imm 5 3 6 0x8000) (Gpr 3) ≡ 0x80000000) × (after (log_imm 5 3 6 0x8000) (Bit 0) ≡ 1)
    × (after (log_imm 5 3 6 0x8000) (Bit 1) ≡ 0)
unfolding results flat_effect before
recorded_results = (refl, refl, refl, refl, refl, refl)

-- cmpw 7,5,6 and cmplw 7,5,6; the word of a condition register whose last field this is
condition :
    (after (cmp 0 7 5 (register 6)) (Bit 29) ≡ 1) × (after (cmp 1 7 5 (register 6)) (Bit 28) ≡ 1)
    × (after (cmp 1 7 5 (register 6)) (Bit 31) ≡ 1) × (word_of_bits (file_after (cmp 1 7 5 (register 6))).bits ≡ 9)
    × (word_of_bits (1 ∷ replicate 31 0) ≡ 0x80000000) × (after (cr_bit 1 0 1 1) (Bit 0) ≡ 1)
unfolding results flat_effect before
condition = (refl, refl, refl, refl, refl, refl)

-- mflr 3, mtctr 5, srawi 3,6,4, rlwimi 6,5,24,0,7
others :
    (after (move 0 3) (Gpr 3) ≡ 4) × (after (move 3 5) Ctr ≡ 7) × (after (srawi 3 6 4) (Gpr 3) ≡ 0xffffffff)
    × (after (srawi 3 6 4) Ca ≡ 1) × (after (rot 0 6 5 24 0 7) (Gpr 6) ≡ 0x07ffffff)
unfolding results flat_effect before
others = (refl, refl, refl, refl, refl)

-- stwu 1,-16,1 puts the address into its base
base_is_updated : stwu 1 (Int (negsuc 15)) 1 ≡ Store Word (Gpr 1) (At (Gpr 1)) (Number 0xfffffff0) (Gpr 1)
base_is_updated = refl
