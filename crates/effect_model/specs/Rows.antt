-- The rows of the instruction table: what the mnemonic at each place of a class does, classes and places as in isa_model's Instructions.
-- Power ISA 2.07, Book I, "Fixed-Point Facility" and "Branch Facility".
use Rattle.std.specs.Prelude.{ℕ, ◌+◌, ◌*◌, ◌%◌, ◌^◌, nat_lt, ◌==◌, if◌then◌else◌, List, [], ◌∷◌, slice_index_or}
use Rattle.std.specs.Int.{cast_unsigned, w32}
use Rattle.isa_model.specs.Word.{wrapped}
use Rattle.isa_model.specs.Instructions.{addi_place, addis_place, and_dot_place}
use Rattle.effect_model.specs.declared.Place.{Place}
use Rattle.effect_model.specs.declared.Place.TheVariants.{Gpr, Bit, Lr, Ctr, Ca, So, Unused}
use Rattle.effect_model.specs.declared.Operand.{Operand}
use Rattle.effect_model.specs.declared.Operand.TheVariants.{At, Number, Lo, Ha, Sda, Undefined}
use Rattle.effect_model.specs.declared.Op.{Op}
use Rattle.effect_model.specs.declared.Op.TheVariants as op
use Rattle.effect_model.specs.declared.Effect.{Effect}
use Rattle.effect_model.specs.declared.Effects.{Effects}
use Rattle.effect_model.specs.declared.Effects.TheVariants.{One, Two, Three}
use Rattle.effect_model.specs.declared.Row.{Row}
use Rattle.effect_model.specs.declared.Form.{Form}
use Rattle.effect_model.specs.declared.Form.TheVariants as form
use Rattle.effect_model.specs.declared.Constant.{Constant}
use Rattle.effect_model.specs.declared.Constant.TheVariants as constant
use Rattle.effect_model.specs.declared.Action.{Action}
use Rattle.effect_model.specs.declared.Action.TheVariants.{Work, Divide, Load, Store}

-- ---- operands

-- a constant as it is
abbrev pub plain : Constant → Operand
plain (constant.Int n) = Number (cast_unsigned w32 n)
plain (constant.Lo key o) = Lo key o
plain (constant.Ha key o) = Undefined
plain (constant.Sda key o) = Sda key o

-- a constant in the place of the high half
abbrev pub shifted : Constant → Operand
shifted (constant.Int n) = Number (wrapped (cast_unsigned w32 n * 2 ^ 16))
shifted (constant.Lo key o) = Undefined
shifted (constant.Ha key o) = Ha key o
shifted (constant.Sda key o) = Undefined

-- (RA|0): the number zero where the field is 0
abbrev pub base : ℕ → Operand
base a = if a == 0 then Number 0 else At (Gpr a)

abbrev pub register : ℕ → Operand
register a = At (Gpr a)

-- ---- forms of effects

-- one result and nothing read third
abbrev pub simple : Op → Row
simple o = record { op = o; z = Number 0; second = Unused }

-- with the carry that goes in, and the carry out
abbrev pub carried : Op → Operand → Row
carried o z = record { op = o; z = z; second = Ca }

abbrev pub effect : Row → Operand → Operand → Place → Effect
effect r x y to = record { op = r.op; x = x; y = y; z = r.z; first = to; second = r.second; third = Unused }

abbrev pub moved : Operand → Place → Effect
moved x to = effect (simple op.Copy) x (Number 0) to

-- a comparison into a field of the condition register: three bits, and SO
abbrev pub compared : Op → Operand → Operand → ℕ → Effect
compared o x y f = record {
  op = o;
  x = x;
  y = y;
  z = Number 0;
  first = Bit (4 * f);
  second = Bit (4 * f + 1);
  third = Bit (4 * f + 2);
}

-- the last bit of a field
abbrev pub summary : ℕ → Effect
summary f = moved (At So) (Bit (4 * f + 3))

-- a result that is compared with 0 into the first field
abbrev pub recorded : Effect → Place → Effects
recorded e to = Three e (compared op.Comparison (At to) (Number 0) 0) (summary 0)

-- ---- the rows

-- past the end of a class
abbrev pub copy_row : Row
copy_row = simple op.Copy

-- mulli, subfic, addic, addi, addis
abbrev pub alu_imm_rows : List Row
alu_imm_rows =
    simple op.LowProduct ∷ carried op.CarryingDifference (Number 1) ∷ carried op.CarryingSum (Number 0)
    ∷ simple op.Sum ∷ simple op.Sum ∷ []

abbrev pub alu_imm : ℕ → ℕ → ℕ → Constant → Action
alu_imm k d a c =
    let r = slice_index_or alu_imm_rows k copy_row in
    if k == addi_place then Work (One (effect r (base a) (plain c) (Gpr d)))
    else if k == addis_place then Work (One (effect r (base a) (shifted c) (Gpr d)))
    else Work (One (effect r (register a) (plain c) (Gpr d)))

-- ori, oris, xori, xoris, andi., andis.
abbrev pub log_imm_ops : List Op
log_imm_ops = op.Or ∷ op.Or ∷ op.Xor ∷ op.Xor ∷ op.And ∷ op.And ∷ []

-- subfc, addc, mulhwu, subf, mulhw, subfe, adde, mullw, add, divwu, divw
abbrev pub alu_rows : List Row
alu_rows =
    carried op.CarryingDifference (Number 1) ∷ carried op.CarryingSum (Number 0) ∷ simple op.HighProductUnsigned
    ∷ simple op.Difference ∷ simple op.HighProduct ∷ carried op.CarryingDifference (At Ca)
    ∷ carried op.CarryingSum (At Ca) ∷ simple op.LowProduct ∷ simple op.Sum ∷ simple op.QuotientUnsigned
    ∷ simple op.Quotient ∷ []

-- neg, subfze, addze
abbrev pub alu2_rows : List Row
alu2_rows = simple op.Difference ∷ carried op.CarryingDifference (At Ca) ∷ carried op.CarryingSum (At Ca) ∷ []

-- slw, and, andc, nor, eqv, xor, orc, or, nand, srw, sraw, and.
abbrev pub log_rows : List Row
log_rows =
    simple op.ShiftLeft ∷ simple op.And ∷ simple op.AndNot ∷ simple op.Nor ∷ simple op.Equivalence ∷ simple op.Xor
    ∷ simple op.OrNot ∷ simple op.Or ∷ simple op.Nand ∷ simple op.ShiftRight
    ∷ carried op.ShiftRightSigned (Number 0) ∷ simple op.And ∷ []

-- cntlzw, extsh, extsb
abbrev pub log2_rows : List Row
log2_rows = simple op.LeadingZeros ∷ simple op.SignedHalf ∷ simple op.SignedByte ∷ []

-- cmpw, cmplw
abbrev pub cmp_ops : List Op
cmp_ops = op.Comparison ∷ op.ComparisonUnsigned ∷ []

-- crxor, creqv, cror
abbrev pub cr_bit_rows : List Row
cr_bit_rows = simple op.Xor ∷ simple op.BitEquivalence ∷ simple op.Or ∷ []

-- lwz, lbz, lhz, lha
abbrev pub load_forms : List Form
load_forms = form.Word ∷ form.Byte ∷ form.Half ∷ form.SignedHalf ∷ []

-- stw, stb, sth
abbrev pub store_forms : List Form
store_forms = form.Word ∷ form.Byte ∷ form.Half ∷ []

-- lwzx, lbzx, lhzx, lhax, lwbrx, lhbrx
abbrev pub load_x_forms : List Form
load_x_forms =
    form.Word ∷ form.Byte ∷ form.Half ∷ form.SignedHalf ∷ form.ReversedWord ∷ form.ReversedHalf ∷ []

-- stwx, stbx, sthx, stwbrx, sthbrx
abbrev pub store_x_forms : List Form
store_x_forms = form.Word ∷ form.Byte ∷ form.Half ∷ form.ReversedWord ∷ form.ReversedHalf ∷ []

-- a word past the end of a class
abbrev pub form_at : List Form → ℕ → Form
form_at forms k = slice_index_or forms k form.Word

-- ---- classes

abbrev pub log_imm : ℕ → ℕ → ℕ → ℕ → Action
log_imm k a s n =
    let m = if k % 2 == 1 then wrapped (n * 2 ^ 16) else n in
    let e = effect (simple (slice_index_or log_imm_ops k op.Copy)) (register s) (Number m) (Gpr a) in
    if nat_lt k 4 then Work (One e) else Work (recorded e (Gpr a))

abbrev pub alu : ℕ → ℕ → ℕ → ℕ → Action
alu k d a b =
    let e = effect (slice_index_or alu_rows k copy_row) (register a) (register b) (Gpr d) in
    if nat_lt k 9 then Work (One e) else Divide e

abbrev pub alu2 : ℕ → ℕ → ℕ → Action
alu2 k d a = Work (One (effect (slice_index_or alu2_rows k copy_row) (register a) (Number 0) (Gpr d)))

abbrev pub log : ℕ → ℕ → ℕ → ℕ → Action
log k a s b =
    let e = effect (slice_index_or log_rows k copy_row) (register s) (register b) (Gpr a) in
    if k == and_dot_place then Work (recorded e (Gpr a)) else Work (One e)

abbrev pub log2 : ℕ → ℕ → ℕ → Action
log2 k a s = Work (One (effect (slice_index_or log2_rows k copy_row) (register s) (Number 0) (Gpr a)))

abbrev pub srawi : ℕ → ℕ → ℕ → Action
srawi a s n = Work (One (effect (carried op.ShiftRightSigned (Number 0)) (register s) (Number n) (Gpr a)))

-- rlwimi reads what it writes into, rlwinm does not
abbrev pub rot : ℕ → ℕ → ℕ → ℕ → ℕ → ℕ → Action
rot k a s sh mb me =
    if k == 0 then Work (One (effect (simple (op.Insertion sh mb me)) (register s) (register a) (Gpr a)))
    else Work (One (effect (simple (op.Rotation sh mb me)) (register s) (Number 0) (Gpr a)))

abbrev pub load : ℕ → ℕ → Constant → ℕ → Action
load k d c a = Load (form_at load_forms k) (base a) (plain c) (Gpr d)

abbrev pub store : ℕ → ℕ → Constant → ℕ → Action
store k s c a = Store (form_at store_forms k) (Gpr s) (base a) (plain c) Unused

abbrev pub load_x : ℕ → ℕ → ℕ → ℕ → Action
load_x k d a b = Load (form_at load_x_forms k) (base a) (register b) (Gpr d)

abbrev pub store_x : ℕ → ℕ → ℕ → ℕ → Action
store_x k s a b = Store (form_at store_x_forms k) (Gpr s) (base a) (register b) Unused

-- the address goes to the base; the base 0 is the number zero
abbrev pub stwu : ℕ → Constant → ℕ → Action
stwu s c a = Store form.Word (Gpr s) (base a) (plain c) (Gpr a)

abbrev pub stwux : ℕ → ℕ → ℕ → Action
stwux s a b = Store form.Word (Gpr s) (base a) (register b) (Gpr a)

abbrev pub cmp : ℕ → ℕ → ℕ → Operand → Action
cmp k f a y = Work (Two (compared (slice_index_or cmp_ops k op.Copy) (register a) y f) (summary f))

abbrev pub cr_bit : ℕ → ℕ → ℕ → ℕ → Action
cr_bit k t a b = Work (One (effect (slice_index_or cr_bit_rows k copy_row) (At (Bit a)) (At (Bit b)) (Bit t)))

-- mflr, mfctr, mtlr, mtctr
abbrev pub move : ℕ → ℕ → Action
move k r =
    if k == 0 then Work (One (moved (At Lr) (Gpr r)))
    else if k == 1 then Work (One (moved (At Ctr) (Gpr r)))
    else if k == 2 then Work (One (moved (register r) Lr))
    else Work (One (moved (register r) Ctr))
