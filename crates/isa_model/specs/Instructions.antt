-- The table of the 32-bit integer instructions: class by class the spelling and the opcode of each mnemonic, by its place in
-- the class's row, and the words without operands.
-- Power ISA 2.07, Book I: "Branch Facility" and "Fixed-Point Facility".
use Rattle.std.specs.Prelude.{ℕ, List, [], ◌∷◌, slice_index, slice_index_or, codes}
pub use Rattle.isa_model.specs.Forms.{d_form, x_form, extended, m_form, xfx_form, i_form, low_bits, primary_opcode}
pub use Rattle.isa_model.specs.Operands.{is_register, is_bit_number, is_cr_field, is_s16, is_u16, is_displacement, is_branch_option}

-- the spelling at a place of a row
abbrev pub name_at : List (List ℕ) → ℕ → List ℕ
name_at names place = slice_index_or names place []

-- ---- arithmetic with an immediate, D-form: primary opcodes. "Fixed-Point Arithmetic Instructions"

abbrev pub alu_imm_names : List (List ℕ)
alu_imm_names = codes "mulli" ∷ codes "subfic" ∷ codes "addic" ∷ codes "addi" ∷ codes "addis" ∷ []

abbrev pub alu_imm_opcodes : List ℕ
alu_imm_opcodes = 7 ∷ 8 ∷ 12 ∷ 14 ∷ 15 ∷ []

-- ---- logic with an immediate, D-form: primary opcodes. "Fixed-Point Logical Instructions"

abbrev pub log_imm_names : List (List ℕ)
log_imm_names = codes "ori" ∷ codes "oris" ∷ codes "xori" ∷ codes "xoris" ∷ codes "andi." ∷ codes "andis." ∷ []

abbrev pub log_imm_opcodes : List ℕ
log_imm_opcodes = 24 ∷ 25 ∷ 26 ∷ 27 ∷ 28 ∷ 29 ∷ []

-- ---- arithmetic of two registers, XO-form: extended opcodes behind 31, OE and Rc are 0

abbrev pub alu_names : List (List ℕ)
alu_names =
    codes "subfc" ∷ codes "addc" ∷ codes "mulhwu" ∷ codes "subf" ∷ codes "mulhw" ∷ codes "subfe"
    ∷ codes "adde" ∷ codes "mullw" ∷ codes "add" ∷ codes "divwu" ∷ codes "divw" ∷ []

abbrev pub alu_opcodes : List ℕ
alu_opcodes = 8 ∷ 10 ∷ 11 ∷ 40 ∷ 75 ∷ 136 ∷ 138 ∷ 235 ∷ 266 ∷ 459 ∷ 491 ∷ []

-- ---- arithmetic of one register, XO-form: extended opcodes behind 31, OE and Rc are 0

abbrev pub alu2_names : List (List ℕ)
alu2_names = codes "neg" ∷ codes "subfze" ∷ codes "addze" ∷ []

abbrev pub alu2_opcodes : List ℕ
alu2_opcodes = 104 ∷ 200 ∷ 202 ∷ []

-- ---- logic and shifts of two registers, X-form: extended opcodes behind 31, and the record bit Rc

abbrev pub log_names : List (List ℕ)
log_names =
    codes "slw" ∷ codes "and" ∷ codes "andc" ∷ codes "nor" ∷ codes "eqv" ∷ codes "xor"
    ∷ codes "orc" ∷ codes "or" ∷ codes "nand" ∷ codes "srw" ∷ codes "sraw" ∷ codes "and." ∷ []

abbrev pub log_opcodes : List ℕ
log_opcodes = 24 ∷ 28 ∷ 60 ∷ 124 ∷ 284 ∷ 316 ∷ 412 ∷ 444 ∷ 476 ∷ 536 ∷ 792 ∷ 28 ∷ []

abbrev pub log_record_bits : List ℕ
log_record_bits = 0 ∷ 0 ∷ 0 ∷ 0 ∷ 0 ∷ 0 ∷ 0 ∷ 0 ∷ 0 ∷ 0 ∷ 0 ∷ 1 ∷ []

-- ---- logic of one register, X-form: extended opcodes behind 31, Rc is 0

abbrev pub log2_names : List (List ℕ)
log2_names = codes "cntlzw" ∷ codes "extsh" ∷ codes "extsb" ∷ []

abbrev pub log2_opcodes : List ℕ
log2_opcodes = 26 ∷ 922 ∷ 954 ∷ []

-- ---- the shift by a number, X-form: extended opcode behind 31, Rc is 0. "Fixed-Point Rotate and Shift Instructions"

abbrev pub srawi_name : List ℕ
srawi_name = codes "srawi"

abbrev pub srawi_opcode : ℕ
srawi_opcode = 824

-- ---- rotations with a mask, M-form: primary opcodes, Rc is 0

abbrev pub rot_names : List (List ℕ)
rot_names = codes "rlwimi" ∷ codes "rlwinm" ∷ []

abbrev pub rot_opcodes : List ℕ
rot_opcodes = 20 ∷ 21 ∷ []

-- ---- loads, D-form: primary opcodes. "Fixed-Point Load Instructions"

abbrev pub load_names : List (List ℕ)
load_names = codes "lwz" ∷ codes "lbz" ∷ codes "lhz" ∷ codes "lha" ∷ []

abbrev pub load_opcodes : List ℕ
load_opcodes = 32 ∷ 34 ∷ 40 ∷ 42 ∷ []

-- ---- stores, D-form: primary opcodes. "Fixed-Point Store Instructions"

abbrev pub store_names : List (List ℕ)
store_names = codes "stw" ∷ codes "stb" ∷ codes "sth" ∷ []

abbrev pub store_opcodes : List ℕ
store_opcodes = 36 ∷ 38 ∷ 44 ∷ []

-- ---- indexed loads, X-form: extended opcodes behind 31. The last two are of
-- "Fixed-Point Load and Store with Byte Reversal Instructions"

abbrev pub load_x_names : List (List ℕ)
load_x_names = codes "lwzx" ∷ codes "lbzx" ∷ codes "lhzx" ∷ codes "lhax" ∷ codes "lwbrx" ∷ codes "lhbrx" ∷ []

abbrev pub load_x_opcodes : List ℕ
load_x_opcodes = 23 ∷ 87 ∷ 279 ∷ 343 ∷ 534 ∷ 790 ∷ []

-- ---- indexed stores, X-form: extended opcodes behind 31

abbrev pub store_x_names : List (List ℕ)
store_x_names = codes "stwx" ∷ codes "stbx" ∷ codes "sthx" ∷ codes "stwbrx" ∷ codes "sthbrx" ∷ []

abbrev pub store_x_opcodes : List ℕ
store_x_opcodes = 151 ∷ 215 ∷ 407 ∷ 662 ∷ 918 ∷ []

-- ---- comparisons of registers, X-form: extended opcodes behind 31, L is 0. "Fixed-Point Compare Instructions"

abbrev pub cmp_names : List (List ℕ)
cmp_names = codes "cmpw" ∷ codes "cmplw" ∷ []

abbrev pub cmp_opcodes : List ℕ
cmp_opcodes = 0 ∷ 32 ∷ []

-- ---- comparisons with an immediate, D-form: primary opcodes, L is 0

abbrev pub cmp_imm_names : List (List ℕ)
cmp_imm_names = codes "cmpwi" ∷ codes "cmplwi" ∷ []

abbrev pub cmp_imm_opcodes : List ℕ
cmp_imm_opcodes = 11 ∷ 10 ∷ []

-- ---- logic of condition bits, XL-form: extended opcodes behind 19. "Condition Register Logical Instructions"

abbrev pub cr_bit_names : List (List ℕ)
cr_bit_names = codes "crxor" ∷ codes "creqv" ∷ codes "cror" ∷ []

abbrev pub cr_bit_opcodes : List ℕ
cr_bit_opcodes = 193 ∷ 289 ∷ 449 ∷ []

-- ---- moves from and to LR (8) and CTR (9), XFX-form: extended opcodes behind 31.
-- "Move To/From System Register Instructions"

abbrev pub move_names : List (List ℕ)
move_names = codes "mflr" ∷ codes "mfctr" ∷ codes "mtlr" ∷ codes "mtctr" ∷ []

abbrev pub move_opcodes : List ℕ
move_opcodes = 339 ∷ 339 ∷ 467 ∷ 467 ∷ []

abbrev pub move_registers : List ℕ
move_registers = 8 ∷ 9 ∷ 8 ∷ 9 ∷ []

-- ---- barriers, whole words. Power ISA 2.07, Book II: sync, eieio and isync

abbrev pub bar_names : List (List ℕ)
bar_names = codes "sync" ∷ codes "eieio" ∷ codes "isync" ∷ []

abbrev pub bar_words : List ℕ
bar_words = 0x7c0004ac ∷ 0x7c0006ac ∷ 0x4c00012c ∷ []

-- ---- branches and the trap. "Branch Instructions" and "Fixed-Point Trap Instructions".
-- bs is the spelling of b in a dump where its target is a name; bc stands in no dump.

abbrev pub jump_names : List (List ℕ)
jump_names =
    codes "b" ∷ codes "bs" ∷ codes "bl" ∷ codes "bdnz"
    ∷ codes "blr" ∷ codes "bctr" ∷ codes "bctrl" ∷ codes "trap" ∷ []

abbrev pub b_name : List ℕ
b_name = name_at jump_names 0

abbrev pub bl_name : List ℕ
bl_name = name_at jump_names 2

abbrev pub bdnz_name : List ℕ
bdnz_name = name_at jump_names 3

abbrev pub blr_name : List ℕ
blr_name = name_at jump_names 4

abbrev pub bctr_name : List ℕ
bctr_name = name_at jump_names 5

abbrev pub bctrl_name : List ℕ
bctrl_name = name_at jump_names 6

abbrev pub trap_name : List ℕ
trap_name = name_at jump_names 7

abbrev pub bc_name : List ℕ
bc_name = codes "bc"

-- primary opcodes of b and bl, and of bc
abbrev pub b_opcode : ℕ
b_opcode = 18

abbrev pub bc_opcode : ℕ
bc_opcode = 16

abbrev pub blr_word : ℕ
blr_word = 0x4e800020

abbrev pub bctr_word : ℕ
bctr_word = 0x4e800420

abbrev pub bctrl_word : ℕ
bctrl_word = 0x4e800421

abbrev pub trap_word : ℕ
trap_word = 0x7fe00008

-- `ori 0,0,0`, the preferred form of no operation
abbrev pub nop_word : ℕ
nop_word = 0x60000000

-- ---- instructions that stand in no dump: the stores that update their base, D-form and X-form, and the move from the
-- condition register, XFX-form

abbrev pub stwu_name : List ℕ
stwu_name = codes "stwu"

abbrev pub stwu_opcode : ℕ
stwu_opcode = 37

abbrev pub stwux_name : List ℕ
stwux_name = codes "stwux"

abbrev pub stwux_opcode : ℕ
stwux_opcode = 183

abbrev pub mfcr_name : List ℕ
mfcr_name = codes "mfcr"

abbrev pub mfcr_opcode : ℕ
mfcr_opcode = 19

-- ---- places in the rows that other definitions name

abbrev pub addi_place : ℕ
addi_place = 3

abbrev pub addis_place : ℕ
addis_place = 4

abbrev pub ori_place : ℕ
ori_place = 0

abbrev pub or_place : ℕ
or_place = 7

-- the dotted `and`
abbrev pub and_dot_place : ℕ
and_dot_place = 11

abbrev pub rlwinm_place : ℕ
rlwinm_place = 1

abbrev pub lwz_place : ℕ
lwz_place = 0

abbrev pub mtctr_place : ℕ
mtctr_place = 3

abbrev pub cmpwi_place : ℕ
cmpwi_place = 0

abbrev pub addi_opcode : ℕ
addi_opcode = slice_index alu_imm_opcodes addi_place
