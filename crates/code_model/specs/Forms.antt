-- The forms of an instruction's words. A form is a machine instruction but for what the linker fills in: it is the one table from
-- which follow what spells an instruction, which address a use agrees with, and how a word differs.
-- Power ISA 2.07, "Instruction Formats"; PowerPC EABI, "Relocation".
use Rattle.std.specs.Prelude.{ℕ, ◌-◌, ◌+◌, ◌/◌, ◌%◌, ◌^◌, ℤ, pos, Bool, ◌&&◌, ◌==◌, nat_le, if◌then◌else◌, List, [], ◌∷◌}
use Rattle.isa_model.specs.Word.{wrapped, hi, lo, ha, signed_word}
use Rattle.isa_model.specs.Instructions.{addi_place, addis_place, ori_place, rlwinm_place, lwz_place, mtctr_place}
use Rattle.isa_model.specs.Operands.{is_s16}
use Rattle.ppc_decode.specs.declared.machine.Machine.{Machine}
use Rattle.ppc_decode.specs.declared.machine.Machine.TheVariants as machine
use Rattle.ppc_decode.specs.Word.{is_word}
use Rattle.asm_syntax.specs.declared.instr.Const.{Const}
use Rattle.asm_syntax.specs.declared.instr.Const.TheVariants as consts
use Rattle.asm_syntax.specs.declared.instr.Jump.{Jump}
use Rattle.asm_syntax.specs.declared.instr.Jump.TheVariants as jumps
use Rattle.asm_syntax.specs.declared.instr.Plain.{Plain}
use Rattle.asm_syntax.specs.declared.instr.Plain.TheVariants as plains
use Rattle.asm_syntax.specs.declared.instr.Instr.{Instr}
use Rattle.asm_syntax.specs.declared.instr.Instr.TheVariants as instrs
use Rattle.asm_syntax.specs.Places.{alu_imm_place, log_imm_place, alu_place, alu2_place, log_place, log2_place, rot_place, load_place}
use Rattle.asm_syntax.specs.Places.{store_place, load_x_place, store_x_place, cmp_place, cmp_imm_place, cr_bit_place, move_place}
use Rattle.asm_syntax.specs.Places.{bar_place}
use Rattle.code_model.specs.declared.gap.Gap.{Gap}
use Rattle.code_model.specs.declared.gap.Gap.TheVariants.{Closed, Half, SmallData, Near, Far, Free}
use Rattle.code_model.specs.Fields.{base_field, half_field, short, address_plus}

-- the instruction, by the base register and the number that stand in its gap
pub record Form : Type 0 where
  pub made : ℕ → ℤ → Machine
  pub gap : Gap

abbrev pub closed : Machine → Form
closed m = record { made = λ r n. m; gap = Closed }

-- a branch to t
abbrev pub near : ℕ → (ℤ → Machine) → Form
near t made = record { made = λ r n. made n; gap = Near t }

abbrev pub far : ℕ → (ℤ → Machine) → Form
far t made = record { made = λ r n. made n; gap = Far t }

abbrev pub free : (ℤ → Machine) → Form
free made = record { made = λ r n. made n; gap = Free }

-- ---- instructions of one word. The symbol or label that an instruction names has the address t

-- a constant, with the base register a beside it
abbrev pub constant_form : ℕ → ℕ → Const → (ℕ → ℤ → Machine) → Form
constant_form t a (consts.Int n) made = closed (made a n)
constant_form t a (consts.Lo name o) made = record { made = λ r n. made a n; gap = Half (lo (address_plus t o)) }
constant_form t a (consts.Ha name o) made = record { made = λ r n. made a n; gap = Half (ha (address_plus t o)) }
constant_form t a (consts.Sda name o) made = record { made = made; gap = SmallData (address_plus t o) }

abbrev pub jump_form : ℕ → Jump → Form
jump_form t (jumps.B label) = far t machine.B
jump_form t (jumps.Bs name) = far t machine.B
jump_form t (jumps.Bl name) = far t machine.Bl
jump_form t (jumps.Bdnz label) = near t (machine.Bc 16 0)
jump_form t jumps.Blr = closed machine.Blr
jump_form t jumps.Bctr = closed machine.Bctr
jump_form t jumps.Bctrl = closed machine.Bctrl
jump_form t jumps.Trap = closed machine.Trap

abbrev pub plain_form : ℕ → Plain → Form
plain_form t (plains.AluImm op d a c) = constant_form t a c (λ r n. machine.AluImm (alu_imm_place op) d r n)
plain_form t (plains.LogImm op a s n) = closed (machine.LogImm (log_imm_place op) a s (pos n))
plain_form t (plains.Alu op d a b) = closed (machine.Alu (alu_place op) d a b)
plain_form t (plains.Alu2 op d a) = closed (machine.Alu2 (alu2_place op) d a)
plain_form t (plains.Log op a s b) = closed (machine.Log (log_place op) a s b)
plain_form t (plains.Log2 op a s) = closed (machine.Log2 (log2_place op) a s)
plain_form t (plains.Srawi a s n) = closed (machine.Srawi a s n)
plain_form t (plains.Rot op a s sh mb me) = closed (machine.Rot (rot_place op) a s sh mb me)
plain_form t (plains.Load op d c a) = constant_form t a c (λ r n. machine.Load (load_place op) d n r)
plain_form t (plains.LoadX op d a b) = closed (machine.LoadX (load_x_place op) d a b)
plain_form t (plains.Store op s c a) = constant_form t a c (λ r n. machine.Store (store_place op) s n r)
plain_form t (plains.StoreX op s a b) = closed (machine.StoreX (store_x_place op) s a b)
plain_form t (plains.Cmp op f a b) = closed (machine.Cmp (cmp_place op) f a b)
plain_form t (plains.CmpImm op f a n) = closed (machine.CmpImm (cmp_imm_place op) f a n)
plain_form t (plains.CrBit op x a b) = closed (machine.CrBit (cr_bit_place op) x a b)
plain_form t (plains.Move op r) = closed (machine.Move (move_place op) r)
plain_form t (plains.Bar op) = closed (machine.Bar (bar_place op))
plain_form t (plains.Jump jump) = jump_form t jump

-- ---- machine instructions that stand in the spellings of the others

abbrev pub addi : ℕ → ℕ → ℤ → Machine
addi d a n = machine.AluImm addi_place d a n

abbrev pub addis : ℕ → ℕ → ℤ → Machine
addis d a n = machine.AluImm addis_place d a n

abbrev pub ori : ℕ → ℕ → ℕ → Machine
ori a s n = machine.LogImm ori_place a s (pos n)

abbrev pub lwz : ℕ → ℤ → ℕ → Machine
lwz d n a = machine.Load lwz_place d n a

abbrev pub rlwinm : ℕ → ℕ → ℕ → ℕ → ℕ → Machine
rlwinm a s sh mb me = machine.Rot rlwinm_place a s sh mb me

-- ---- frames, whole words, branches on a bit, tables, bits. Where an instruction has several spellings, its first word w tells which

-- the high and the low half of a word into register r
abbrev pub two_halves : ℕ → ℕ → List Form
two_halves r n = closed (addis r 0 (short (hi n))) ∷ closed (ori r r (lo n)) ∷ []

-- the word n into register r: by one half where that is enough
abbrev pub word_forms : ℕ → ℕ → List Form
word_forms r n =
    if is_s16 (signed_word n) then closed (addi r 0 (signed_word n)) ∷ []
    else if lo n == 0 then closed (addis r 0 (short (hi n))) ∷ []
    else two_halves r n

-- n bytes off, as a word
abbrev pub negated : ℕ → ℕ
negated n = 2 ^ 32 - n

-- a frame of n bytes below r1, whose first word is the old r1
abbrev pub alloc_forms : ℕ → List Form
alloc_forms n =
    if nat_le n 32768 then closed (machine.Stwu 1 (short (lo (negated n))) 1) ∷ []
    else closed (addis 12 0 (short (hi (negated n)))) ∷ closed (ori 12 12 (lo (negated n))) ∷ closed (machine.Stwux 1 1 12) ∷ []

abbrev pub is_addi : ℕ → Bool
is_addi w = is_word w (addi (w / 2 ^ 21 % 32) (base_field w) (half_field w))

-- the old r1, by its word or by the frame's size
abbrev pub free_forms : ℕ → ℕ → List Form
free_forms n w = if is_addi w && nat_le n 32767 then closed (addi 1 1 (pos n)) ∷ [] else closed (lwz 1 (pos 0) 1) ∷ []

-- a branch on a bit of CR: BO is 12 where the bit has to be 1, 4 where it has to be 0
abbrev pub is_bc : ℕ → ℕ → Bool
is_bc bo w = is_word w (machine.Bc bo (base_field w) (half_field w))

-- a branch on a bit with BO `taken`, or, over a jump, with the other BO
abbrev pub branch_forms : ℕ → ℕ → ℕ → ℕ → ℕ → List Form
branch_forms taken other bit t w =
    if is_bc other w then closed (machine.Bc other bit (pos 8)) ∷ far t machine.B ∷ []
    else near t (machine.Bc taken bit) ∷ []

-- a jump by the word number r of a table, wherever the table is
abbrev pub table_forms : ℕ → List Form
table_forms r =
    closed (rlwinm 12 r 2 0 29)
    ∷ free (addis 12 12)
    ∷ free (λ n. lwz 12 n 12)
    ∷ closed (machine.Move mtctr_place 12)
    ∷ closed machine.Bctr
    ∷ []

-- a bit of CR into register r
abbrev pub bit_forms : ℕ → ℕ → List Form
bit_forms r bit = closed (machine.Mfcr r) ∷ closed (rlwinm r r ((bit + 1) % 32) 31 31) ∷ []

-- ---- the forms of the words of any instruction

unfoldable pub forms : ℕ → Instr → ℕ → List Form
forms t (instrs.Plain plain) w = plain_form t plain ∷ []
forms t (instrs.AllocFrame n) w = alloc_forms n
forms t (instrs.FreeFrame n) w = free_forms n w
forms t (instrs.Imm r n) w = word_forms r (wrapped n)
forms t (instrs.Bt bit label) w = branch_forms 12 4 bit t w
forms t (instrs.Bf bit label) w = branch_forms 4 12 bit t w
forms t (instrs.Btbl r labels) w = table_forms r
forms t (instrs.MfcrBit r bit) w = bit_forms r bit
forms t (instrs.Label label) w = []
forms t instrs.Cfi w = []
forms t instrs.Annot w = []

abbrev pub word_length : ℕ → ℕ
word_length n = if is_s16 (signed_word n) then 1 else if lo n == 0 then 1 else 2

-- how many words an instruction has
unfoldable pub instr_length : Instr → ℕ → ℕ
instr_length (instrs.Plain plain) w = 1
instr_length (instrs.AllocFrame n) w = if nat_le n 32768 then 1 else 3
instr_length (instrs.FreeFrame n) w = 1
instr_length (instrs.Imm r n) w = word_length (wrapped n)
instr_length (instrs.Bt bit label) w = if is_bc 4 w then 2 else 1
instr_length (instrs.Bf bit label) w = if is_bc 12 w then 2 else 1
instr_length (instrs.Btbl r labels) w = 5
instr_length (instrs.MfcrBit r bit) w = 2
instr_length (instrs.Label label) w = 0
instr_length instrs.Cfi w = 0
instr_length instrs.Annot w = 0
