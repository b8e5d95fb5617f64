-- Instructions: the mnemonic, then its operands in their order.
use Rattle.std.specs.Prelude.{ℕ, List, Result, Ok}
use Rattle.serde_json.specs.Data.{Data}
use Rattle.asm_syntax.specs.declared.instr.Plain.TheVariants as Plains
use Rattle.asm_syntax.specs.declared.instr.Jump.{Jump}
use Rattle.asm_syntax.specs.declared.instr.Jump.TheVariants as Jumps
use Rattle.asm_syntax.specs.declared.instr.Instr.{Instr}
use Rattle.asm_syntax.specs.declared.instr.Instr.TheVariants as Instrs
use Rattle.asm_syntax.specs.declared.operations.AluImmOp.{AluImmOp}
use Rattle.asm_syntax.specs.declared.operations.LogImmOp.{LogImmOp}
use Rattle.asm_syntax.specs.declared.operations.AluOp.{AluOp}
use Rattle.asm_syntax.specs.declared.operations.Alu2Op.{Alu2Op}
use Rattle.asm_syntax.specs.declared.operations.LogOp.{LogOp}
use Rattle.asm_syntax.specs.declared.operations.Log2Op.{Log2Op}
use Rattle.asm_syntax.specs.declared.operations.RotOp.{RotOp}
use Rattle.asm_syntax.specs.declared.operations.LoadOp.{LoadOp}
use Rattle.asm_syntax.specs.declared.operations.StoreOp.{StoreOp}
use Rattle.asm_syntax.specs.declared.operations.LoadXOp.{LoadXOp}
use Rattle.asm_syntax.specs.declared.operations.StoreXOp.{StoreXOp}
use Rattle.asm_syntax.specs.declared.operations.CmpOp.{CmpOp}
use Rattle.asm_syntax.specs.declared.operations.CmpImmOp.{CmpImmOp}
use Rattle.asm_syntax.specs.declared.operations.CrBitOp.{CrBitOp}
use Rattle.asm_syntax.specs.declared.operations.MoveOp.{MoveOp}
use Rattle.asm_syntax.specs.declared.operations.BarOp.{BarOp}
use Rattle.mnemonics.specs.declared.form.Form.{Form}
use Rattle.mnemonics.specs.declared.form.Form.TheVariants as Forms
use Rattle.mnemonics.specs.declared.form.JumpForm.{JumpForm}
use Rattle.mnemonics.specs.declared.form.JumpForm.TheVariants as JumpForms
use Rattle.mnemonics.specs.declared.form.PseudoForm.{PseudoForm}
use Rattle.mnemonics.specs.declared.form.PseudoForm.TheVariants as PseudoForms
use Rattle.mnemonics.specs.Mnemonics.{mnemonics}
use Rattle.json_tree.specs.declared.fault.Fault.{Fault}
use Rattle.json_tree.specs.Reading.{◌>>=◌, ◌>>◌, name}
use Rattle.json_tree.specs.Arrays.{items, counted, nth, chosen}
use Rattle.json_tree.specs.Numbers.{unsigned16, unsigned32, word}
use Rattle.dump_reader.specs.Words.{allowed_word}
use Rattle.dump_reader.specs.Operands.{register, bit_number, cr_field, compared, labels, alu_constant, displacement}

-- ---- operands of several classes

unfoldable pub two_registers : List Data → Result (ℕ × ℕ) Fault
two_registers ds = do
  counted 3 ds
  x ← nth 1 register ds
  y ← nth 2 register ds
  Ok (x, y)

unfoldable pub three_registers : List Data → Result (ℕ × ℕ × ℕ) Fault
three_registers ds = do
  counted 4 ds
  x ← nth 1 register ds
  y ← nth 2 register ds
  z ← nth 3 register ds
  Ok (x, y, z)

-- a label, or a frame's size in bytes
unfoldable pub one_number : List Data → Result ℕ Fault
one_number ds = do
  counted 2 ds
  nth 1 unsigned32 ds

unfoldable pub one_symbol : List Data → Result (List ℕ) Fault
one_symbol ds = do
  counted 2 ds
  nth 1 name ds

-- a bit of the condition register, and the label for it
unfoldable pub bit_and_label : List Data → Result (ℕ × ℕ) Fault
bit_and_label ds = do
  counted 3 ds
  bit ← nth 1 bit_number ds
  label ← nth 2 unsigned32 ds
  Ok (bit, label)

-- ---- the plain instructions, class by class

unfoldable pub alu_imm : AluImmOp → List Data → Result Instr Fault
alu_imm op ds = do
  counted 4 ds
  d ← nth 1 register ds
  a ← nth 2 register ds
  c ← nth 3 (alu_constant op) ds
  Ok (Instrs.Plain (Plains.AluImm op d a c))

unfoldable pub log_imm : LogImmOp → List Data → Result Instr Fault
log_imm op ds = do
  counted 4 ds
  a ← nth 1 register ds
  s ← nth 2 register ds
  n ← nth 3 unsigned16 ds
  Ok (Instrs.Plain (Plains.LogImm op a s n))

unfoldable pub alu : AluOp → List Data → Result Instr Fault
alu op ds = do
  rs ← three_registers ds
  Ok (Instrs.Plain (Plains.Alu op rs.0 rs.1 rs.2))

unfoldable pub alu2 : Alu2Op → List Data → Result Instr Fault
alu2 op ds = do
  rs ← two_registers ds
  Ok (Instrs.Plain (Plains.Alu2 op rs.0 rs.1))

unfoldable pub log : LogOp → List Data → Result Instr Fault
log op ds = do
  rs ← three_registers ds
  Ok (Instrs.Plain (Plains.Log op rs.0 rs.1 rs.2))

unfoldable pub log2 : Log2Op → List Data → Result Instr Fault
log2 op ds = do
  rs ← two_registers ds
  Ok (Instrs.Plain (Plains.Log2 op rs.0 rs.1))

unfoldable pub srawi : List Data → Result Instr Fault
srawi ds = do
  counted 4 ds
  a ← nth 1 register ds
  s ← nth 2 register ds
  n ← nth 3 bit_number ds
  Ok (Instrs.Plain (Plains.Srawi a s n))

unfoldable pub rot : RotOp → List Data → Result Instr Fault
rot op ds = do
  counted 6 ds
  a ← nth 1 register ds
  s ← nth 2 register ds
  sh ← nth 3 bit_number ds
  mb ← nth 4 bit_number ds
  me ← nth 5 bit_number ds
  Ok (Instrs.Plain (Plains.Rot op a s sh mb me))

unfoldable pub load : LoadOp → List Data → Result Instr Fault
load op ds = do
  counted 4 ds
  d ← nth 1 register ds
  c ← nth 2 displacement ds
  a ← nth 3 register ds
  Ok (Instrs.Plain (Plains.Load op d c a))

unfoldable pub store : StoreOp → List Data → Result Instr Fault
store op ds = do
  counted 4 ds
  s ← nth 1 register ds
  c ← nth 2 displacement ds
  a ← nth 3 register ds
  Ok (Instrs.Plain (Plains.Store op s c a))

unfoldable pub load_x : LoadXOp → List Data → Result Instr Fault
load_x op ds = do
  rs ← three_registers ds
  Ok (Instrs.Plain (Plains.LoadX op rs.0 rs.1 rs.2))

unfoldable pub store_x : StoreXOp → List Data → Result Instr Fault
store_x op ds = do
  rs ← three_registers ds
  Ok (Instrs.Plain (Plains.StoreX op rs.0 rs.1 rs.2))

unfoldable pub cmp : CmpOp → List Data → Result Instr Fault
cmp op ds = do
  counted 4 ds
  f ← nth 1 cr_field ds
  a ← nth 2 register ds
  b ← nth 3 register ds
  Ok (Instrs.Plain (Plains.Cmp op f a b))

unfoldable pub cmp_imm : CmpImmOp → List Data → Result Instr Fault
cmp_imm op ds = do
  counted 4 ds
  f ← nth 1 cr_field ds
  a ← nth 2 register ds
  n ← nth 3 (compared op) ds
  Ok (Instrs.Plain (Plains.CmpImm op f a n))

unfoldable pub cr_bit : CrBitOp → List Data → Result Instr Fault
cr_bit op ds = do
  counted 4 ds
  t ← nth 1 bit_number ds
  a ← nth 2 bit_number ds
  b ← nth 3 bit_number ds
  Ok (Instrs.Plain (Plains.CrBit op t a b))

unfoldable pub move_special : MoveOp → List Data → Result Instr Fault
move_special op ds = do
  counted 2 ds
  r ← nth 1 register ds
  Ok (Instrs.Plain (Plains.Move op r))

unfoldable pub bar : BarOp → List Data → Result Instr Fault
bar op ds = do
  counted 1 ds
  Ok (Instrs.Plain (Plains.Bar op))

-- ---- branches and the trap

abbrev pub jump_of : Jump → Instr
jump_of jump = Instrs.Plain (Plains.Jump jump)

abbrev pub to_label : (ℕ → Jump) → List Data → Result Instr Fault
to_label jump ds = do
  label ← one_number ds
  Ok (jump_of (jump label))

abbrev pub to_symbol : (List ℕ → Jump) → List Data → Result Instr Fault
to_symbol jump ds = do
  symbol ← one_symbol ds
  Ok (jump_of (jump symbol))

abbrev pub without_operands : Jump → List Data → Result Instr Fault
without_operands jump ds = do
  counted 1 ds
  Ok (jump_of jump)

unfoldable pub jump : JumpForm → List Data → Result Instr Fault
jump JumpForms.B ds = to_label Jumps.B ds
jump JumpForms.Bs ds = to_symbol Jumps.Bs ds
jump JumpForms.Bl ds = to_symbol Jumps.Bl ds
jump JumpForms.Bdnz ds = to_label Jumps.Bdnz ds
jump JumpForms.Blr ds = without_operands Jumps.Blr ds
jump JumpForms.Bctr ds = without_operands Jumps.Bctr ds
jump JumpForms.Bctrl ds = without_operands Jumps.Bctrl ds
jump JumpForms.Trap ds = without_operands Jumps.Trap ds

-- ---- pseudo-instructions

unfoldable pub imm : List Data → Result Instr Fault
imm ds = do
  counted 3 ds
  r ← nth 1 register ds
  n ← nth 2 word ds
  Ok (Instrs.Imm r n)

unfoldable pub btbl : List Data → Result Instr Fault
btbl ds = do
  counted 3 ds
  r ← nth 1 register ds
  ls ← nth 2 labels ds
  Ok (Instrs.Btbl r ls)

unfoldable pub mfcr_bit : List Data → Result Instr Fault
mfcr_bit ds = do
  counted 3 ds
  r ← nth 1 register ds
  bit ← nth 2 bit_number ds
  Ok (Instrs.MfcrBit r bit)

abbrev pub numbered : (ℕ → Instr) → List Data → Result Instr Fault
numbered instr ds = do
  n ← one_number ds
  Ok (instr n)

abbrev pub on_bit : (ℕ → ℕ → Instr) → List Data → Result Instr Fault
on_bit instr ds = do
  p ← bit_and_label ds
  Ok (instr p.0 p.1)

-- cfi and annot may have any further items
unfoldable pub pseudo : PseudoForm → List Data → Result Instr Fault
pseudo PseudoForms.AllocFrame ds = numbered Instrs.AllocFrame ds
pseudo PseudoForms.FreeFrame ds = numbered Instrs.FreeFrame ds
pseudo PseudoForms.Imm ds = imm ds
pseudo PseudoForms.Bt ds = on_bit Instrs.Bt ds
pseudo PseudoForms.Bf ds = on_bit Instrs.Bf ds
pseudo PseudoForms.Btbl ds = btbl ds
pseudo PseudoForms.MfcrBit ds = mfcr_bit ds
pseudo PseudoForms.Label ds = numbered Instrs.Label ds
pseudo PseudoForms.Cfi ds = Ok Instrs.Cfi
pseudo PseudoForms.Annot ds = Ok Instrs.Annot

-- ---- the whole

-- the items of an array whose mnemonic has a form
unfoldable pub operands : Form → List Data → Result Instr Fault
operands (Forms.AluImm op) ds = alu_imm op ds
operands (Forms.LogImm op) ds = log_imm op ds
operands (Forms.Alu op) ds = alu op ds
operands (Forms.Alu2 op) ds = alu2 op ds
operands (Forms.Log op) ds = log op ds
operands (Forms.Log2 op) ds = log2 op ds
operands Forms.Srawi ds = srawi ds
operands (Forms.Rot op) ds = rot op ds
operands (Forms.Load op) ds = load op ds
operands (Forms.Store op) ds = store op ds
operands (Forms.LoadX op) ds = load_x op ds
operands (Forms.StoreX op) ds = store_x op ds
operands (Forms.Cmp op) ds = cmp op ds
operands (Forms.CmpImm op) ds = cmp_imm op ds
operands (Forms.CrBit op) ds = cr_bit op ds
operands (Forms.Move op) ds = move_special op ds
operands (Forms.Bar op) ds = bar op ds
operands (Forms.Jump form) ds = jump form ds
operands (Forms.Pseudo form) ds = pseudo form ds

unfoldable pub instr : Data → Result Instr Fault
instr d = do
  ds ← items d
  form ← chosen (allowed_word mnemonics) ds
  operands form ds
