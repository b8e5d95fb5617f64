-- The labels of tables that are read: a table has 1 to so many. And the causes for which an array is no instruction.
use Rattle.std.proofs.Common.{◌≡◌, ℕ, Bool, true, false, ◌&&◌, List, length, Result, Ok, Err, refl, arith}
use Rattle.std.specs.Prelude.{nat_le, ◌==◌, if◌then◌else◌}
use Rattle.std.proofs.lemmas.Bool.Decides.{nat_tests}
use Rattle.serde_json.specs.Data.{Data}
use Rattle.asm_syntax.specs.declared.operations.AluImmOp.{AluImmOp}
use Rattle.asm_syntax.specs.declared.operations.LogImmOp.{LogImmOp}
use Rattle.asm_syntax.specs.declared.operations.AluOp.{AluOp}
use Rattle.asm_syntax.specs.declared.operations.Alu2Op.{Alu2Op}
use Rattle.asm_syntax.specs.declared.operations.LogOp.{LogOp}
use Rattle.asm_syntax.specs.declared.operations.Log2Op.{Log2Op}
use Rattle.asm_syntax.specs.declared.operations.RotOp.{RotOp}
use Rattle.asm_syntax.specs.declared.operations.LoadOp.{LoadOp}
use Rattle.asm_syntax.specs.declared.operations.StoreOp.{StoreOp}
use Rattle.asm_syntax.specs.declared.operations.LoadXOp.{LoadXOp}
use Rattle.asm_syntax.specs.declared.operations.StoreXOp.{StoreXOp}
use Rattle.asm_syntax.specs.declared.operations.CmpOp.{CmpOp}
use Rattle.asm_syntax.specs.declared.operations.CmpImmOp.{CmpImmOp}
use Rattle.asm_syntax.specs.declared.operations.CrBitOp.{CrBitOp}
use Rattle.asm_syntax.specs.declared.operations.MoveOp.{MoveOp}
use Rattle.asm_syntax.specs.declared.operations.BarOp.{BarOp}
use Rattle.asm_syntax.specs.declared.instr.Instr.{Instr}
use Rattle.limits.specs.declared.TheConstants.{MOST_LABELS}
use Rattle.asm_shapes.specs.Units.{table_fits}
use Rattle.mnemonics.specs.declared.form.Form.{Form}
use Rattle.mnemonics.specs.declared.form.Form.TheVariants as Forms
use Rattle.mnemonics.specs.declared.form.JumpForm.{JumpForm}
use Rattle.mnemonics.specs.declared.form.JumpForm.TheVariants as JumpForms
use Rattle.mnemonics.specs.declared.form.PseudoForm.{PseudoForm}
use Rattle.mnemonics.specs.declared.form.PseudoForm.TheVariants as PseudoForms
use Rattle.mnemonics.specs.Mnemonics.{mnemonics}
use Rattle.json_tree.specs.declared.fault.Cause.TheVariants.{OutOfRange}
use Rattle.json_tree.specs.declared.fault.Fault.{Fault}
use Rattle.json_tree.specs.Reading.{◌>>=◌, fail}
use Rattle.json_tree.specs.Arrays.{items, limited, list, counted, nth, chosen}
use Rattle.json_tree.specs.Numbers.{unsigned16, unsigned32, word}
use Rattle.dump_reader.specs.Words.{allowed_word}
use Rattle.dump_reader.specs.Operands.{register, bit_number, cr_field, compared, labels, alu_constant, displacement}
use Rattle.dump_reader.specs.Instructions.{two_registers, three_registers, one_number, one_symbol, bit_and_label, alu_imm, log_imm, alu}
use Rattle.dump_reader.specs.Instructions.{alu2, log, log2, srawi, rot, load, store, load_x, store_x, cmp, cmp_imm, cr_bit, move_special}
use Rattle.dump_reader.specs.Instructions.{bar, jump, imm, btbl, mfcr_bit, pseudo, operands, instr}
use Rattle.json_tree.specs.Causes.{FailsBy}
use Rattle.json_tree.proofs.Causes as shares
use Rattle.dump_reader.specs.Causes.{is_dump_cause}
use Rattle.dump_reader.proofs.OperandCauses.{shared, of_allowed, of_register, of_cr_field, of_compared, of_alu_constant, of_displacement}
use Rattle.dump_reader.proofs.OperandCauses.{of_two_registers, of_three_registers, of_one_number, of_one_symbol, of_bit_and_label}
use Rattle.dump_reader.proofs.Readings.{Has, any, at_item, after, after_any, behind, behind_passed, weaken, each_has, few}

abbrev pub TableFits : Instr → Type 0
TableFits i = table_fits i ≡ true

alu_imm_fits : (op : AluImmOp) (ds : List Data) → Has TableFits (alu_imm op ds)
unfolding alu_imm
alu_imm_fits op ds =
    behind TableFits (counted 4 ds) _ (shares.of_counted _ shared 4 ds) (after_any TableFits (nth 1 register ds) _
    (shares.at_item _ 1 register ds of_register) λ _.
    after_any TableFits (nth 2 register ds) _ (shares.at_item _ 2 register ds of_register) λ _.
    after_any TableFits (nth 3 (alu_constant op) ds) _ (shares.at_item _ 3 (alu_constant op) ds (of_alu_constant op)) λ _. refl)

log_imm_fits : (op : LogImmOp) (ds : List Data) → Has TableFits (log_imm op ds)
unfolding log_imm
log_imm_fits op ds =
    behind TableFits (counted 4 ds) _ (shares.of_counted _ shared 4 ds) (after_any TableFits (nth 1 register ds) _
    (shares.at_item _ 1 register ds of_register) λ _.
    after_any TableFits (nth 2 register ds) _ (shares.at_item _ 2 register ds of_register) λ _.
    after_any TableFits (nth 3 unsigned16 ds) _ (shares.at_item _ 3 unsigned16 ds (shares.of_unsigned16 _ shared)) λ _. refl)

alu_fits : (op : AluOp) (ds : List Data) → Has TableFits (alu op ds)
unfolding alu
alu_fits op ds = after_any TableFits (three_registers ds) _ (of_three_registers ds) λ _. refl

alu2_fits : (op : Alu2Op) (ds : List Data) → Has TableFits (alu2 op ds)
unfolding alu2
alu2_fits op ds = after_any TableFits (two_registers ds) _ (of_two_registers ds) λ _. refl

log_fits : (op : LogOp) (ds : List Data) → Has TableFits (log op ds)
unfolding log
log_fits op ds = after_any TableFits (three_registers ds) _ (of_three_registers ds) λ _. refl

log2_fits : (op : Log2Op) (ds : List Data) → Has TableFits (log2 op ds)
unfolding log2
log2_fits op ds = after_any TableFits (two_registers ds) _ (of_two_registers ds) λ _. refl

srawi_fits : (ds : List Data) → Has TableFits (srawi ds)
unfolding srawi
srawi_fits ds =
    behind TableFits (counted 4 ds) _ (shares.of_counted _ shared 4 ds) (after_any TableFits (nth 1 register ds) _
    (shares.at_item _ 1 register ds of_register) λ _.
    after_any TableFits (nth 2 register ds) _ (shares.at_item _ 2 register ds of_register) λ _.
    after_any TableFits (nth 3 bit_number ds) _ (shares.at_item _ 3 bit_number ds of_register) λ _. refl)

rot_fits : (op : RotOp) (ds : List Data) → Has TableFits (rot op ds)
unfolding rot
rot_fits op ds =
    behind TableFits (counted 6 ds) _ (shares.of_counted _ shared 6 ds) (after_any TableFits (nth 1 register ds) _
    (shares.at_item _ 1 register ds of_register) λ _.
    after_any TableFits (nth 2 register ds) _ (shares.at_item _ 2 register ds of_register) λ _.
    after_any TableFits (nth 3 bit_number ds) _ (shares.at_item _ 3 bit_number ds of_register) λ _.
    after_any TableFits (nth 4 bit_number ds) _ (shares.at_item _ 4 bit_number ds of_register) λ _.
    after_any TableFits (nth 5 bit_number ds) _ (shares.at_item _ 5 bit_number ds of_register) λ _. refl)

load_fits : (op : LoadOp) (ds : List Data) → Has TableFits (load op ds)
unfolding load
load_fits op ds =
    behind TableFits (counted 4 ds) _ (shares.of_counted _ shared 4 ds) (after_any TableFits (nth 1 register ds) _
    (shares.at_item _ 1 register ds of_register) λ _.
    after_any TableFits (nth 2 displacement ds) _ (shares.at_item _ 2 displacement ds of_displacement) λ _.
    after_any TableFits (nth 3 register ds) _ (shares.at_item _ 3 register ds of_register) λ _. refl)

store_fits : (op : StoreOp) (ds : List Data) → Has TableFits (store op ds)
unfolding store
store_fits op ds =
    behind TableFits (counted 4 ds) _ (shares.of_counted _ shared 4 ds) (after_any TableFits (nth 1 register ds) _
    (shares.at_item _ 1 register ds of_register) λ _.
    after_any TableFits (nth 2 displacement ds) _ (shares.at_item _ 2 displacement ds of_displacement) λ _.
    after_any TableFits (nth 3 register ds) _ (shares.at_item _ 3 register ds of_register) λ _. refl)

load_x_fits : (op : LoadXOp) (ds : List Data) → Has TableFits (load_x op ds)
unfolding load_x
load_x_fits op ds = after_any TableFits (three_registers ds) _ (of_three_registers ds) λ _. refl

store_x_fits : (op : StoreXOp) (ds : List Data) → Has TableFits (store_x op ds)
unfolding store_x
store_x_fits op ds = after_any TableFits (three_registers ds) _ (of_three_registers ds) λ _. refl

cmp_fits : (op : CmpOp) (ds : List Data) → Has TableFits (cmp op ds)
unfolding cmp
cmp_fits op ds =
    behind TableFits (counted 4 ds) _ (shares.of_counted _ shared 4 ds) (after_any TableFits (nth 1 cr_field ds) _
    (shares.at_item _ 1 cr_field ds of_cr_field) λ _.
    after_any TableFits (nth 2 register ds) _ (shares.at_item _ 2 register ds of_register) λ _.
    after_any TableFits (nth 3 register ds) _ (shares.at_item _ 3 register ds of_register) λ _. refl)

cmp_imm_fits : (op : CmpImmOp) (ds : List Data) → Has TableFits (cmp_imm op ds)
unfolding cmp_imm
cmp_imm_fits op ds =
    behind TableFits (counted 4 ds) _ (shares.of_counted _ shared 4 ds) (after_any TableFits (nth 1 cr_field ds) _
    (shares.at_item _ 1 cr_field ds of_cr_field) λ _.
    after_any TableFits (nth 2 register ds) _ (shares.at_item _ 2 register ds of_register) λ _.
    after_any TableFits (nth 3 (compared op) ds) _ (shares.at_item _ 3 (compared op) ds (of_compared op)) λ _. refl)

cr_bit_fits : (op : CrBitOp) (ds : List Data) → Has TableFits (cr_bit op ds)
unfolding cr_bit
cr_bit_fits op ds =
    behind TableFits (counted 4 ds) _ (shares.of_counted _ shared 4 ds) (after_any TableFits (nth 1 bit_number ds) _
    (shares.at_item _ 1 bit_number ds of_register) λ _.
    after_any TableFits (nth 2 bit_number ds) _ (shares.at_item _ 2 bit_number ds of_register) λ _.
    after_any TableFits (nth 3 bit_number ds) _ (shares.at_item _ 3 bit_number ds of_register) λ _. refl)

move_special_fits : (op : MoveOp) (ds : List Data) → Has TableFits (move_special op ds)
unfolding move_special
move_special_fits op ds =
    behind TableFits (counted 2 ds) _ (shares.of_counted _ shared 2 ds) (after_any TableFits (nth 1 register ds) _
    (shares.at_item _ 1 register ds of_register) λ _. refl)

bar_fits : (op : BarOp) (ds : List Data) → Has TableFits (bar op ds)
unfolding bar
bar_fits op ds = behind TableFits (counted 1 ds) _ (shares.of_counted _ shared 1 ds) (refl)

jump_fits : (form : JumpForm) (ds : List Data) → Has TableFits (jump form ds)
unfolding jump
jump_fits JumpForms.B ds = after_any TableFits (one_number ds) _ (of_one_number ds) λ _. refl
jump_fits JumpForms.Bs ds = after_any TableFits (one_symbol ds) _ (of_one_symbol ds) λ _. refl
jump_fits JumpForms.Bl ds = after_any TableFits (one_symbol ds) _ (of_one_symbol ds) λ _. refl
jump_fits JumpForms.Bdnz ds = after_any TableFits (one_number ds) _ (of_one_number ds) λ _. refl
jump_fits JumpForms.Blr ds = behind TableFits (counted 1 ds) _ (shares.of_counted _ shared 1 ds) refl
jump_fits JumpForms.Bctr ds = behind TableFits (counted 1 ds) _ (shares.of_counted _ shared 1 ds) refl
jump_fits JumpForms.Bctrl ds = behind TableFits (counted 1 ds) _ (shares.of_counted _ shared 1 ds) refl
jump_fits JumpForms.Trap ds = behind TableFits (counted 1 ds) _ (shares.of_counted _ shared 1 ds) refl

imm_fits : (ds : List Data) → Has TableFits (imm ds)
unfolding imm
imm_fits ds =
    behind TableFits (counted 3 ds) _ (shares.of_counted _ shared 3 ds) (after_any TableFits (nth 1 register ds) _
    (shares.at_item _ 1 register ds of_register) λ _.
    after_any TableFits (nth 2 word ds) _ (shares.at_item _ 2 word ds (shares.of_word_number _ shared)) λ _. refl)

mfcr_bit_fits : (ds : List Data) → Has TableFits (mfcr_bit ds)
unfolding mfcr_bit
mfcr_bit_fits ds =
    behind TableFits (counted 3 ds) _ (shares.of_counted _ shared 3 ds) (after_any TableFits (nth 1 register ds) _
    (shares.at_item _ 1 register ds of_register) λ _.
    after_any TableFits (nth 2 bit_number ds) _ (shares.at_item _ 2 bit_number ds of_register) λ _. refl)

-- ---- tables

abbrev LabelsFit : List ℕ → Type 0
LabelsFit ls = (nat_le 1 (length ls) && nat_le (length ls) MOST_LABELS) ≡ true

at_least_one : (n : ℕ) → (n == 0) ≡ false → nat_le 1 n ≡ true
at_least_one n h = grind (arith, nat_tests)

labels_fit : (d : Data) → Has LabelsFit (labels d)
unfolding labels list
labels_fit d = at (items d) refl where
  read : (ds : List Data) → (length ds == 0) ≡ false → items d ≡ Ok ds → Has LabelsFit (list MOST_LABELS unsigned32 d)
  read ds some is =
      rw is (behind_passed (λ _. nat_le (length ds) MOST_LABELS ≡ true) LabelsFit (limited MOST_LABELS ds) _ (few MOST_LABELS ds) λ _ le.
      weaken _ LabelsFit (λ ls q. rw (q.1, at_least_one (length ds) some, le) refl) _ (each_has {S =
      Unit {0}} (λ left l. Unit {0}) (λ left l. left) (λ left. unsigned32) (λ left e.
      any (unsigned32 e) (shares.of_unsigned32 _ shared e)) tt 0 ds))

  some_labels : (ds : List Data) → items d ≡ Ok ds → (b : Bool) → (length ds == 0) ≡ b
      → Has LabelsFit (if b then fail OutOfRange else list MOST_LABELS unsigned32 d)
  some_labels ds is true none = refl
  some_labels ds is false some = read ds some is

  at : (r : Result (List Data) Fault) → items d ≡ r
      → Has LabelsFit (r >>= λ ds. if length ds == 0 then fail OutOfRange else list MOST_LABELS unsigned32 d)
  at (Ok ds) is = some_labels ds is (length ds == 0) refl
  at (Err fault) is = let h : FailsBy is_dump_cause (items d) = shares.of_items _ shared d in rw is at h

btbl_fits : (ds : List Data) → Has TableFits (btbl ds)
unfolding btbl
btbl_fits ds =
    behind TableFits (counted 3 ds) _ (shares.of_counted _ shared 3 ds) (after_any TableFits (nth 1 register ds) _
    (shares.at_item _ 1 register ds of_register) λ _.
    after LabelsFit TableFits (nth 2 labels ds) _ (at_item LabelsFit 2 labels ds labels_fit) λ ls fit. fit)

pseudo_fits : (form : PseudoForm) (ds : List Data) → Has TableFits (pseudo form ds)
unfolding pseudo
pseudo_fits PseudoForms.AllocFrame ds = after_any TableFits (one_number ds) _ (of_one_number ds) λ _. refl
pseudo_fits PseudoForms.FreeFrame ds = after_any TableFits (one_number ds) _ (of_one_number ds) λ _. refl
pseudo_fits PseudoForms.Imm ds = imm_fits ds
pseudo_fits PseudoForms.Bt ds = after_any TableFits (bit_and_label ds) _ (of_bit_and_label ds) λ _. refl
pseudo_fits PseudoForms.Bf ds = after_any TableFits (bit_and_label ds) _ (of_bit_and_label ds) λ _. refl
pseudo_fits PseudoForms.Btbl ds = btbl_fits ds
pseudo_fits PseudoForms.MfcrBit ds = mfcr_bit_fits ds
pseudo_fits PseudoForms.Label ds = after_any TableFits (one_number ds) _ (of_one_number ds) λ _. refl
pseudo_fits PseudoForms.Cfi ds = refl
pseudo_fits PseudoForms.Annot ds = refl

-- ---- the whole

operands_fit : (form : Form) (ds : List Data) → Has TableFits (operands form ds)
unfolding operands
operands_fit (Forms.AluImm op) ds = alu_imm_fits op ds
operands_fit (Forms.LogImm op) ds = log_imm_fits op ds
operands_fit (Forms.Alu op) ds = alu_fits op ds
operands_fit (Forms.Alu2 op) ds = alu2_fits op ds
operands_fit (Forms.Log op) ds = log_fits op ds
operands_fit (Forms.Log2 op) ds = log2_fits op ds
operands_fit Forms.Srawi ds = srawi_fits ds
operands_fit (Forms.Rot op) ds = rot_fits op ds
operands_fit (Forms.Load op) ds = load_fits op ds
operands_fit (Forms.Store op) ds = store_fits op ds
operands_fit (Forms.LoadX op) ds = load_x_fits op ds
operands_fit (Forms.StoreX op) ds = store_x_fits op ds
operands_fit (Forms.Cmp op) ds = cmp_fits op ds
operands_fit (Forms.CmpImm op) ds = cmp_imm_fits op ds
operands_fit (Forms.CrBit op) ds = cr_bit_fits op ds
operands_fit (Forms.Move op) ds = move_special_fits op ds
operands_fit (Forms.Bar op) ds = bar_fits op ds
operands_fit (Forms.Jump form) ds = jump_fits form ds
operands_fit (Forms.Pseudo form) ds = pseudo_fits form ds

pub instr_fits : (d : Data) → Has TableFits (instr d)
unfolding instr
instr_fits d =
    after_any TableFits (items d) _ (shares.of_items _ shared d) λ ds.
    after_any TableFits (chosen (allowed_word mnemonics) ds) _ (shares.of_chosen _ shared (allowed_word mnemonics) ds
    (of_allowed mnemonics)) λ form. operands_fit form ds
