-- The tree of an instruction: the array of its mnemonic and of its operands in their order.
use Rattle.std.specs.Prelude.{ℕ, ℤ, List, [], ◌∷◌, codes}
use Rattle.serde_json.specs.Data.{Data, string}
use Rattle.asm_syntax.specs.declared.instr.Const.{Const}
use Rattle.asm_syntax.specs.declared.instr.Const.TheVariants.{Int, Lo, Ha, Sda}
use Rattle.asm_syntax.specs.declared.instr.Plain.{Plain}
use Rattle.asm_syntax.specs.declared.instr.Plain.TheVariants as Plains
use Rattle.asm_syntax.specs.declared.instr.Jump.{Jump}
use Rattle.asm_syntax.specs.declared.instr.Jump.TheVariants as Jumps
use Rattle.asm_syntax.specs.declared.instr.Instr.{Instr}
use Rattle.asm_syntax.specs.declared.instr.Instr.TheVariants as Instrs
use Rattle.mnemonics.specs.declared.form.Form.{Form}
use Rattle.mnemonics.specs.declared.form.Form.TheVariants as Forms
use Rattle.mnemonics.specs.declared.form.JumpForm.{JumpForm}
use Rattle.mnemonics.specs.declared.form.JumpForm.TheVariants as JumpForms
use Rattle.mnemonics.specs.declared.form.PseudoForm.TheVariants as PseudoForms
use Rattle.dump_model.specs.Spellings.{spelling}
use Rattle.dump_model.specs.Trees.{unsigned_data, signed_data, array_of, list_data}

abbrev pub mnemonic : Form → Data
mnemonic form = string (spelling form)

-- a part of a symbol's address plus an offset
abbrev pub part_data : List ℕ → List ℕ → ℤ → Data
part_data word symbol offset = array_of (string word ∷ string symbol ∷ signed_data offset ∷ [])

abbrev pub const_data : Const → Data
const_data (Int n) = signed_data n
const_data (Lo symbol offset) = part_data (codes "lo") symbol offset
const_data (Ha symbol offset) = part_data (codes "ha") symbol offset
const_data (Sda symbol offset) = part_data (codes "sda") symbol offset

-- ---- a form and operands that are numbers alone

abbrev pub one_item : Form → ℕ → List Data
one_item form x = mnemonic form ∷ unsigned_data x ∷ []

abbrev pub two_items : Form → ℕ → ℕ → List Data
two_items form x y = mnemonic form ∷ unsigned_data x ∷ unsigned_data y ∷ []

abbrev pub three_items : Form → ℕ → ℕ → ℕ → List Data
three_items form x y z = mnemonic form ∷ unsigned_data x ∷ unsigned_data y ∷ unsigned_data z ∷ []

abbrev pub label_items : JumpForm → ℕ → List Data
label_items form label = one_item (Forms.Jump form) label

abbrev pub symbol_items : JumpForm → List ℕ → List Data
symbol_items form symbol = mnemonic (Forms.Jump form) ∷ string symbol ∷ []

abbrev pub bare_items : JumpForm → List Data
bare_items form = mnemonic (Forms.Jump form) ∷ []

abbrev pub jump_items : Jump → List Data
jump_items (Jumps.B label) = label_items JumpForms.B label
jump_items (Jumps.Bs symbol) = symbol_items JumpForms.Bs symbol
jump_items (Jumps.Bl symbol) = symbol_items JumpForms.Bl symbol
jump_items (Jumps.Bdnz label) = label_items JumpForms.Bdnz label
jump_items Jumps.Blr = bare_items JumpForms.Blr
jump_items Jumps.Bctr = bare_items JumpForms.Bctr
jump_items Jumps.Bctrl = bare_items JumpForms.Bctrl
jump_items Jumps.Trap = bare_items JumpForms.Trap

abbrev pub plain_items : Plain → List Data
plain_items (Plains.AluImm op d a c) = mnemonic (Forms.AluImm op) ∷ unsigned_data d ∷ unsigned_data a ∷ const_data c ∷ []
plain_items (Plains.LogImm op a s n) = three_items (Forms.LogImm op) a s n
plain_items (Plains.Alu op d a b) = three_items (Forms.Alu op) d a b
plain_items (Plains.Alu2 op d a) = two_items (Forms.Alu2 op) d a
plain_items (Plains.Log op a s b) = three_items (Forms.Log op) a s b
plain_items (Plains.Log2 op a s) = two_items (Forms.Log2 op) a s
plain_items (Plains.Srawi a s n) = three_items Forms.Srawi a s n
plain_items (Plains.Rot op a s sh mb me) =
    mnemonic (Forms.Rot op) ∷ unsigned_data a ∷ unsigned_data s ∷ unsigned_data sh ∷ unsigned_data mb ∷ unsigned_data me ∷ []
plain_items (Plains.Load op d c a) = mnemonic (Forms.Load op) ∷ unsigned_data d ∷ const_data c ∷ unsigned_data a ∷ []
plain_items (Plains.LoadX op d a b) = three_items (Forms.LoadX op) d a b
plain_items (Plains.Store op s c a) = mnemonic (Forms.Store op) ∷ unsigned_data s ∷ const_data c ∷ unsigned_data a ∷ []
plain_items (Plains.StoreX op s a b) = three_items (Forms.StoreX op) s a b
plain_items (Plains.Cmp op f a b) = three_items (Forms.Cmp op) f a b
plain_items (Plains.CmpImm op f a n) = mnemonic (Forms.CmpImm op) ∷ unsigned_data f ∷ unsigned_data a ∷ signed_data n ∷ []
plain_items (Plains.CrBit op t a b) = three_items (Forms.CrBit op) t a b
plain_items (Plains.Move op r) = one_item (Forms.Move op) r
plain_items (Plains.Bar op) = mnemonic (Forms.Bar op) ∷ []
plain_items (Plains.Jump jump) = jump_items jump

abbrev pub table_items : ℕ → List ℕ → List Data
table_items r labels = mnemonic (Forms.Pseudo PseudoForms.Btbl) ∷ unsigned_data r ∷ list_data unsigned_data labels ∷ []

-- cfi and annot have no further items
abbrev pub instr_items : Instr → List Data
instr_items (Instrs.Plain plain) = plain_items plain
instr_items (Instrs.AllocFrame n) = one_item (Forms.Pseudo PseudoForms.AllocFrame) n
instr_items (Instrs.FreeFrame n) = one_item (Forms.Pseudo PseudoForms.FreeFrame) n
instr_items (Instrs.Imm r n) = two_items (Forms.Pseudo PseudoForms.Imm) r n
instr_items (Instrs.Bt bit label) = two_items (Forms.Pseudo PseudoForms.Bt) bit label
instr_items (Instrs.Bf bit label) = two_items (Forms.Pseudo PseudoForms.Bf) bit label
instr_items (Instrs.Btbl r labels) = table_items r labels
instr_items (Instrs.MfcrBit r bit) = two_items (Forms.Pseudo PseudoForms.MfcrBit) r bit
instr_items (Instrs.Label label) = one_item (Forms.Pseudo PseudoForms.Label) label
instr_items Instrs.Cfi = mnemonic (Forms.Pseudo PseudoForms.Cfi) ∷ []
instr_items Instrs.Annot = mnemonic (Forms.Pseudo PseudoForms.Annot) ∷ []

abbrev pub instr_data : Instr → Data
instr_data instr = array_of (instr_items instr)
