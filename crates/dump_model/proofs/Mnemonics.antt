-- The spelling of a form stands in the table of mnemonics at that form alone, so it is found there, and read back as the form.
use Rattle.std.proofs.Common.{◌≡◌, ℕ, ◌+◌, ◌<◌, Bool, true, false, List, [], ◌∷◌, length, map, drop, get_or, Option, Some, None, Ok, Bor}
use Rattle.std.proofs.Common.{refl, sym, ◌∙◌}
use Rattle.std.specs.Prelude.{if◌then◌else◌}
use Rattle.std.specs.Option.{option_eq}
use Rattle.std.proofs.lemmas.List.{at_drop_more}
use Rattle.json_tree.specs.Tables.{row}
use Rattle.json_tree.specs.Reading.{look_up, word_of}
use Rattle.mnemonics.specs.contracts.form.FormPartialEq.TheImpl as form_eq
use Rattle.mnemonics.specs.declared.form.Form.{Form}
use Rattle.mnemonics.specs.declared.form.Form.TheVariants as Forms
use Rattle.mnemonics.specs.declared.form.JumpForm.TheVariants as jump
use Rattle.mnemonics.specs.declared.form.PseudoForm.TheVariants as pseudo
use Rattle.asm_syntax.specs.declared.operations.AluImmOp.TheVariants as alu_imm
use Rattle.asm_syntax.specs.declared.operations.LogImmOp.TheVariants as log_imm
use Rattle.asm_syntax.specs.declared.operations.AluOp.TheVariants as alu
use Rattle.asm_syntax.specs.declared.operations.Alu2Op.TheVariants as alu2
use Rattle.asm_syntax.specs.declared.operations.LogOp.TheVariants as log
use Rattle.asm_syntax.specs.declared.operations.Log2Op.TheVariants as log2
use Rattle.asm_syntax.specs.declared.operations.RotOp.TheVariants as rot
use Rattle.asm_syntax.specs.declared.operations.LoadOp.TheVariants as load
use Rattle.asm_syntax.specs.declared.operations.StoreOp.TheVariants as store
use Rattle.asm_syntax.specs.declared.operations.LoadXOp.TheVariants as load_x
use Rattle.asm_syntax.specs.declared.operations.StoreXOp.TheVariants as store_x
use Rattle.asm_syntax.specs.declared.operations.CmpOp.TheVariants as cmp
use Rattle.asm_syntax.specs.declared.operations.CmpImmOp.TheVariants as cmp_imm
use Rattle.asm_syntax.specs.declared.operations.CrBitOp.TheVariants as cr_bit
use Rattle.asm_syntax.specs.declared.operations.MoveOp.TheVariants as move
use Rattle.asm_syntax.specs.declared.operations.BarOp.TheVariants as bar
use Rattle.mnemonics.specs.Mnemonics.{mnemonics}
use Rattle.dump_reader.specs.Words.{allowed_word}
use Rattle.dump_model.specs.Spellings.{spelling}
use Rattle.dump_model.specs.InstructionTree.{mnemonic}

-- the word of the first row with the form
abbrev pub word_in : Form → List (List ℕ × Option Form) → Option (List ℕ)
word_in form [] = None
word_in form (row ∷ rows) = if option_eq (form_eq.ghosts).eq row.1 (Some form) then Some row.0 else word_in form rows

pub found : (form : Form)
    → (look_up mnemonics (spelling form) ≡ Some (Some form)) × (word_in form mnemonics ≡ Some (spelling form))
unfolding mnemonics spelling
found (Forms.AluImm alu_imm.Mulli) = (refl, refl)
found (Forms.AluImm alu_imm.Subfic) = (refl, refl)
found (Forms.AluImm alu_imm.Addic) = (refl, refl)
found (Forms.AluImm alu_imm.Addi) = (refl, refl)
found (Forms.AluImm alu_imm.Addis) = (refl, refl)
found (Forms.LogImm log_imm.Ori) = (refl, refl)
found (Forms.LogImm log_imm.Oris) = (refl, refl)
found (Forms.LogImm log_imm.Xori) = (refl, refl)
found (Forms.LogImm log_imm.Xoris) = (refl, refl)
found (Forms.LogImm log_imm.AndiDot) = (refl, refl)
found (Forms.LogImm log_imm.AndisDot) = (refl, refl)
found (Forms.Alu alu.Subfc) = (refl, refl)
found (Forms.Alu alu.Addc) = (refl, refl)
found (Forms.Alu alu.Mulhwu) = (refl, refl)
found (Forms.Alu alu.Subf) = (refl, refl)
found (Forms.Alu alu.Mulhw) = (refl, refl)
found (Forms.Alu alu.Subfe) = (refl, refl)
found (Forms.Alu alu.Adde) = (refl, refl)
found (Forms.Alu alu.Mullw) = (refl, refl)
found (Forms.Alu alu.Add) = (refl, refl)
found (Forms.Alu alu.Divwu) = (refl, refl)
found (Forms.Alu alu.Divw) = (refl, refl)
found (Forms.Alu2 alu2.Neg) = (refl, refl)
found (Forms.Alu2 alu2.Subfze) = (refl, refl)
found (Forms.Alu2 alu2.Addze) = (refl, refl)
found (Forms.Log log.Slw) = (refl, refl)
found (Forms.Log log.And) = (refl, refl)
found (Forms.Log log.Andc) = (refl, refl)
found (Forms.Log log.Nor) = (refl, refl)
found (Forms.Log log.Eqv) = (refl, refl)
found (Forms.Log log.Xor) = (refl, refl)
found (Forms.Log log.Orc) = (refl, refl)
found (Forms.Log log.Or) = (refl, refl)
found (Forms.Log log.Nand) = (refl, refl)
found (Forms.Log log.Srw) = (refl, refl)
found (Forms.Log log.Sraw) = (refl, refl)
found (Forms.Log log.AndDot) = (refl, refl)
found (Forms.Log2 log2.Cntlzw) = (refl, refl)
found (Forms.Log2 log2.Extsh) = (refl, refl)
found (Forms.Log2 log2.Extsb) = (refl, refl)
found Forms.Srawi = (refl, refl)
found (Forms.Rot rot.Rlwimi) = (refl, refl)
found (Forms.Rot rot.Rlwinm) = (refl, refl)
found (Forms.Load load.Lwz) = (refl, refl)
found (Forms.Load load.Lbz) = (refl, refl)
found (Forms.Load load.Lhz) = (refl, refl)
found (Forms.Load load.Lha) = (refl, refl)
found (Forms.Store store.Stw) = (refl, refl)
found (Forms.Store store.Stb) = (refl, refl)
found (Forms.Store store.Sth) = (refl, refl)
found (Forms.LoadX load_x.Lwzx) = (refl, refl)
found (Forms.LoadX load_x.Lbzx) = (refl, refl)
found (Forms.LoadX load_x.Lhzx) = (refl, refl)
found (Forms.LoadX load_x.Lhax) = (refl, refl)
found (Forms.LoadX load_x.Lwbrx) = (refl, refl)
found (Forms.LoadX load_x.Lhbrx) = (refl, refl)
found (Forms.StoreX store_x.Stwx) = (refl, refl)
found (Forms.StoreX store_x.Stbx) = (refl, refl)
found (Forms.StoreX store_x.Sthx) = (refl, refl)
found (Forms.StoreX store_x.Stwbrx) = (refl, refl)
found (Forms.StoreX store_x.Sthbrx) = (refl, refl)
found (Forms.Cmp cmp.Cmpw) = (refl, refl)
found (Forms.Cmp cmp.Cmplw) = (refl, refl)
found (Forms.CmpImm cmp_imm.Cmpwi) = (refl, refl)
found (Forms.CmpImm cmp_imm.Cmplwi) = (refl, refl)
found (Forms.CrBit cr_bit.Crxor) = (refl, refl)
found (Forms.CrBit cr_bit.Creqv) = (refl, refl)
found (Forms.CrBit cr_bit.Cror) = (refl, refl)
found (Forms.Move move.Mflr) = (refl, refl)
found (Forms.Move move.Mfctr) = (refl, refl)
found (Forms.Move move.Mtlr) = (refl, refl)
found (Forms.Move move.Mtctr) = (refl, refl)
found (Forms.Bar bar.Sync) = (refl, refl)
found (Forms.Bar bar.Eieio) = (refl, refl)
found (Forms.Bar bar.Isync) = (refl, refl)
found (Forms.Jump jump.B) = (refl, refl)
found (Forms.Jump jump.Bs) = (refl, refl)
found (Forms.Jump jump.Bl) = (refl, refl)
found (Forms.Jump jump.Bdnz) = (refl, refl)
found (Forms.Jump jump.Blr) = (refl, refl)
found (Forms.Jump jump.Bctr) = (refl, refl)
found (Forms.Jump jump.Bctrl) = (refl, refl)
found (Forms.Jump jump.Trap) = (refl, refl)
found (Forms.Pseudo pseudo.AllocFrame) = (refl, refl)
found (Forms.Pseudo pseudo.FreeFrame) = (refl, refl)
found (Forms.Pseudo pseudo.Imm) = (refl, refl)
found (Forms.Pseudo pseudo.Bt) = (refl, refl)
found (Forms.Pseudo pseudo.Bf) = (refl, refl)
found (Forms.Pseudo pseudo.Btbl) = (refl, refl)
found (Forms.Pseudo pseudo.MfcrBit) = (refl, refl)
found (Forms.Pseudo pseudo.Label) = (refl, refl)
found (Forms.Pseudo pseudo.Cfi) = (refl, refl)
found (Forms.Pseudo pseudo.Annot) = (refl, refl)

pub mnemonic_back : (form : Form) → allowed_word mnemonics (mnemonic form) ≡ Ok form
unfolding allowed_word word_of
mnemonic_back form = rw (found form).0 refl

-- ---- the search, row by row

-- where the row number i has the form exactly if is_same is true
module _ (form : Form) (rows : List (Bor (List ℕ) × Option Form)) (i : ℕ) (d : Bor (List ℕ) × Option Form) (is_same : Bool)
    (lt : i < length rows) (test : is_same ≡ option_eq (form_eq.ghosts).eq (get_or rows i d).1 (Some form)) where
  at_row : word_in form (map row (drop i rows)) ≡ (if is_same then Some (get_or rows i d).0.now else word_in form (map row (drop
      (i + 1) rows)))
  at_row = at_drop_more (λ rest. word_in form (map row rest)) rows i d lt ∙ rw (← test) refl

  pub row_has : (word : List ℕ) → is_same ≡ true → word_in form (map row (drop i rows)) ≡ Some word
      → (get_or rows i d).0.now ≡ word
  row_has word same so_far =
      let here : Some (get_or rows i d).0.now ≡ Some word = rw same at (sym at_row ∙ so_far) in
      cc

  pub row_differs : (word : List ℕ) → is_same ≡ false → word_in form (map row (drop i rows)) ≡ Some word
      → word_in form (map row (drop (i + 1) rows)) ≡ Some word
  row_differs word other so_far = rw other at (sym at_row ∙ so_far)
