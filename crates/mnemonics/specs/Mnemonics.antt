-- The mnemonics of dumps, and the form of instruction that each selects. The plain mnemonics are spelled as in the instruction table.
use Rattle.std.specs.Prelude.{ℕ, List, [], ◌∷◌, Option, Some, None, flat_map, map, zip, codes}
use Rattle.isa_model.specs.Instructions.{alu_imm_names, log_imm_names, alu_names, alu2_names, log_names, log2_names, srawi_name, rot_names}
use Rattle.isa_model.specs.Instructions.{load_names, store_names, load_x_names, store_x_names, cmp_names, cmp_imm_names, cr_bit_names}
use Rattle.isa_model.specs.Instructions.{move_names, bar_names, jump_names}
use Rattle.mnemonics.specs.declared.form.Form.{Form}
use Rattle.mnemonics.specs.declared.form.Form.TheVariants as Forms
use Rattle.mnemonics.specs.declared.form.JumpForm.{JumpForm}
use Rattle.mnemonics.specs.declared.form.JumpForm.TheVariants as jumps
use Rattle.mnemonics.specs.declared.form.PseudoForm.{PseudoForm}
use Rattle.mnemonics.specs.declared.form.PseudoForm.TheVariants as pseudo
use Rattle.asm_syntax.specs.declared.operations.AluImmOp.{AluImmOp}
use Rattle.asm_syntax.specs.declared.operations.AluImmOp.TheVariants as alu_imm
use Rattle.asm_syntax.specs.declared.operations.LogImmOp.{LogImmOp}
use Rattle.asm_syntax.specs.declared.operations.LogImmOp.TheVariants as log_imm
use Rattle.asm_syntax.specs.declared.operations.AluOp.{AluOp}
use Rattle.asm_syntax.specs.declared.operations.AluOp.TheVariants as alu
use Rattle.asm_syntax.specs.declared.operations.Alu2Op.{Alu2Op}
use Rattle.asm_syntax.specs.declared.operations.Alu2Op.TheVariants as alu2
use Rattle.asm_syntax.specs.declared.operations.LogOp.{LogOp}
use Rattle.asm_syntax.specs.declared.operations.LogOp.TheVariants as log
use Rattle.asm_syntax.specs.declared.operations.Log2Op.{Log2Op}
use Rattle.asm_syntax.specs.declared.operations.Log2Op.TheVariants as log2
use Rattle.asm_syntax.specs.declared.operations.RotOp.{RotOp}
use Rattle.asm_syntax.specs.declared.operations.RotOp.TheVariants as rot
use Rattle.asm_syntax.specs.declared.operations.LoadOp.{LoadOp}
use Rattle.asm_syntax.specs.declared.operations.LoadOp.TheVariants as load
use Rattle.asm_syntax.specs.declared.operations.StoreOp.{StoreOp}
use Rattle.asm_syntax.specs.declared.operations.StoreOp.TheVariants as store
use Rattle.asm_syntax.specs.declared.operations.LoadXOp.{LoadXOp}
use Rattle.asm_syntax.specs.declared.operations.LoadXOp.TheVariants as load_x
use Rattle.asm_syntax.specs.declared.operations.StoreXOp.{StoreXOp}
use Rattle.asm_syntax.specs.declared.operations.StoreXOp.TheVariants as store_x
use Rattle.asm_syntax.specs.declared.operations.CmpOp.{CmpOp}
use Rattle.asm_syntax.specs.declared.operations.CmpOp.TheVariants as cmp
use Rattle.asm_syntax.specs.declared.operations.CmpImmOp.{CmpImmOp}
use Rattle.asm_syntax.specs.declared.operations.CmpImmOp.TheVariants as cmp_imm
use Rattle.asm_syntax.specs.declared.operations.CrBitOp.{CrBitOp}
use Rattle.asm_syntax.specs.declared.operations.CrBitOp.TheVariants as cr_bit
use Rattle.asm_syntax.specs.declared.operations.MoveOp.{MoveOp}
use Rattle.asm_syntax.specs.declared.operations.MoveOp.TheVariants as move
use Rattle.asm_syntax.specs.declared.operations.BarOp.{BarOp}
use Rattle.asm_syntax.specs.declared.operations.BarOp.TheVariants as bar

-- ---- the operations of each class, in the order of the instruction table

abbrev pub alu_imm_ops : List AluImmOp
alu_imm_ops = alu_imm.Mulli ∷ alu_imm.Subfic ∷ alu_imm.Addic ∷ alu_imm.Addi ∷ alu_imm.Addis ∷ []

abbrev pub log_imm_ops : List LogImmOp
log_imm_ops = log_imm.Ori ∷ log_imm.Oris ∷ log_imm.Xori ∷ log_imm.Xoris ∷ log_imm.AndiDot ∷ log_imm.AndisDot ∷ []

abbrev pub alu_ops : List AluOp
alu_ops = alu.Subfc ∷ alu.Addc ∷ alu.Mulhwu ∷ alu.Subf ∷ alu.Mulhw ∷ alu.Subfe ∷ alu.Adde ∷ alu.Mullw ∷ alu.Add ∷ alu.Divwu
    ∷ alu.Divw ∷ []

abbrev pub alu2_ops : List Alu2Op
alu2_ops = alu2.Neg ∷ alu2.Subfze ∷ alu2.Addze ∷ []

abbrev pub log_ops : List LogOp
log_ops = log.Slw ∷ log.And ∷ log.Andc ∷ log.Nor ∷ log.Eqv ∷ log.Xor ∷ log.Orc ∷ log.Or ∷ log.Nand ∷ log.Srw ∷ log.Sraw ∷ log.AndDot ∷ []

abbrev pub log2_ops : List Log2Op
log2_ops = log2.Cntlzw ∷ log2.Extsh ∷ log2.Extsb ∷ []

abbrev pub rot_ops : List RotOp
rot_ops = rot.Rlwimi ∷ rot.Rlwinm ∷ []

abbrev pub load_ops : List LoadOp
load_ops = load.Lwz ∷ load.Lbz ∷ load.Lhz ∷ load.Lha ∷ []

abbrev pub store_ops : List StoreOp
store_ops = store.Stw ∷ store.Stb ∷ store.Sth ∷ []

abbrev pub load_x_ops : List LoadXOp
load_x_ops = load_x.Lwzx ∷ load_x.Lbzx ∷ load_x.Lhzx ∷ load_x.Lhax ∷ load_x.Lwbrx ∷ load_x.Lhbrx ∷ []

abbrev pub store_x_ops : List StoreXOp
store_x_ops = store_x.Stwx ∷ store_x.Stbx ∷ store_x.Sthx ∷ store_x.Stwbrx ∷ store_x.Sthbrx ∷ []

abbrev pub cmp_ops : List CmpOp
cmp_ops = cmp.Cmpw ∷ cmp.Cmplw ∷ []

abbrev pub cmp_imm_ops : List CmpImmOp
cmp_imm_ops = cmp_imm.Cmpwi ∷ cmp_imm.Cmplwi ∷ []

abbrev pub cr_bit_ops : List CrBitOp
cr_bit_ops = cr_bit.Crxor ∷ cr_bit.Creqv ∷ cr_bit.Cror ∷ []

abbrev pub move_ops : List MoveOp
move_ops = move.Mflr ∷ move.Mfctr ∷ move.Mtlr ∷ move.Mtctr ∷ []

abbrev pub bar_ops : List BarOp
bar_ops = bar.Sync ∷ bar.Eieio ∷ bar.Isync ∷ []

abbrev pub jump_forms : List JumpForm
jump_forms = jumps.B ∷ jumps.Bs ∷ jumps.Bl ∷ jumps.Bdnz ∷ jumps.Blr ∷ jumps.Bctr ∷ jumps.Bctrl ∷ jumps.Trap ∷ []

-- ---- what stands in dumps alone

abbrev pub pseudo_forms : List PseudoForm
pseudo_forms = pseudo.AllocFrame ∷ pseudo.FreeFrame ∷ pseudo.Imm ∷ pseudo.Bt ∷ pseudo.Bf ∷ pseudo.Btbl ∷ pseudo.MfcrBit
    ∷ pseudo.Label ∷ pseudo.Cfi ∷ pseudo.Annot ∷ []

abbrev pub pseudo_names : List (List ℕ)
pseudo_names = codes "allocframe" ∷ codes "freeframe" ∷ codes "imm" ∷ codes "bt" ∷ codes "bf" ∷ codes "btbl" ∷ codes "mfcrbit"
    ∷ codes "label" ∷ codes "cfi" ∷ codes "annot" ∷ []

-- floating-point and 64-bit instructions
abbrev pub refused_names : List (List ℕ)
refused_names = codes "fabs" ∷ codes "fadd" ∷ codes "fadds" ∷ codes "fcmpu" ∷ codes "fctiwz" ∷ codes "fdiv" ∷ codes "fdivs"
    ∷ codes "fmadd" ∷ codes "fmr" ∷ codes "fmsub" ∷ codes "fmul" ∷ codes "fmuls" ∷ codes "fneg" ∷ codes "frsp" ∷ codes "fsub"
    ∷ codes "fsubs" ∷ codes "lfd" ∷ codes "lfdx" ∷ codes "lfs" ∷ codes "lfsx" ∷ codes "stfd" ∷ codes "stfdx" ∷ codes "stfs"
    ∷ codes "stfsx" ∷ codes "cmpd" ∷ codes "cmpld" ∷ codes "divd" ∷ codes "divdu" ∷ codes "extsw" ∷ codes "ld" ∷ codes "ldx"
    ∷ codes "mulld" ∷ codes "rldicl" ∷ codes "rldicr" ∷ codes "sld" ∷ codes "srad" ∷ codes "srd" ∷ codes "std" ∷ codes "stdx" ∷ []

-- names beside the forms that they select
abbrev pub selecting : {Op : Type 0} → (Op → Form) → List (List ℕ) → List Op → List (List ℕ × Option Form)
selecting form names ops = zip names (map (λ op. Some (form op)) ops)

-- each mnemonic beside the form that it selects, the classes that compilers use most first; a refused one selects none
unfoldable pub mnemonics : List (List ℕ × Option Form)
mnemonics = flat_map (λ rows. rows) (
    selecting Forms.Load load_names load_ops
    ∷ selecting Forms.Store store_names store_ops
    ∷ selecting Forms.Pseudo pseudo_names pseudo_forms
    ∷ selecting Forms.CmpImm cmp_imm_names cmp_imm_ops
    ∷ selecting Forms.Move move_names move_ops
    ∷ selecting Forms.Jump jump_names jump_forms
    ∷ selecting Forms.AluImm alu_imm_names alu_imm_ops
    ∷ selecting Forms.Alu alu_names alu_ops
    ∷ selecting Forms.Log log_names log_ops
    ∷ selecting Forms.Rot rot_names rot_ops
    ∷ ((srawi_name, Some Forms.Srawi) ∷ [])
    ∷ selecting Forms.Cmp cmp_names cmp_ops
    ∷ selecting Forms.LogImm log_imm_names log_imm_ops
    ∷ selecting Forms.Log2 log2_names log2_ops
    ∷ selecting Forms.Alu2 alu2_names alu2_ops
    ∷ selecting Forms.LoadX load_x_names load_x_ops
    ∷ selecting Forms.StoreX store_x_names store_x_ops
    ∷ selecting Forms.CrBit cr_bit_names cr_bit_ops
    ∷ selecting Forms.Bar bar_names bar_ops
    ∷ map (λ name. (name, None)) refused_names
    ∷ []
    )
