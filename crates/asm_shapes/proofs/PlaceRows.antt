-- Each operation stands in the instruction table under its own spelling.
use Rattle.std.proofs.Common.{◌≡◌, [], ◌∷◌, map, refl}
use Rattle.std.specs.Prelude.{codes}
use Rattle.isa_model.specs.Instructions.{name_at, alu_imm_names, log_imm_names, alu_names, alu2_names, log_names, log2_names, rot_names}
use Rattle.isa_model.specs.Instructions.{load_names, store_names, load_x_names, store_x_names, cmp_names, cmp_imm_names, cr_bit_names}
use Rattle.isa_model.specs.Instructions.{move_names, bar_names}
use Rattle.asm_syntax.specs.declared.operations.AluImmOp.TheVariants as AluImmOps
use Rattle.asm_syntax.specs.declared.operations.LogImmOp.TheVariants as LogImmOps
use Rattle.asm_syntax.specs.declared.operations.AluOp.TheVariants as AluOps
use Rattle.asm_syntax.specs.declared.operations.Alu2Op.TheVariants as Alu2Ops
use Rattle.asm_syntax.specs.declared.operations.LogOp.TheVariants as LogOps
use Rattle.asm_syntax.specs.declared.operations.Log2Op.TheVariants as Log2Ops
use Rattle.asm_syntax.specs.declared.operations.RotOp.TheVariants as RotOps
use Rattle.asm_syntax.specs.declared.operations.LoadOp.TheVariants as LoadOps
use Rattle.asm_syntax.specs.declared.operations.StoreOp.TheVariants as StoreOps
use Rattle.asm_syntax.specs.declared.operations.LoadXOp.TheVariants as LoadXOps
use Rattle.asm_syntax.specs.declared.operations.StoreXOp.TheVariants as StoreXOps
use Rattle.asm_syntax.specs.declared.operations.CmpOp.TheVariants as CmpOps
use Rattle.asm_syntax.specs.declared.operations.CmpImmOp.TheVariants as CmpImmOps
use Rattle.asm_syntax.specs.declared.operations.CrBitOp.TheVariants as CrBitOps
use Rattle.asm_syntax.specs.declared.operations.MoveOp.TheVariants as MoveOps
use Rattle.asm_syntax.specs.declared.operations.BarOp.TheVariants as BarOps
use Rattle.asm_syntax.specs.Places.{alu_imm_place, log_imm_place, alu_place, alu2_place, log_place, log2_place, rot_place, load_place}
use Rattle.asm_syntax.specs.Places.{store_place, load_x_place, store_x_place, cmp_place, cmp_imm_place, cr_bit_place, move_place}
use Rattle.asm_syntax.specs.Places.{bar_place}

alu_imm_row : map (λ op. name_at alu_imm_names (alu_imm_place op)) (AluImmOps.Mulli ∷ AluImmOps.Subfic ∷ AluImmOps.Addic
    ∷ AluImmOps.Addi ∷ AluImmOps.Addis ∷ [])
    ≡ codes "mulli" ∷ codes "subfic" ∷ codes "addic" ∷ codes "addi" ∷ codes "addis" ∷ []
alu_imm_row = refl

log_imm_row : map (λ op. name_at log_imm_names (log_imm_place op)) (LogImmOps.Ori ∷ LogImmOps.Oris ∷ LogImmOps.Xori
    ∷ LogImmOps.Xoris ∷ LogImmOps.AndiDot ∷ LogImmOps.AndisDot ∷ [])
    ≡ codes "ori" ∷ codes "oris" ∷ codes "xori" ∷ codes "xoris" ∷ codes "andi." ∷ codes "andis." ∷ []
log_imm_row = refl

alu_row : map (λ op. name_at alu_names (alu_place op)) (AluOps.Subfc ∷ AluOps.Addc ∷ AluOps.Mulhwu ∷ AluOps.Subf ∷ AluOps.Mulhw
    ∷ AluOps.Subfe ∷ AluOps.Adde ∷ AluOps.Mullw ∷ AluOps.Add ∷ AluOps.Divwu ∷ AluOps.Divw ∷ [])
    ≡ codes "subfc" ∷ codes "addc" ∷ codes "mulhwu" ∷ codes "subf" ∷ codes "mulhw" ∷ codes "subfe" ∷ codes "adde" ∷ codes "mullw"
    ∷ codes "add" ∷ codes "divwu" ∷ codes "divw" ∷ []
alu_row = refl

alu2_row : map (λ op. name_at alu2_names (alu2_place op)) (Alu2Ops.Neg ∷ Alu2Ops.Subfze ∷ Alu2Ops.Addze ∷ [])
    ≡ codes "neg" ∷ codes "subfze" ∷ codes "addze" ∷ []
alu2_row = refl

log_row : map (λ op. name_at log_names (log_place op)) (LogOps.Slw ∷ LogOps.And ∷ LogOps.Andc ∷ LogOps.Nor ∷ LogOps.Eqv
    ∷ LogOps.Xor ∷ LogOps.Orc ∷ LogOps.Or ∷ LogOps.Nand ∷ LogOps.Srw ∷ LogOps.Sraw ∷ LogOps.AndDot ∷ [])
    ≡ codes "slw" ∷ codes "and" ∷ codes "andc" ∷ codes "nor" ∷ codes "eqv" ∷ codes "xor" ∷ codes "orc" ∷ codes "or" ∷ codes "nand"
    ∷ codes "srw" ∷ codes "sraw" ∷ codes "and." ∷ []
log_row = refl

log2_row : map (λ op. name_at log2_names (log2_place op)) (Log2Ops.Cntlzw ∷ Log2Ops.Extsh ∷ Log2Ops.Extsb ∷ [])
    ≡ codes "cntlzw" ∷ codes "extsh" ∷ codes "extsb" ∷ []
log2_row = refl

rot_row : map (λ op. name_at rot_names (rot_place op)) (RotOps.Rlwimi ∷ RotOps.Rlwinm ∷ [])
    ≡ codes "rlwimi" ∷ codes "rlwinm" ∷ []
rot_row = refl

load_row : map (λ op. name_at load_names (load_place op)) (LoadOps.Lwz ∷ LoadOps.Lbz ∷ LoadOps.Lhz ∷ LoadOps.Lha ∷ [])
    ≡ codes "lwz" ∷ codes "lbz" ∷ codes "lhz" ∷ codes "lha" ∷ []
load_row = refl

store_row : map (λ op. name_at store_names (store_place op)) (StoreOps.Stw ∷ StoreOps.Stb ∷ StoreOps.Sth ∷ [])
    ≡ codes "stw" ∷ codes "stb" ∷ codes "sth" ∷ []
store_row = refl

load_x_row : map (λ op. name_at load_x_names (load_x_place op)) (LoadXOps.Lwzx ∷ LoadXOps.Lbzx ∷ LoadXOps.Lhzx ∷ LoadXOps.Lhax
    ∷ LoadXOps.Lwbrx ∷ LoadXOps.Lhbrx ∷ [])
    ≡ codes "lwzx" ∷ codes "lbzx" ∷ codes "lhzx" ∷ codes "lhax" ∷ codes "lwbrx" ∷ codes "lhbrx" ∷ []
load_x_row = refl

store_x_row : map (λ op. name_at store_x_names (store_x_place op)) (StoreXOps.Stwx ∷ StoreXOps.Stbx ∷ StoreXOps.Sthx
    ∷ StoreXOps.Stwbrx ∷ StoreXOps.Sthbrx ∷ [])
    ≡ codes "stwx" ∷ codes "stbx" ∷ codes "sthx" ∷ codes "stwbrx" ∷ codes "sthbrx" ∷ []
store_x_row = refl

cmp_row : map (λ op. name_at cmp_names (cmp_place op)) (CmpOps.Cmpw ∷ CmpOps.Cmplw ∷ [])
    ≡ codes "cmpw" ∷ codes "cmplw" ∷ []
cmp_row = refl

cmp_imm_row : map (λ op. name_at cmp_imm_names (cmp_imm_place op)) (CmpImmOps.Cmpwi ∷ CmpImmOps.Cmplwi ∷ [])
    ≡ codes "cmpwi" ∷ codes "cmplwi" ∷ []
cmp_imm_row = refl

cr_bit_row : map (λ op. name_at cr_bit_names (cr_bit_place op)) (CrBitOps.Crxor ∷ CrBitOps.Creqv ∷ CrBitOps.Cror ∷ [])
    ≡ codes "crxor" ∷ codes "creqv" ∷ codes "cror" ∷ []
cr_bit_row = refl

move_row : map (λ op. name_at move_names (move_place op)) (MoveOps.Mflr ∷ MoveOps.Mfctr ∷ MoveOps.Mtlr ∷ MoveOps.Mtctr ∷ [])
    ≡ codes "mflr" ∷ codes "mfctr" ∷ codes "mtlr" ∷ codes "mtctr" ∷ []
move_row = refl

bar_row : map (λ op. name_at bar_names (bar_place op)) (BarOps.Sync ∷ BarOps.Eieio ∷ BarOps.Isync ∷ [])
    ≡ codes "sync" ∷ codes "eieio" ∷ codes "isync" ∷ []
bar_row = refl
