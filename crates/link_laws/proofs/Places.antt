-- Each mnemonic of a dump has its place in the row of its class.
use Rattle.std.proofs.Common.{◌≡◌, true, refl}
use Rattle.isa_model.specs.Instructions.{alu_imm_opcodes, log_imm_opcodes, alu_opcodes, alu2_opcodes, log_opcodes, log2_opcodes}
use Rattle.isa_model.specs.Instructions.{rot_opcodes, load_opcodes, store_opcodes, load_x_opcodes, store_x_opcodes, cmp_opcodes}
use Rattle.isa_model.specs.Instructions.{cmp_imm_opcodes, cr_bit_opcodes, move_opcodes, bar_words}
use Rattle.ppc_decode.specs.Word.{is_place}
use Rattle.asm_syntax.specs.declared.operations.AluImmOp.{AluImmOp}
use Rattle.asm_syntax.specs.declared.operations.AluImmOp.TheVariants as AluImmOps
use Rattle.asm_syntax.specs.declared.operations.LogImmOp.{LogImmOp}
use Rattle.asm_syntax.specs.declared.operations.LogImmOp.TheVariants as LogImmOps
use Rattle.asm_syntax.specs.declared.operations.AluOp.{AluOp}
use Rattle.asm_syntax.specs.declared.operations.AluOp.TheVariants as AluOps
use Rattle.asm_syntax.specs.declared.operations.Alu2Op.{Alu2Op}
use Rattle.asm_syntax.specs.declared.operations.Alu2Op.TheVariants as Alu2Ops
use Rattle.asm_syntax.specs.declared.operations.LogOp.{LogOp}
use Rattle.asm_syntax.specs.declared.operations.LogOp.TheVariants as LogOps
use Rattle.asm_syntax.specs.declared.operations.Log2Op.{Log2Op}
use Rattle.asm_syntax.specs.declared.operations.Log2Op.TheVariants as Log2Ops
use Rattle.asm_syntax.specs.declared.operations.RotOp.{RotOp}
use Rattle.asm_syntax.specs.declared.operations.RotOp.TheVariants as RotOps
use Rattle.asm_syntax.specs.declared.operations.LoadOp.{LoadOp}
use Rattle.asm_syntax.specs.declared.operations.LoadOp.TheVariants as LoadOps
use Rattle.asm_syntax.specs.declared.operations.StoreOp.{StoreOp}
use Rattle.asm_syntax.specs.declared.operations.StoreOp.TheVariants as StoreOps
use Rattle.asm_syntax.specs.declared.operations.LoadXOp.{LoadXOp}
use Rattle.asm_syntax.specs.declared.operations.LoadXOp.TheVariants as LoadXOps
use Rattle.asm_syntax.specs.declared.operations.StoreXOp.{StoreXOp}
use Rattle.asm_syntax.specs.declared.operations.StoreXOp.TheVariants as StoreXOps
use Rattle.asm_syntax.specs.declared.operations.CmpOp.{CmpOp}
use Rattle.asm_syntax.specs.declared.operations.CmpOp.TheVariants as CmpOps
use Rattle.asm_syntax.specs.declared.operations.CmpImmOp.{CmpImmOp}
use Rattle.asm_syntax.specs.declared.operations.CmpImmOp.TheVariants as CmpImmOps
use Rattle.asm_syntax.specs.declared.operations.CrBitOp.{CrBitOp}
use Rattle.asm_syntax.specs.declared.operations.CrBitOp.TheVariants as CrBitOps
use Rattle.asm_syntax.specs.declared.operations.MoveOp.{MoveOp}
use Rattle.asm_syntax.specs.declared.operations.MoveOp.TheVariants as MoveOps
use Rattle.asm_syntax.specs.declared.operations.BarOp.{BarOp}
use Rattle.asm_syntax.specs.declared.operations.BarOp.TheVariants as BarOps
use Rattle.asm_syntax.specs.Places.{alu_imm_place, log_imm_place, alu_place, alu2_place, log_place, log2_place, rot_place, load_place}
use Rattle.asm_syntax.specs.Places.{store_place, load_x_place, store_x_place, cmp_place, cmp_imm_place, cr_bit_place, move_place}
use Rattle.asm_syntax.specs.Places.{bar_place}

pub alu_imm_placed : (op : AluImmOp) → is_place (alu_imm_place op) alu_imm_opcodes ≡ true
alu_imm_placed AluImmOps.Mulli = refl
alu_imm_placed _ = refl

pub log_imm_placed : (op : LogImmOp) → is_place (log_imm_place op) log_imm_opcodes ≡ true
log_imm_placed LogImmOps.Ori = refl
log_imm_placed _ = refl

pub alu_placed : (op : AluOp) → is_place (alu_place op) alu_opcodes ≡ true
alu_placed AluOps.Subfc = refl
alu_placed _ = refl

pub alu2_placed : (op : Alu2Op) → is_place (alu2_place op) alu2_opcodes ≡ true
alu2_placed Alu2Ops.Neg = refl
alu2_placed _ = refl

pub log_placed : (op : LogOp) → is_place (log_place op) log_opcodes ≡ true
log_placed LogOps.Slw = refl
log_placed _ = refl

pub log2_placed : (op : Log2Op) → is_place (log2_place op) log2_opcodes ≡ true
log2_placed Log2Ops.Cntlzw = refl
log2_placed _ = refl

pub rot_placed : (op : RotOp) → is_place (rot_place op) rot_opcodes ≡ true
rot_placed RotOps.Rlwimi = refl
rot_placed _ = refl

pub load_placed : (op : LoadOp) → is_place (load_place op) load_opcodes ≡ true
load_placed LoadOps.Lwz = refl
load_placed _ = refl

pub store_placed : (op : StoreOp) → is_place (store_place op) store_opcodes ≡ true
store_placed StoreOps.Stw = refl
store_placed _ = refl

pub load_x_placed : (op : LoadXOp) → is_place (load_x_place op) load_x_opcodes ≡ true
load_x_placed LoadXOps.Lwzx = refl
load_x_placed _ = refl

pub store_x_placed : (op : StoreXOp) → is_place (store_x_place op) store_x_opcodes ≡ true
store_x_placed StoreXOps.Stwx = refl
store_x_placed _ = refl

pub cmp_placed : (op : CmpOp) → is_place (cmp_place op) cmp_opcodes ≡ true
cmp_placed CmpOps.Cmpw = refl
cmp_placed _ = refl

pub cmp_imm_placed : (op : CmpImmOp) → is_place (cmp_imm_place op) cmp_imm_opcodes ≡ true
cmp_imm_placed CmpImmOps.Cmpwi = refl
cmp_imm_placed _ = refl

pub cr_bit_placed : (op : CrBitOp) → is_place (cr_bit_place op) cr_bit_opcodes ≡ true
cr_bit_placed CrBitOps.Crxor = refl
cr_bit_placed _ = refl

pub move_placed : (op : MoveOp) → is_place (move_place op) move_opcodes ≡ true
move_placed MoveOps.Mflr = refl
move_placed _ = refl

pub bar_placed : (op : BarOp) → is_place (bar_place op) bar_words ≡ true
bar_placed BarOps.Sync = refl
bar_placed _ = refl
