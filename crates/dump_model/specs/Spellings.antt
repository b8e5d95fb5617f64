-- The spelling of each form of instruction, by its class and its place in the class's row.
use Rattle.std.specs.Prelude.{ℕ, List}
use Rattle.isa_model.specs.Instructions.{name_at, alu_imm_names, log_imm_names, alu_names, alu2_names, log_names, log2_names, srawi_name}
use Rattle.isa_model.specs.Instructions.{rot_names, load_names, store_names, load_x_names, store_x_names, cmp_names, cmp_imm_names}
use Rattle.isa_model.specs.Instructions.{cr_bit_names, move_names, bar_names, jump_names}
use Rattle.asm_syntax.specs.Places.{alu_imm_place, log_imm_place, alu_place, alu2_place, log_place, log2_place, rot_place, load_place}
use Rattle.asm_syntax.specs.Places.{store_place, load_x_place, store_x_place, cmp_place, cmp_imm_place, cr_bit_place, move_place}
use Rattle.asm_syntax.specs.Places.{bar_place}
use Rattle.mnemonics.specs.Mnemonics.{pseudo_names}
use Rattle.mnemonics.specs.declared.form.Form.{Form}
use Rattle.mnemonics.specs.declared.form.Form.TheVariants as Forms
use Rattle.mnemonics.specs.declared.form.JumpForm.{JumpForm}
use Rattle.mnemonics.specs.declared.form.JumpForm.TheVariants as JumpForms
use Rattle.mnemonics.specs.declared.form.PseudoForm.{PseudoForm}
use Rattle.mnemonics.specs.declared.form.PseudoForm.TheVariants as PseudoForms

abbrev pub jump_place : JumpForm → ℕ
jump_place JumpForms.B = 0
jump_place JumpForms.Bs = 1
jump_place JumpForms.Bl = 2
jump_place JumpForms.Bdnz = 3
jump_place JumpForms.Blr = 4
jump_place JumpForms.Bctr = 5
jump_place JumpForms.Bctrl = 6
jump_place JumpForms.Trap = 7

abbrev pub pseudo_place : PseudoForm → ℕ
pseudo_place PseudoForms.AllocFrame = 0
pseudo_place PseudoForms.FreeFrame = 1
pseudo_place PseudoForms.Imm = 2
pseudo_place PseudoForms.Bt = 3
pseudo_place PseudoForms.Bf = 4
pseudo_place PseudoForms.Btbl = 5
pseudo_place PseudoForms.MfcrBit = 6
pseudo_place PseudoForms.Label = 7
pseudo_place PseudoForms.Cfi = 8
pseudo_place PseudoForms.Annot = 9

unfoldable pub spelling : Form → List ℕ
spelling (Forms.AluImm op) = name_at alu_imm_names (alu_imm_place op)
spelling (Forms.LogImm op) = name_at log_imm_names (log_imm_place op)
spelling (Forms.Alu op) = name_at alu_names (alu_place op)
spelling (Forms.Alu2 op) = name_at alu2_names (alu2_place op)
spelling (Forms.Log op) = name_at log_names (log_place op)
spelling (Forms.Log2 op) = name_at log2_names (log2_place op)
spelling Forms.Srawi = srawi_name
spelling (Forms.Rot op) = name_at rot_names (rot_place op)
spelling (Forms.Load op) = name_at load_names (load_place op)
spelling (Forms.Store op) = name_at store_names (store_place op)
spelling (Forms.LoadX op) = name_at load_x_names (load_x_place op)
spelling (Forms.StoreX op) = name_at store_x_names (store_x_place op)
spelling (Forms.Cmp op) = name_at cmp_names (cmp_place op)
spelling (Forms.CmpImm op) = name_at cmp_imm_names (cmp_imm_place op)
spelling (Forms.CrBit op) = name_at cr_bit_names (cr_bit_place op)
spelling (Forms.Move op) = name_at move_names (move_place op)
spelling (Forms.Bar op) = name_at bar_names (bar_place op)
spelling (Forms.Jump form) = name_at jump_names (jump_place form)
spelling (Forms.Pseudo form) = name_at pseudo_names (pseudo_place form)
