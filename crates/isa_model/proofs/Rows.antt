-- Each named place has its spelling, and its opcode in the standard; each word without operands is its form's.
use Rattle.std.proofs.Common.{◌≡◌, refl}
use Rattle.std.specs.Prelude.{codes, pos, negsuc, slice_index}
use Rattle.isa_model.specs.Forms.{d_form, x_form, extended, displacement_between}
use Rattle.isa_model.specs.Instructions.{name_at, alu_imm_names, alu_imm_opcodes, log_imm_names, log_imm_opcodes, log_names, log_opcodes}
use Rattle.isa_model.specs.Instructions.{log_record_bits, rot_names, rot_opcodes, load_names, load_opcodes, cmp_imm_names, cmp_imm_opcodes}
use Rattle.isa_model.specs.Instructions.{move_names, move_opcodes, move_registers, bar_words, blr_word, bctr_word, bctrl_word, trap_word}
use Rattle.isa_model.specs.Instructions.{nop_word, b_name, bl_name, bdnz_name, blr_name, bctr_name, bctrl_name, trap_name, addi_place}
use Rattle.isa_model.specs.Instructions.{addis_place, ori_place, or_place, and_dot_place, rlwinm_place, lwz_place, mtctr_place}
use Rattle.isa_model.specs.Instructions.{cmpwi_place, addi_opcode}

-- ---- named places: the spelling, and the opcode of the Power ISA

addi_at : (name_at alu_imm_names addi_place ≡ codes "addi") × (slice_index alu_imm_opcodes addi_place ≡ 14)
addi_at = (refl, refl)

addis_at : (name_at alu_imm_names addis_place ≡ codes "addis") × (slice_index alu_imm_opcodes addis_place ≡ 15)
addis_at = (refl, refl)

ori_at : (name_at log_imm_names ori_place ≡ codes "ori") × (slice_index log_imm_opcodes ori_place ≡ 24)
ori_at = (refl, refl)

or_at : (name_at log_names or_place ≡ codes "or") × (slice_index log_opcodes or_place ≡ 444) × (slice_index log_record_bits or_place ≡ 0)
or_at = (refl, refl, refl)

and_dot_at : (name_at log_names and_dot_place ≡ codes "and.") × (slice_index log_opcodes and_dot_place ≡ 28)
    × (slice_index log_record_bits and_dot_place ≡ 1)
and_dot_at = (refl, refl, refl)

rlwinm_at : (name_at rot_names rlwinm_place ≡ codes "rlwinm") × (slice_index rot_opcodes rlwinm_place ≡ 21)
rlwinm_at = (refl, refl)

lwz_at : (name_at load_names lwz_place ≡ codes "lwz") × (slice_index load_opcodes lwz_place ≡ 32)
lwz_at = (refl, refl)

mtctr_at : (name_at move_names mtctr_place ≡ codes "mtctr") × (slice_index move_opcodes mtctr_place ≡ 467)
    × (slice_index move_registers mtctr_place ≡ 9)
mtctr_at = (refl, refl, refl)

cmpwi_at : (name_at cmp_imm_names cmpwi_place ≡ codes "cmpwi") × (slice_index cmp_imm_opcodes cmpwi_place ≡ 11)
cmpwi_at = (refl, refl)

addi_opcode_is : addi_opcode ≡ 14
addi_opcode_is = refl

-- ---- named spellings of branches

branch_names : (b_name ≡ codes "b") × (bl_name ≡ codes "bl") × (bdnz_name ≡ codes "bdnz") × (blr_name ≡ codes "blr")
    × (bctr_name ≡ codes "bctr") × (bctrl_name ≡ codes "bctrl") × (trap_name ≡ codes "trap")
branch_names = (refl, refl, refl, refl, refl, refl, refl)

-- ---- whole words: `ori 0,0,0`, `bclr 20,0,0`, `bcctr 20,0,0` with LK 0 and 1, `tw 31,0,0`, and the barriers

nop_is : nop_word ≡ d_form 24 0 0 0
unfolding d_form
nop_is = refl

returns_and_trap : (blr_word ≡ x_form 19 20 0 0 (extended 16 0)) × (bctr_word ≡ x_form 19 20 0 0 (extended 528 0))
    × (bctrl_word ≡ x_form 19 20 0 0 (extended 528 1)) × (trap_word ≡ x_form 31 31 0 0 (extended 4 0))
unfolding x_form
returns_and_trap = (refl, refl, refl, refl)

barriers : (slice_index bar_words 0 ≡ x_form 31 0 0 0 (extended 598 0))
    × (slice_index bar_words 1 ≡ x_form 31 0 0 0 (extended 854 0)) × (slice_index bar_words 2 ≡ x_form 19 0 0 0 (extended 150 0))
unfolding x_form
barriers = (refl, refl, refl)

-- ---- displacements: a target before, one behind, and two that do not fit their fields

displacements : (displacement_between 16 0x10010008 0x10010000 ≡ negsuc 7)
    × (displacement_between 26 0x10010008 0x10020000 ≡ pos 0xfff8) × (displacement_between 16 0x1000 0x9000 ≡ negsuc 32767)
    × (displacement_between 26 0x1000 0x02001004 ≡ negsuc 33554427)
unfolding displacement_between
displacements = (refl, refl, refl, refl)
