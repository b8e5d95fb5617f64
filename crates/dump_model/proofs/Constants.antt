-- Constants that are written are read back.
use Rattle.std.proofs.Common.{◌≡◌, ℕ, ℤ, true, Ok, refl}
use Rattle.std.proofs.lemmas.Bool.{and_parts}
use Rattle.asm_shapes.specs.Operands.{is_short, is_high_constant, is_address_constant, is_alu_constant, is_compared}
use Rattle.asm_syntax.specs.declared.operations.AluImmOp.{AluImmOp}
use Rattle.asm_syntax.specs.declared.operations.AluImmOp.TheVariants as alu_imm
use Rattle.asm_syntax.specs.declared.operations.CmpImmOp.{CmpImmOp}
use Rattle.asm_syntax.specs.declared.operations.CmpImmOp.TheVariants as cmp_imm
use Rattle.asm_syntax.specs.declared.instr.Const.{Const}
use Rattle.asm_syntax.specs.declared.instr.Const.TheVariants.{Int, Lo, Ha, Sda}
use Rattle.json_tree.specs.Reading.{word_of}
use Rattle.json_tree.specs.Arrays.{items, counted, nth, chosen}
use Rattle.dump_reader.specs.Operands.{compared, symbolic, short, constant, high_parts, alu_constant, displacement}
use Rattle.dump_model.specs.Trees.{signed_data}
use Rattle.dump_model.specs.InstructionTree.{const_data}
use Rattle.dump_model.specs.Types.{is_typed_const}
use Rattle.dump_model.proofs.Numbers.{signed16_back, signed32_back, half_back, name_back}

pub compared_back : (op : CmpImmOp) (n : ℤ) → is_compared op n ≡ true → compared op (signed_data n) ≡ Ok n
unfolding compared
compared_back cmp_imm.Cmpwi n h = signed16_back n h
compared_back cmp_imm.Cmplwi n h = half_back n h

short_back : (c : Const) → is_short c ≡ true → short (const_data c) ≡ Ok c
unfolding short
short_back (Int n) h = rw (signed16_back n h) refl
short_back (Lo symbol offset) h = cc
short_back (Ha symbol offset) h = cc
short_back (Sda symbol offset) h = cc

high_back : (c : Const) → is_typed_const c ≡ true → is_high_constant c ≡ true → constant high_parts (const_data c) ≡ Ok c
unfolding constant symbolic short items chosen counted nth word_of
high_back (Int n) t h = rw (signed16_back n h) refl
high_back (Lo symbol offset) t h = cc
high_back (Ha symbol offset) t h = let parts = and_parts _ _ t in rw (name_back symbol parts.0, signed32_back offset parts.1) refl
high_back (Sda symbol offset) t h = cc

pub displacement_back : (c : Const) (a : ℕ) → is_typed_const c ≡ true → is_address_constant c a ≡ true
    → displacement (const_data c) ≡ Ok c
unfolding constant symbolic short items chosen counted nth word_of
displacement_back (Int n) a t h = rw (signed16_back n h) refl
displacement_back (Lo symbol offset) a t h = let parts = and_parts _ _ t in rw (name_back symbol parts.0, signed32_back offset parts.1) refl
displacement_back (Ha symbol offset) a t h = cc
displacement_back (Sda symbol offset) a t h =
    let parts = and_parts _ _ t in rw (name_back symbol parts.0, signed32_back offset parts.1) refl

pub alu_constant_back : (op : AluImmOp) (c : Const) (a : ℕ) → is_typed_const c ≡ true → is_alu_constant op c a ≡ true
    → alu_constant op (const_data c) ≡ Ok c
unfolding alu_constant
alu_constant_back alu_imm.Mulli c a t h = short_back c h
alu_constant_back alu_imm.Subfic c a t h = short_back c h
alu_constant_back alu_imm.Addic c a t h = short_back c h
alu_constant_back alu_imm.Addi c a t h = displacement_back c a t h
alu_constant_back alu_imm.Addis c a t h = high_back c t h
