-- Instructions that are written are read back.
use Rattle.std.proofs.Common.{◌≡◌, ℕ, true, Ok, refl}
use Rattle.std.specs.Prelude.{◌&&◌}
use Rattle.std.proofs.lemmas.Bool.{and_parts}
use Rattle.isa_model.specs.Instructions.{is_register, is_cr_field}
use Rattle.asm_shapes.specs.Operands.{plain_in_range, instr_in_range, is_compared}
use Rattle.asm_shapes.specs.Units.{table_fits}
use Rattle.asm_syntax.specs.declared.instr.Plain.{Plain}
use Rattle.asm_syntax.specs.declared.instr.Plain.TheVariants as Plains
use Rattle.asm_syntax.specs.declared.instr.Jump.{Jump}
use Rattle.asm_syntax.specs.declared.instr.Jump.TheVariants as Jumps
use Rattle.asm_syntax.specs.declared.instr.Instr.{Instr}
use Rattle.asm_syntax.specs.declared.instr.Instr.TheVariants as Instrs
use Rattle.mnemonics.specs.declared.form.Form.TheVariants as Forms
use Rattle.mnemonics.specs.declared.form.JumpForm.TheVariants as JumpForms
use Rattle.mnemonics.specs.declared.form.PseudoForm.TheVariants as PseudoForms
use Rattle.json_tree.specs.Arrays.{items, counted, nth, chosen}
use Rattle.dump_reader.specs.Operands.{register}
use Rattle.dump_reader.specs.Instructions.{instr, operands, alu_imm, log_imm, alu, alu2, log, log2, srawi, rot, load, store, load_x}
use Rattle.dump_reader.specs.Instructions.{store_x, cmp, cmp_imm, cr_bit, move_special, bar, jump, jump_of, pseudo, imm, btbl, mfcr_bit}
use Rattle.dump_reader.specs.Instructions.{two_registers, three_registers, one_number, one_symbol, bit_and_label}
use Rattle.dump_model.specs.Trees.{unsigned_data, array_of}
use Rattle.dump_model.specs.InstructionTree.{plain_items, jump_items, instr_data}
use Rattle.dump_model.specs.Types.{are_registers, is_u32, is_typed_const, is_typed_jump, is_typed_plain, is_typed_instr}
use Rattle.dump_model.proofs.Numbers.{register_back, cr_field_back, unsigned16_back, unsigned32_back, word_back, name_back}
use Rattle.dump_model.proofs.Mnemonics.{mnemonic_back}
use Rattle.dump_model.proofs.Constants.{compared_back, displacement_back, alu_constant_back}
use Rattle.dump_model.proofs.Lists.{labels_back}

two_back : (x y : ℕ) → are_registers x y ≡ true → (register (unsigned_data x) ≡ Ok x) × (register (unsigned_data y) ≡ Ok y)
two_back x y h = let parts = and_parts (is_register x) (is_register y) h in (register_back x parts.0, register_back y parts.1)

three_back : (x y z : ℕ) → (are_registers x y && is_register z) ≡ true
    → (register (unsigned_data x) ≡ Ok x) × (register (unsigned_data y) ≡ Ok y) × (register (unsigned_data z) ≡ Ok z)
three_back x y z h =
    let parts = and_parts (are_registers x y) (is_register z) h in
    let two = two_back x y parts.0 in
    (two.0, two.1, register_back z parts.1)

jump_back : (j : Jump) → is_typed_jump j ≡ true → instr (array_of (jump_items j)) ≡ Ok (jump_of j)
unfolding instr items chosen counted nth operands jump one_number one_symbol
jump_back (Jumps.B label) t = rw (mnemonic_back (Forms.Jump JumpForms.B), unsigned32_back label t) refl
jump_back (Jumps.Bs symbol) t = rw (mnemonic_back (Forms.Jump JumpForms.Bs), name_back symbol t) refl
jump_back (Jumps.Bl symbol) t = rw (mnemonic_back (Forms.Jump JumpForms.Bl), name_back symbol t) refl
jump_back (Jumps.Bdnz label) t = rw (mnemonic_back (Forms.Jump JumpForms.Bdnz), unsigned32_back label t) refl
jump_back Jumps.Blr t = rw (mnemonic_back (Forms.Jump JumpForms.Blr)) refl
jump_back Jumps.Bctr t = rw (mnemonic_back (Forms.Jump JumpForms.Bctr)) refl
jump_back Jumps.Bctrl t = rw (mnemonic_back (Forms.Jump JumpForms.Bctrl)) refl
jump_back Jumps.Trap t = rw (mnemonic_back (Forms.Jump JumpForms.Trap)) refl

plain_back : (p : Plain) → is_typed_plain p ≡ true → plain_in_range p ≡ true
    → instr (array_of (plain_items p)) ≡ Ok (Instrs.Plain p)
unfolding instr items chosen counted nth operands alu_imm log_imm alu alu2 log log2 srawi rot load store load_x store_x cmp cmp_imm cr_bit move_special bar two_registers three_registers
plain_back (Plains.AluImm op d a c) t r =
    let parts = and_parts (are_registers d a) (is_typed_const c) t in
    let two = two_back d a parts.0 in
    rw (mnemonic_back (Forms.AluImm op), two.0, two.1, alu_constant_back op c a parts.1 r) refl
plain_back (Plains.LogImm op a s n) t r =
    let parts = and_parts (are_registers a s) _ t in
    let two = two_back a s parts.0 in
    rw (mnemonic_back (Forms.LogImm op), two.0, two.1, unsigned16_back n parts.1) refl
plain_back (Plains.Alu op d a b) t r = let three = three_back d a b t in rw (mnemonic_back (Forms.Alu op), three.0, three.1, three.2) refl
plain_back (Plains.Alu2 op d a) t r = let two = two_back d a t in rw (mnemonic_back (Forms.Alu2 op), two.0, two.1) refl
plain_back (Plains.Log op a s b) t r = let three = three_back a s b t in rw (mnemonic_back (Forms.Log op), three.0, three.1, three.2) refl
plain_back (Plains.Log2 op a s) t r = let two = two_back a s t in rw (mnemonic_back (Forms.Log2 op), two.0, two.1) refl
plain_back (Plains.Srawi a s n) t r = let two = two_back a s t in rw (mnemonic_back Forms.Srawi, two.0, two.1, register_back n r) refl
plain_back (Plains.Rot op a s sh mb me) t r =
    let two = two_back a s t in
    let three = three_back sh mb me r in
    rw (mnemonic_back (Forms.Rot op), two.0, two.1, three.0, three.1, three.2) refl
plain_back (Plains.Load op d c a) t r =
    let parts = and_parts (are_registers d a) (is_typed_const c) t in
    let two = two_back d a parts.0 in
    rw (mnemonic_back (Forms.Load op), two.0, displacement_back c a parts.1 r, two.1) refl
plain_back (Plains.LoadX op d a b) t r =
    let three = three_back d a b t in rw (mnemonic_back (Forms.LoadX op), three.0, three.1, three.2) refl
plain_back (Plains.Store op s c a) t r =
    let parts = and_parts (are_registers s a) (is_typed_const c) t in
    let two = two_back s a parts.0 in
    rw (mnemonic_back (Forms.Store op), two.0, displacement_back c a parts.1 r, two.1) refl
plain_back (Plains.StoreX op s a b) t r =
    let three = three_back s a b t in rw (mnemonic_back (Forms.StoreX op), three.0, three.1, three.2) refl
plain_back (Plains.Cmp op f a b) t r = let two = two_back a b t in rw (mnemonic_back (Forms.Cmp op), cr_field_back f r, two.0, two.1) refl
plain_back (Plains.CmpImm op f a n) t r =
    let parts = and_parts (is_cr_field f) (is_compared op n) r in
    rw (mnemonic_back (Forms.CmpImm op), cr_field_back f parts.0, register_back a t, compared_back op n parts.1) refl
plain_back (Plains.CrBit op x a b) t r =
    let three = three_back x a b r in rw (mnemonic_back (Forms.CrBit op), three.0, three.1, three.2) refl
plain_back (Plains.Move op x) t r = rw (mnemonic_back (Forms.Move op), register_back x t) refl
plain_back (Plains.Bar op) t r = rw (mnemonic_back (Forms.Bar op)) refl
plain_back (Plains.Jump j) t r = jump_back j t

pub instr_back : (i : Instr) → is_typed_instr i ≡ true → instr_in_range i ≡ true → table_fits i ≡ true
    → instr (instr_data i) ≡ Ok i
unfolding instr items chosen counted nth operands pseudo imm btbl mfcr_bit one_number bit_and_label
instr_back (Instrs.Plain plain) t r f = plain_back plain t r
instr_back (Instrs.AllocFrame n) t r f = rw (mnemonic_back (Forms.Pseudo PseudoForms.AllocFrame), unsigned32_back n t) refl
instr_back (Instrs.FreeFrame n) t r f = rw (mnemonic_back (Forms.Pseudo PseudoForms.FreeFrame), unsigned32_back n t) refl
instr_back (Instrs.Imm x n) t r f =
    let parts = and_parts (is_register x) (is_u32 n) t in
    rw (mnemonic_back (Forms.Pseudo PseudoForms.Imm), register_back x parts.0, word_back n parts.1) refl
instr_back (Instrs.Bt bit label) t r f = rw (mnemonic_back (Forms.Pseudo PseudoForms.Bt), register_back bit r, unsigned32_back label t) refl
instr_back (Instrs.Bf bit label) t r f = rw (mnemonic_back (Forms.Pseudo PseudoForms.Bf), register_back bit r, unsigned32_back label t) refl
instr_back (Instrs.Btbl x labels) t r f =
    let parts = and_parts (is_register x) _ t in
    rw (mnemonic_back (Forms.Pseudo PseudoForms.Btbl), register_back x parts.0, labels_back labels f parts.1) refl
instr_back (Instrs.MfcrBit x bit) t r f = rw (mnemonic_back (Forms.Pseudo PseudoForms.MfcrBit), register_back x t, register_back bit r) refl
instr_back (Instrs.Label label) t r f = rw (mnemonic_back (Forms.Pseudo PseudoForms.Label), unsigned32_back label t) refl
instr_back Instrs.Cfi t r f = rw (mnemonic_back (Forms.Pseudo PseudoForms.Cfi)) refl
instr_back Instrs.Annot t r f = rw (mnemonic_back (Forms.Pseudo PseudoForms.Annot)) refl
