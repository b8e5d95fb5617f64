-- Where operands are in their ranges, each form of an instruction's words is an instruction.
use Rattle.std.proofs.Common.{◌≡◌, ℕ, ◌+◌, ◌-◌, ◌/◌, ◌%◌, ◌^◌, ◌<◌, ◌≤◌, ℤ, Bool, true, false, ◌&&◌, List, refl, subst, arith}
use Rattle.std.proofs.Common.{if◌then◌else◌}
use Rattle.std.specs.Prelude.{pos, negsuc, nat_lt, nat_le, ◌==◌}
use Rattle.std.proofs.lemmas.Bool.{and_parts, and_from, lt-ltb, leb-true}
use Rattle.std.proofs.lemmas.Bool.Decides.{nat_tests}
use Rattle.std.proofs.lemmas.Int.{ints}
use Rattle.isa_model.specs.Word.{wrapped, hi, lo, ha, signed_word}
use Rattle.isa_model.specs.Forms.{signed, displacement_in, displacement_between}
use Rattle.isa_model.specs.Operands.{is_register, is_bit_number, is_cr_field, is_s16, is_u16, is_displacement}
use Rattle.ordered_tests.specs.Lists.{EachOf}
use Rattle.ppc_decode.specs.declared.machine.Machine.{Machine}
use Rattle.ppc_decode.specs.declared.machine.Machine.TheVariants as machine
use Rattle.ppc_decode.specs.Word.{fits}
use Rattle.asm_syntax.specs.declared.operations.AluImmOp.{AluImmOp}
use Rattle.asm_syntax.specs.declared.operations.AluImmOp.TheVariants.{Addi, Addis}
use Rattle.asm_syntax.specs.declared.operations.CmpImmOp.{CmpImmOp}
use Rattle.asm_syntax.specs.declared.operations.CmpImmOp.TheVariants.{Cmpwi, Cmplwi}
use Rattle.asm_syntax.specs.declared.instr.Const.{Const}
use Rattle.asm_syntax.specs.declared.instr.Const.TheVariants as consts
use Rattle.asm_syntax.specs.declared.instr.Jump.{Jump}
use Rattle.asm_syntax.specs.declared.instr.Jump.TheVariants as jumps
use Rattle.asm_syntax.specs.declared.instr.Plain.{Plain}
use Rattle.asm_syntax.specs.declared.instr.Plain.TheVariants as plains
use Rattle.asm_syntax.specs.declared.instr.Instr.{Instr}
use Rattle.asm_syntax.specs.declared.instr.Instr.TheVariants as instrs
use Rattle.asm_syntax.specs.Places.{alu_imm_place, load_place, store_place}
use Rattle.asm_shapes.specs.Operands.{is_alu_constant, is_address_constant, is_compared, plain_in_range, instr_in_range}
use Rattle.code_model.specs.Fields.{base_field, short, half_field, address_plus}
use Rattle.code_model.specs.Forms.{Form, near, far, free, constant_form, jump_form, plain_form, addi, addis, ori, lwz, two_halves}
use Rattle.code_model.specs.Forms.{word_forms, negated, alloc_forms, is_addi, free_forms, is_bc, branch_forms, table_forms, bit_forms}
use Rattle.code_model.specs.Forms.{forms}
use Rattle.link_laws.specs.Operands.{plain_is_typed, instr_is_typed, HasWords}
use Rattle.link_laws.proofs.Places.{alu_imm_placed, log_imm_placed, alu_placed, alu2_placed, log_placed, log2_placed, rot_placed}
use Rattle.link_laws.proofs.Places.{load_placed, store_placed, load_x_placed, store_x_placed, cmp_placed, cr_bit_placed, move_placed}
use Rattle.link_laws.proofs.Places.{bar_placed}

-- ---- fields

base_fits : (w : ℕ) → is_register (base_field w) ≡ true
base_fits w = lt-ltb (w / 2 ^ 16 % 32) 32 (omega arith)

short_fits : (h : ℕ) → h < 65536 → is_s16 (short h) ≡ true
short_fits h lt = at (nat_lt h (2 ^ 15)) refl
  where
    at : (b : Bool) → nat_lt h (2 ^ 15) ≡ b → is_s16 (if b then pos h else negsuc (2 ^ 16 - 1 - h)) ≡ true
    at true e = grind (arith, nat_tests, ints)
    at false e = grind (arith, nat_tests, ints)

half_fits : (w : ℕ) → is_s16 (half_field w) ≡ true
half_fits w = short_fits (lo w) (omega arith)

near_fits : (x : ℕ) → x < 65536 → x % 4 ≡ 0 → is_displacement 16 (signed 16 x) ≡ true
near_fits x lt e = at (nat_lt x (2 ^ 15)) refl
  where
    at : (b : Bool) → nat_lt x (2 ^ 15) ≡ b → is_displacement 16 (if b then pos x else negsuc (2 ^ 16 - 1 - x)) ≡ true
    at true q = grind (arith, nat_tests, ints)
    at false q = grind (arith, nat_tests, ints)

far_fits : (x : ℕ) → x < 67108864 → x % 4 ≡ 0 → is_displacement 26 (signed 26 x) ≡ true
far_fits x lt e = at (nat_lt x (2 ^ 25)) refl
  where
    at : (b : Bool) → nat_lt x (2 ^ 25) ≡ b → is_displacement 26 (if b then pos x else negsuc (2 ^ 26 - 1 - x)) ≡ true
    at true q = grind (arith, nat_tests, ints)
    at false q = grind (arith, nat_tests, ints)

near_in : (w : ℕ) → is_displacement 16 (displacement_in 16 w) ≡ true
near_in w = near_fits (w % 2 ^ 16 - w % 4) (omega arith) (omega arith)

far_in : (w : ℕ) → is_displacement 26 (displacement_in 26 w) ≡ true
far_in w = far_fits (w % 2 ^ 26 - w % 4) (omega arith) (omega arith)

-- ---- tests of several parts

three : (a b c : Bool) → a ≡ true → b ≡ true → c ≡ true → (a && b && c) ≡ true
three a b c p q r = and_from (a && b) c (and_from a b p q) r

four : (a b c d : Bool) → a ≡ true → b ≡ true → c ≡ true → d ≡ true → (a && b && c && d) ≡ true
four a b c d p q r s = and_from (a && b && c) d (three a b c p q r) s

parts_3 : (a b c : Bool) → (a && b && c) ≡ true → (a ≡ true) × (b ≡ true) × (c ≡ true)
parts_3 a b c h = let x = and_parts (a && b) c h in let y = and_parts a b x.0 in (y.0, y.1, x.1)

-- ---- forms

-- of a closed form, which is the same instruction in both
both : {b : Bool} → b ≡ true → (at w : ℕ) → (b ≡ true) × (b ≡ true)
both h at w = (h, h)

near_words : (t bo bi : ℕ) → fits (machine.Bc bo bi (pos 0)) ≡ true → HasWords (near t (machine.Bc bo bi))
unfolding displacement_between
near_words t bo bi h at w =
    let way = t + (2 ^ 32 - at % 2 ^ 32) in (with (displacement_in 16 w) (near_in w), with (displacement_in 16 way) (near_in way))
  where
    with : (n : ℤ) → is_displacement 16 n ≡ true → fits (machine.Bc bo bi n) ≡ true
    with n e = and_from _ (is_displacement 16 n) (and_parts _ (is_displacement 16 (pos 0)) h).0 e

far_words : (t : ℕ) (made : ℤ → Machine) → ((n : ℤ) → is_displacement 26 n ≡ true → fits (made n) ≡ true) → HasWords (far t made)
unfolding displacement_between
far_words t made h at w =
    let way = t + (2 ^ 32 - at % 2 ^ 32) in (h (displacement_in 26 w) (far_in w), h (displacement_in 26 way) (far_in way))

free_words : (made : ℤ → Machine) → ((n : ℤ) → is_s16 n ≡ true → fits (made n) ≡ true) → HasWords (free made)
free_words made h at w = (h (half_field w) (half_fits w), h (pos 0) refl)

abbrev TakesConstants : (ℕ → ℤ → Machine) → Type 0
TakesConstants made = (r : ℕ) (n : ℤ) → is_register r ≡ true → is_s16 n ≡ true → fits (made r n) ≡ true

constant_words : (t a : ℕ) (c : Const) (made : ℕ → ℤ → Machine) → TakesConstants made → is_register a ≡ true →
    ((n : ℤ) → c ≡ consts.Int n → is_s16 n ≡ true) → HasWords (constant_form t a c made)
constant_words t a (consts.Int n) made h r k at w = both (h a n r (k n refl)) at w
constant_words t a (consts.Lo name o) made h r k at w =
    (h a (half_field w) r (half_fits w), h a (short (lo (address_plus t o))) r (short_fits (lo (address_plus t o)) (omega arith)))
constant_words t a (consts.Ha name o) made h r k at w =
    (h a (half_field w) r (half_fits w), h a (short (ha (address_plus t o))) r (short_fits (ha (address_plus t o)) (omega arith)))
constant_words t a (consts.Sda name o) made h r k at w =
    (h (base_field w) (half_field w) (base_fits w) (half_fits w), h 0 (pos 0) refl refl)

jump_words : (t : ℕ) (jump : Jump) → HasWords (jump_form t jump)
jump_words t (jumps.B label) = far_words t machine.B (λ n e. e)
jump_words t (jumps.Bs name) = far_words t machine.B (λ n e. e)
jump_words t (jumps.Bl name) = far_words t machine.Bl (λ n e. e)
jump_words t (jumps.Bdnz label) = near_words t 16 0 refl
jump_words t jumps.Blr = both refl
jump_words t jumps.Bctr = both refl
jump_words t jumps.Bctrl = both refl
jump_words t jumps.Trap = both refl

-- ---- instructions of one word

alu_int : (op : AluImmOp) (n : ℤ) (a : ℕ) → is_alu_constant op (consts.Int n) a ≡ true → is_s16 n ≡ true
alu_int Addi n a h = h
alu_int Addis n a h = h
alu_int _ n a h = h

compared_words : (op : CmpImmOp) (f a : ℕ) (n : ℤ) → is_cr_field f ≡ true → is_register a ≡ true → is_compared op n ≡ true →
    HasWords (plain_form 0 (plains.CmpImm op f a n))
compared_words Cmpwi f a n p q r = both (four true (is_cr_field f) (is_register a) (is_s16 n) refl p q r)
compared_words Cmplwi f a n p q r = both (four true (is_cr_field f) (is_register a) (is_u16 n) refl p q r)

u16_fits : (n : ℕ) → nat_lt n 65536 ≡ true → is_u16 (pos n) ≡ true
u16_fits n h = grind (arith, nat_tests, ints)

plain_words : (t : ℕ) (plain : Plain) → plain_is_typed plain ≡ true → plain_in_range plain ≡ true → HasWords (plain_form t plain)
plain_words t (plains.AluImm op d a c) h r =
    let p = and_parts (is_register d) (is_register a) h in
    constant_words t a c (λ r n. machine.AluImm (alu_imm_place op) d r n)
    (λ b n q s. four _ (is_register d) (is_register b) (is_s16 n) (alu_imm_placed op) p.0 q s) p.1
    (λ n e. alu_int op n a (subst (λ z. is_alu_constant op z a ≡ true) e r))
plain_words t (plains.LogImm op a s n) h r =
    let p = parts_3 (is_register a) (is_register s) (nat_lt n 65536) h in
    both (four _ (is_register a) (is_register s) (is_u16 (pos n)) (log_imm_placed op) p.0 p.1 (u16_fits n p.2))
plain_words t (plains.Alu op d a b) h r =
    let p = parts_3 (is_register d) (is_register a) (is_register b) h in
    both (four _ (is_register d) (is_register a) (is_register b) (alu_placed op) p.0 p.1 p.2)
plain_words t (plains.Alu2 op d a) h r =
    let p = and_parts (is_register d) (is_register a) h in
    both (three _ (is_register d) (is_register a) (alu2_placed op) p.0 p.1)
plain_words t (plains.Log op a s b) h r =
    let p = parts_3 (is_register a) (is_register s) (is_register b) h in
    both (four _ (is_register a) (is_register s) (is_register b) (log_placed op) p.0 p.1 p.2)
plain_words t (plains.Log2 op a s) h r =
    let p = and_parts (is_register a) (is_register s) h in
    both (three _ (is_register a) (is_register s) (log2_placed op) p.0 p.1)
plain_words t (plains.Srawi a s n) h r =
    let p = and_parts (is_register a) (is_register s) h in
    both (three (is_register a) (is_register s) (is_bit_number n) p.0 p.1 r)
plain_words t (plains.Rot op a s sh mb me) h r =
    let p = and_parts (is_register a) (is_register s) h in
    let q = parts_3 (is_bit_number sh) (is_bit_number mb) (is_bit_number me) r in
    let first = three _ (is_register a) (is_register s) (rot_placed op) p.0 p.1 in
    both (four _ (is_bit_number sh) (is_bit_number mb) (is_bit_number me) first q.0 q.1 q.2)
plain_words t (plains.Load op d c a) h r =
    let p = and_parts (is_register d) (is_register a) h in
    constant_words t a c (λ r n. machine.Load (load_place op) d n r)
    (λ b n q s. four _ (is_register d) (is_s16 n) (is_register b) (load_placed op) p.0 s q) p.1
    (λ n e. subst (λ z. is_address_constant z a ≡ true) e r)
plain_words t (plains.LoadX op d a b) h r =
    let p = parts_3 (is_register d) (is_register a) (is_register b) h in
    both (four _ (is_register d) (is_register a) (is_register b) (load_x_placed op) p.0 p.1 p.2)
plain_words t (plains.Store op s c a) h r =
    let p = and_parts (is_register s) (is_register a) h in
    constant_words t a c (λ r n. machine.Store (store_place op) s n r)
    (λ b n q k. four _ (is_register s) (is_s16 n) (is_register b) (store_placed op) p.0 k q) p.1
    (λ n e. subst (λ z. is_address_constant z a ≡ true) e r)
plain_words t (plains.StoreX op s a b) h r =
    let p = parts_3 (is_register s) (is_register a) (is_register b) h in
    both (four _ (is_register s) (is_register a) (is_register b) (store_x_placed op) p.0 p.1 p.2)
plain_words t (plains.Cmp op f a b) h r =
    let p = and_parts (is_register a) (is_register b) h in
    both (four _ (is_cr_field f) (is_register a) (is_register b) (cmp_placed op) r p.0 p.1)
plain_words t (plains.CmpImm op f a n) h r =
    let q = and_parts (is_cr_field f) (is_compared op n) r in compared_words op f a n q.0 h q.1
plain_words t (plains.CrBit op x a b) h r =
    let q = parts_3 (is_bit_number x) (is_bit_number a) (is_bit_number b) r in
    both (four _ (is_bit_number x) (is_bit_number a) (is_bit_number b) (cr_bit_placed op) q.0 q.1 q.2)
plain_words t (plains.Move op r) h k = both (and_from _ (is_register r) (move_placed op) h)
plain_words t (plains.Bar op) h r = both (bar_placed op)
plain_words t (plains.Jump jump) h r = jump_words t jump

-- ---- the others

either : (b : Bool) (xs ys : List Form) → (b ≡ true → EachOf HasWords xs) → (b ≡ false → EachOf HasWords ys) →
    EachOf HasWords (if b then xs else ys)
either true xs ys h k = h refl
either false xs ys h k = k refl

addi_fits : (d a : ℕ) (n : ℤ) → is_register d ≡ true → is_register a ≡ true → is_s16 n ≡ true → fits (addi d a n) ≡ true
addi_fits d a n p q r = four true (is_register d) (is_register a) (is_s16 n) refl p q r

addis_fits : (d a : ℕ) (n : ℤ) → is_register d ≡ true → is_register a ≡ true → is_s16 n ≡ true → fits (addis d a n) ≡ true
addis_fits d a n p q r = four true (is_register d) (is_register a) (is_s16 n) refl p q r

ori_fits : (a s n : ℕ) → is_register a ≡ true → is_register s ≡ true → n < 65536 → fits (ori a s n) ≡ true
ori_fits a s n p q lt =
    four true (is_register a) (is_register s) (is_u16 (pos n)) refl p q (u16_fits n (lt-ltb n 65536 lt))

half_words : (r n : ℕ) → is_register r ≡ true → n < 2 ^ 32 → EachOf HasWords (two_halves r n)
half_words r n p lt = (
  both (addis_fits r 0 (short (hi n)) p refl (short_fits (hi n) (omega arith))),
  (both (ori_fits r r (lo n) p p (omega arith)), tt),
)

imm_words : (r n : ℕ) → is_register r ≡ true → n < 2 ^ 32 → EachOf HasWords (word_forms r n)
imm_words r n p lt =
    either (is_s16 (signed_word n)) _ _ (λ s. (both (addi_fits r 0 (signed_word n) p refl s), tt))
    (λ s. either (lo n == 0) _ _ (λ z. (both (addis_fits r 0 (short (hi n)) p refl (short_fits (hi n) (omega arith))), tt))
    (λ z. half_words r n p lt))

small_s16 : (n : ℕ) → n ≤ 32767 → is_s16 (pos n) ≡ true
small_s16 n le = grind (arith, nat_tests, ints)

alloc_words : (n : ℕ) → EachOf HasWords (alloc_forms n)
alloc_words n = either (nat_le n 32768) _ _
    (λ s. (both (three true (is_s16 (short (lo (negated n)))) true refl (short_fits (lo (negated n)) (omega arith)) refl), tt))
    (λ s. (
      both (addis_fits 12 0 (short (hi (negated n))) refl refl (short_fits (hi (negated n)) (grind (arith, nat_tests)))),
      (both (ori_fits 12 12 (lo (negated n)) refl refl (omega arith)), (both refl, tt)),
    ))

free_frame_words : (n w : ℕ) → EachOf HasWords (free_forms n w)
free_frame_words n w = either (is_addi w && nat_le n 32767) _ _
    (λ s. (
      both (addi_fits 1 1 (pos n) refl refl
          (small_s16 n (leb-true n 32767 (and_parts (is_addi w) (nat_le n 32767) s).1))),
      tt,
    ))
    (λ s. (both refl, tt))

branch_words : (taken other bit t w : ℕ) → fits (machine.Bc taken bit (pos 0)) ≡ true → fits (machine.Bc other bit (pos 8)) ≡ true →
    EachOf HasWords (branch_forms taken other bit t w)
branch_words taken other bit t w p q = either (is_bc other w) _ _
    (λ s. (both q, (far_words t machine.B (λ n e. e), tt)))
    (λ s. (near_words t taken bit p, tt))

table_words : (r : ℕ) → is_register r ≡ true → EachOf HasWords (table_forms r)
table_words r p = (
  both (and_from _ true (and_from _ true (and_from _ true (and_from true (is_register r) refl p) refl) refl) refl),
  (
    free_words (addis 12 12) (λ n e. addis_fits 12 12 n refl refl e),
    (
      free_words (λ n. lwz 12 n 12) (λ n e. four true true (is_s16 n) true refl refl e refl),
      (both refl, (both refl, tt)),
    ),
  ),
)

bit_words : (r bit : ℕ) → is_register r ≡ true → EachOf HasWords (bit_forms r bit)
bit_words r bit p = (
  both p,
  (
    both (four (is_register r && is_register r) (is_bit_number ((bit + 1) % 32)) true true
        (and_from (is_register r) (is_register r) p p) (lt-ltb ((bit + 1) % 32) 32 (omega arith)) refl refl),
    tt,
  ),
)

pub wanted_words : (t w : ℕ) (x : Instr) → instr_is_typed x ≡ true → instr_in_range x ≡ true → EachOf HasWords (forms t x w)
unfolding forms
wanted_words t w (instrs.Plain plain) h r = (plain_words t plain h r, tt)
wanted_words t w (instrs.AllocFrame n) h r = alloc_words n
wanted_words t w (instrs.FreeFrame n) h r = free_frame_words n w
wanted_words t w (instrs.Imm d n) h r = imm_words d (wrapped n) h (omega arith)
wanted_words t w (instrs.Bt bit label) h r =
    branch_words 12 4 bit t w (and_from (is_bit_number bit) true r refl) (and_from (is_bit_number bit) true r refl)
wanted_words t w (instrs.Bf bit label) h r =
    branch_words 4 12 bit t w (and_from (is_bit_number bit) true r refl) (and_from (is_bit_number bit) true r refl)
wanted_words t w (instrs.Btbl d labels) h r = table_words d h
wanted_words t w (instrs.MfcrBit d bit) h r = bit_words d bit h
wanted_words t w (instrs.Label label) h r = tt
wanted_words t w instrs.Cfi h r = tt
wanted_words t w instrs.Annot h r = tt
