-- The causes for which the operands of instructions are not read.
use Rattle.std.proofs.Common.{ℕ, pos, negsuc, List, Option, Some, None, Result, Ok, Err, refl}
use Rattle.serde_json.specs.Data.{Data}
use Rattle.hex.specs.Hex.{decode_of}
use Rattle.hex.specs.declared.error.FromHexError.{FromHexError}
use Rattle.json_tree.specs.declared.fault.Cause.TheVariants.{Missing, WrongKind, OutOfRange, UnknownWord, Version, Shape, Refused}
use Rattle.json_tree.specs.declared.fault.Cause.TheVariants.{RangeOrder, Unaligned, Limit}
use Rattle.json_tree.specs.declared.fault.Fault.{Fault}
use Rattle.json_tree.specs.Causes.{FailsBy}
use Rattle.json_tree.specs.Reading.{text, name, word_of}
use Rattle.json_tree.specs.Arrays.{items, counted, nth, chosen}
use Rattle.json_tree.specs.Numbers.{unsigned32, signed32}
use Rattle.json_tree.proofs.Causes.{AllowsShared, after, behind, choice, at_item, of_text, of_name, of_word, of_items, of_counted}
use Rattle.json_tree.proofs.Causes.{of_chosen, of_ranged, of_natural, of_unsigned32, of_signed32}
use Rattle.asm_syntax.specs.declared.operations.AluImmOp.{AluImmOp}
use Rattle.asm_syntax.specs.declared.operations.AluImmOp.TheVariants.{Mulli, Subfic, Addic, Addi, Addis}
use Rattle.asm_syntax.specs.declared.operations.CmpImmOp.{CmpImmOp}
use Rattle.asm_syntax.specs.declared.operations.CmpImmOp.TheVariants.{Cmpwi, Cmplwi}
use Rattle.dump_reader.specs.declared.constant.Part.{Part}
use Rattle.dump_reader.specs.Causes.{is_dump_cause}
use Rattle.dump_reader.specs.Words.{if_allowed, allowed_word}
use Rattle.dump_reader.specs.Digits.{if_decoded, digits}
use Rattle.dump_reader.specs.Operands.{register, bit_number, cr_field, signed16, compared, low_parts, high_parts, symbolic, short}
use Rattle.dump_reader.specs.Operands.{is_array, constant, alu_constant, displacement}
use Rattle.dump_reader.specs.Instructions.{two_registers, three_registers, one_number, one_symbol, bit_and_label}

abbrev pub Fails : {T : Type 0} → Result T Fault → Type 0
Fails r = FailsBy is_dump_cause r

pub shared : AllowsShared is_dump_cause
shared Missing h = h
shared WrongKind h = h
shared OutOfRange h = h
shared UnknownWord h = h
shared Version h = h
shared (Shape shape) h = refl
shared Refused h = refl
shared RangeOrder h = h
shared Unaligned h = h
shared (Limit most) h = h

-- ---- words and operands

of_meaning : {T : Type 0} (meaning : Option T) → Fails (if_allowed meaning)
of_meaning None = refl
of_meaning (Some x) = tt

pub of_allowed : {T : Type 0} (table : List (List ℕ × Option T)) (d : Data) → Fails (allowed_word table d)
unfolding allowed_word
of_allowed table d = after _ (word_of table d) _ (of_word _ shared table d) λ meaning. of_meaning meaning

of_decoded : (r : Result (List ℕ) FromHexError) → Fails (if_decoded r)
of_decoded (Ok bytes) = tt
of_decoded (Err e) = refl

pub of_digits : (d : Data) → Fails (digits d)
unfolding digits
of_digits d = after _ (text d) _ (of_text _ shared d) λ s. of_decoded (decode_of s)

pub of_register : (d : Data) → Fails (register d)
of_register d = of_natural _ shared 31 d

pub of_cr_field : (d : Data) → Fails (cr_field d)
of_cr_field d = of_natural _ shared 7 d

pub of_compared : (op : CmpImmOp) (d : Data) → Fails (compared op d)
unfolding compared
of_compared Cmpwi d = of_ranged _ shared (negsuc 32767) (pos 32767) d
of_compared Cmplwi d = of_ranged _ shared (pos 0) (pos 65535) d

of_symbolic : (taken : List (List ℕ × Part)) (d : Data) → Fails (symbolic taken d)
unfolding symbolic
of_symbolic taken d =
    after _ (items d) _ (of_items _ shared d) λ ds.
    after _ (chosen (word_of taken) ds) _ (of_chosen _ shared (word_of taken) ds (of_word _ shared taken)) λ part.
    behind _ (counted 3 ds) _ (of_counted _ shared 3 ds)
    (after _ (nth 1 name ds) _ (at_item _ 1 name ds (of_name _ shared)) λ symbol.
    after _ (nth 2 signed32 ds) _ (at_item _ 2 signed32 ds (of_signed32 _ shared)) λ offset. tt)

of_short : (d : Data) → Fails (short d)
unfolding short
of_short d = after _ (signed16 d) _ (of_ranged _ shared (negsuc 32767) (pos 32767) d) λ n. tt

of_constant : (taken : List (List ℕ × Part)) (d : Data) → Fails (constant taken d)
unfolding constant
of_constant taken d = choice _ (is_array d) _ _ (of_symbolic taken d) (of_short d)

pub of_alu_constant : (op : AluImmOp) (d : Data) → Fails (alu_constant op d)
unfolding alu_constant
of_alu_constant Mulli d = of_short d
of_alu_constant Subfic d = of_short d
of_alu_constant Addic d = of_short d
of_alu_constant Addi d = of_constant low_parts d
of_alu_constant Addis d = of_constant high_parts d

pub of_displacement : (d : Data) → Fails (displacement d)
of_displacement d = of_constant low_parts d

-- ---- operands of several classes

pub of_two_registers : (ds : List Data) → Fails (two_registers ds)
unfolding two_registers
of_two_registers ds =
    behind _ (counted 3 ds) _ (of_counted _ shared 3 ds)
    (after _ (nth 1 register ds) _ (at_item _ 1 register ds of_register) λ _.
    after _ (nth 2 register ds) _ (at_item _ 2 register ds of_register) λ _. tt)

pub of_three_registers : (ds : List Data) → Fails (three_registers ds)
unfolding three_registers
of_three_registers ds =
    behind _ (counted 4 ds) _ (of_counted _ shared 4 ds)
    (after _ (nth 1 register ds) _ (at_item _ 1 register ds of_register) λ _.
    after _ (nth 2 register ds) _ (at_item _ 2 register ds of_register) λ _.
    after _ (nth 3 register ds) _ (at_item _ 3 register ds of_register) λ _. tt)

pub of_one_number : (ds : List Data) → Fails (one_number ds)
unfolding one_number
of_one_number ds = behind _ (counted 2 ds) _ (of_counted _ shared 2 ds) (at_item _ 1 unsigned32 ds (of_unsigned32 _ shared))

pub of_one_symbol : (ds : List Data) → Fails (one_symbol ds)
unfolding one_symbol
of_one_symbol ds = behind _ (counted 2 ds) _ (of_counted _ shared 2 ds) (at_item _ 1 name ds (of_name _ shared))

pub of_bit_and_label : (ds : List Data) → Fails (bit_and_label ds)
unfolding bit_and_label
of_bit_and_label ds =
    behind _ (counted 3 ds) _ (of_counted _ shared 3 ds)
    (after _ (nth 1 bit_number ds) _ (at_item _ 1 bit_number ds of_register) λ _.
    after _ (nth 2 unsigned32 ds) _ (at_item _ 2 unsigned32 ds (of_unsigned32 _ shared)) λ _. tt)
