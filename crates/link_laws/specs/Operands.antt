-- What the types of an instruction's operands keep, and that the words which a fault shows are words.
use Rattle.std.specs.Prelude.{◌≡◌, ℕ, Bool, true, ◌&&◌, nat_lt}
use Rattle.isa_model.specs.Operands.{is_register}
use Rattle.ordered_tests.specs.Lists.{EachOf}
use Rattle.ppc_decode.specs.Word.{fits}
use Rattle.asm_syntax.specs.declared.instr.Plain.{Plain}
use Rattle.asm_syntax.specs.declared.instr.Plain.TheVariants as plains
use Rattle.asm_syntax.specs.declared.instr.Instr.{Instr}
use Rattle.asm_syntax.specs.declared.instr.Instr.TheVariants as instrs
use Rattle.asm_shapes.specs.Operands.{instr_in_range}
use Rattle.code_model.specs.Forms.{Form, forms}
use Rattle.code_model.specs.Spelling.{found_instruction}
use Rattle.code_model.specs.WordChecks.{right_instruction}

-- registers are those that there are, and an immediate of ori and its kind has 16 bits
abbrev pub plain_is_typed : Plain → Bool
plain_is_typed (plains.AluImm op d a c) = is_register d && is_register a
plain_is_typed (plains.LogImm op a s n) = is_register a && is_register s && nat_lt n 65536
plain_is_typed (plains.Alu op d a b) = is_register d && is_register a && is_register b
plain_is_typed (plains.Alu2 op d a) = is_register d && is_register a
plain_is_typed (plains.Log op a s b) = is_register a && is_register s && is_register b
plain_is_typed (plains.Log2 op a s) = is_register a && is_register s
plain_is_typed (plains.Srawi a s n) = is_register a && is_register s
plain_is_typed (plains.Rot op a s sh mb me) = is_register a && is_register s
plain_is_typed (plains.Load op d c a) = is_register d && is_register a
plain_is_typed (plains.LoadX op d a b) = is_register d && is_register a && is_register b
plain_is_typed (plains.Store op s c a) = is_register s && is_register a
plain_is_typed (plains.StoreX op s a b) = is_register s && is_register a && is_register b
plain_is_typed (plains.Cmp op f a b) = is_register a && is_register b
plain_is_typed (plains.CmpImm op f a n) = is_register a
plain_is_typed (plains.Move op r) = is_register r
plain_is_typed _ = true

abbrev pub instr_is_typed : Instr → Bool
instr_is_typed (instrs.Plain plain) = plain_is_typed plain
instr_is_typed (instrs.Imm r n) = is_register r
instr_is_typed (instrs.Btbl r labels) = is_register r
instr_is_typed (instrs.MfcrBit r bit) = is_register r
instr_is_typed _ = true

-- whatever stands in the gap, and with what belongs there, a form is an instruction
abbrev pub HasWords : Form → Type 0
HasWords form = (at w : ℕ) → (fits (found_instruction form w) ≡ true) × (fits (right_instruction at form) ≡ true)

-- where operands are in their ranges, the word that a fault wants is that of an instruction
abbrev pub WantedWordsAreWords : Type 0
WantedWordsAreWords = (t w : ℕ) (x : Instr) → instr_is_typed x ≡ true → instr_in_range x ≡ true → EachOf HasWords (forms t x w)
