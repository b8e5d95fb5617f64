-- The operands of instructions.
use Rattle.std.specs.Prelude.{ℕ, ℤ, pos, negsuc, Bool, List, [], ◌∷◌, length, is_some, Result, Ok, codes, ◌==◌, if◌then◌else◌}
use Rattle.serde_json.specs.Data.{Data}
use Rattle.serde_json.specs.Find.{as_array}
use Rattle.asm_syntax.specs.declared.instr.Const.{Const}
use Rattle.asm_syntax.specs.declared.instr.Const.TheVariants.{Int, Lo, Ha, Sda}
use Rattle.asm_syntax.specs.declared.operations.AluImmOp.{AluImmOp}
use Rattle.asm_syntax.specs.declared.operations.AluImmOp.TheVariants.{Addi, Addis}
use Rattle.asm_syntax.specs.declared.operations.CmpImmOp.{CmpImmOp}
use Rattle.asm_syntax.specs.declared.operations.CmpImmOp.TheVariants.{Cmpwi, Cmplwi}
use Rattle.limits.specs.declared.TheConstants.{MOST_LABELS}
use Rattle.json_tree.specs.declared.fault.Cause.TheVariants.{OutOfRange}
use Rattle.json_tree.specs.declared.fault.Fault.{Fault}
use Rattle.json_tree.specs.Reading.{◌>>=◌, ◌>>◌, fail, name, word_of}
use Rattle.json_tree.specs.Arrays.{items, list, counted, nth, chosen}
use Rattle.json_tree.specs.Numbers.{natural, ranged, signed32, unsigned32}
use Rattle.dump_reader.specs.declared.constant.Part.{Part}
use Rattle.dump_reader.specs.declared.constant.Part.TheVariants as parts

-- ---- numbers

abbrev pub register : Data → Result ℕ Fault
register = natural 31

-- a bit of the condition register, or of a word
abbrev pub bit_number : Data → Result ℕ Fault
bit_number = natural 31

-- a field of the condition register
abbrev pub cr_field : Data → Result ℕ Fault
cr_field = natural 7

abbrev pub signed16 : Data → Result ℤ Fault
signed16 = ranged (negsuc 32767) (pos 32767)

-- cmpwi compares with a signed number, cmplwi with an unsigned one
unfoldable pub compared : CmpImmOp → Data → Result ℤ Fault
compared Cmpwi d = signed16 d
compared Cmplwi d = ranged (pos 0) (pos 65535) d

-- ---- labels

-- the list of a table: at least one label
unfoldable pub labels : Data → Result (List ℕ) Fault
labels d = do
  ds ← items d
  if length ds == 0 then fail OutOfRange else list MOST_LABELS unsigned32 d

-- ---- constants, of which some may be a part of a symbol's address

-- the low half and the displacement from a small-data base
abbrev pub low_parts : List (List ℕ × Part)
low_parts = (codes "lo", parts.Lo) ∷ (codes "sda", parts.Sda) ∷ []

-- the high half, adjusted
abbrev pub high_parts : List (List ℕ × Part)
high_parts = (codes "ha", parts.Ha) ∷ []

abbrev pub part_of : Part → List ℕ → ℤ → Const
part_of parts.Lo symbol offset = Lo symbol offset
part_of parts.Ha symbol offset = Ha symbol offset
part_of parts.Sda symbol offset = Sda symbol offset

-- a part of a symbol's address plus an offset, where the parts are those that the instruction takes
unfoldable pub symbolic : List (List ℕ × Part) → Data → Result Const Fault
symbolic taken d = do
  ds ← items d
  part ← chosen (word_of taken) ds
  counted 3 ds
  symbol ← nth 1 name ds
  offset ← nth 2 signed32 ds
  Ok (part_of part symbol offset)

-- a number alone
unfoldable pub short : Data → Result Const Fault
short d = do
  n ← signed16 d
  Ok (Int n)

abbrev pub is_array : Data → Bool
is_array d = is_some (as_array d)

unfoldable pub constant : List (List ℕ × Part) → Data → Result Const Fault
constant taken d = if is_array d then symbolic taken d else short d

unfoldable pub alu_constant : AluImmOp → Data → Result Const Fault
alu_constant Addi d = constant low_parts d
alu_constant Addis d = constant high_parts d
alu_constant _ d = short d

-- of a load or a store
abbrev pub displacement : Data → Result Const Fault
displacement = constant low_parts
