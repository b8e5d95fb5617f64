-- What each plain instruction does, by its row. An instruction names at most one symbol, and `key` is that symbol's key.
use Rattle.std.specs.Prelude.{ℕ, ◌<◌, ◌==◌, ◌&&◌, nat_lt, if◌then◌else◌}
use Rattle.std.specs.Int.{cast_unsigned, w32}
use Rattle.isa_model.specs.Instructions.{or_place}
use Rattle.asm_syntax.specs.declared.instr.Const.{Const}
use Rattle.asm_syntax.specs.declared.instr.Const.TheVariants as const
use Rattle.asm_syntax.specs.declared.instr.Plain.{Plain}
use Rattle.asm_syntax.specs.declared.instr.Plain.TheVariants.{AluImm, LogImm, Alu, Alu2, Log, Log2, Srawi, Rot, Load, LoadX, Store, StoreX}
use Rattle.asm_syntax.specs.declared.instr.Plain.TheVariants.{Cmp, CmpImm, CrBit, Move, Bar, Jump}
use Rattle.asm_syntax.specs.Places.{alu2_place, alu_imm_place, alu_place, cmp_imm_place, cmp_place, cr_bit_place, load_place, load_x_place}
use Rattle.asm_syntax.specs.Places.{log2_place, log_imm_place, log_place, move_place, rot_place, store_place, store_x_place}
use Rattle.effect_model.specs.declared.Constant.{Constant}
use Rattle.effect_model.specs.declared.Constant.TheVariants as constant
use Rattle.effect_model.specs.declared.Operand.TheVariants.{Number}
use Rattle.effect_model.specs.declared.Place.TheVariants.{Gpr, Bit}
use Rattle.effect_model.specs.declared.Effects.TheVariants.{Nothing, One}
use Rattle.effect_model.specs.declared.Action.{Action}
use Rattle.effect_model.specs.declared.Action.TheVariants as does
use Rattle.effect_model.specs.Rows.{register, moved, alu_imm, log_imm, alu, alu2, log, log2, srawi, rot, load, store, load_x, store_x, cmp}
use Rattle.effect_model.specs.Rows.{cr_bit, move}

abbrev pub constant_of : Const → ℕ → Constant
constant_of (const.Int n) key = constant.Int n
constant_of (const.Lo name o) key = constant.Lo key o
constant_of (const.Ha name o) key = constant.Ha key o
constant_of (const.Sda name o) key = constant.Sda key o

-- the row of the instruction set
abbrev pub word_action : Plain → ℕ → Action
word_action (AluImm o d a c) key = alu_imm (alu_imm_place o) d a (constant_of c key)
word_action (LogImm o a s n) key = log_imm (log_imm_place o) a s n
word_action (Alu o d a b) key = alu (alu_place o) d a b
word_action (Alu2 o d a) key = alu2 (alu2_place o) d a
word_action (Log o a s b) key = log (log_place o) a s b
word_action (Log2 o a s) key = log2 (log2_place o) a s
word_action (Srawi a s n) key = srawi a s n
word_action (Rot o a s sh mb me) key = rot (rot_place o) a s sh mb me
word_action (Load o d c a) key = load (load_place o) d (constant_of c key) a
word_action (LoadX o d a b) key = load_x (load_x_place o) d a b
word_action (Store o s c a) key = store (store_place o) s (constant_of c key) a
word_action (StoreX o s a b) key = store_x (store_x_place o) s a b
word_action (Cmp o f a b) key = cmp (cmp_place o) f a (register b)
word_action (CmpImm o f a n) key = cmp (cmp_imm_place o) f a (Number (cast_unsigned w32 n))
word_action (CrBit o t a b) key = cr_bit (cr_bit_place o) t a b
word_action (Move o r) key = move (move_place o) r
word_action (Bar o) key = does.Work Nothing
word_action (Jump j) key = does.Jump

-- `or` of a register with itself copies any value
abbrev pub value_log : ℕ → ℕ → ℕ → ℕ → Action
value_log k a s b = if k == or_place && s == b then does.Work (One (moved (register s) (Gpr a))) else log k a s b

-- crxor and creqv of one bit with itself give 0 and 1 always
abbrev pub value_cr_bit : ℕ → ℕ → ℕ → ℕ → Action
value_cr_bit k t a b = if a == b && nat_lt k 2 then does.Work (One (moved (Number k) (Bit t))) else cr_bit k t a b

-- the row of the assembly machine, where registers hold values
abbrev pub plain_action : Plain → ℕ → Action
plain_action (Log o a s b) key = value_log (log_place o) a s b
plain_action (CrBit o t a b) key = value_cr_bit (cr_bit_place o) t a b
plain_action x key = word_action x key

-- the field of a comparison is one of the eight
abbrev pub HasField : Plain → Type 0
HasField (Cmp o f a b) = f < 8
HasField (CmpImm o f a n) = f < 8
HasField _ = Unit {0}
