-- What each machine instruction does, by its row in the table of effects.
use Rattle.std.specs.Int.{cast_unsigned, w32}
use Rattle.ppc_decode.specs.declared.machine.Machine.{Machine}
use Rattle.ppc_decode.specs.declared.machine.Machine.TheVariants.{AluImm, LogImm, Alu, Alu2, Log, Log2, Srawi, Rot, Load, Store, LoadX}
use Rattle.ppc_decode.specs.declared.machine.Machine.TheVariants.{StoreX, Cmp, CmpImm, CrBit, Move, Bar, Stwu, Stwux, Mfcr, B, Bl, Bc, Blr}
use Rattle.ppc_decode.specs.declared.machine.Machine.TheVariants.{Bctr, Bctrl, Trap}
use Rattle.effect_model.specs.declared.Constant.TheVariants.{Int}
use Rattle.effect_model.specs.declared.Operand.TheVariants.{Number}
use Rattle.effect_model.specs.declared.Place.TheVariants.{Gpr}
use Rattle.effect_model.specs.declared.Effects.TheVariants.{Nothing}
use Rattle.effect_model.specs.declared.Action.{Action}
use Rattle.effect_model.specs.declared.Action.TheVariants as does
use Rattle.effect_model.specs.Rows.{register, alu_imm, log_imm, alu, alu2, log, log2, srawi, rot, load, store, load_x, store_x, stwu}
use Rattle.effect_model.specs.Rows.{stwux, cmp, cr_bit, move}

abbrev pub action_of : Machine → Action
action_of (AluImm k d a c) = alu_imm k d a (Int c)
action_of (LogImm k a s n) = log_imm k a s (cast_unsigned w32 n)
action_of (Alu k d a b) = alu k d a b
action_of (Alu2 k d a) = alu2 k d a
action_of (Log k a s b) = log k a s b
action_of (Log2 k a s) = log2 k a s
action_of (Srawi a s n) = srawi a s n
action_of (Rot k a s sh mb me) = rot k a s sh mb me
action_of (Load k d c a) = load k d (Int c) a
action_of (Store k s c a) = store k s (Int c) a
action_of (LoadX k d a b) = load_x k d a b
action_of (StoreX k s a b) = store_x k s a b
action_of (Cmp k f a b) = cmp k f a (register b)
action_of (CmpImm k f a n) = cmp k f a (Number (cast_unsigned w32 n))
action_of (CrBit k t a b) = cr_bit k t a b
action_of (Move k r) = move k r
action_of (Bar k) = does.Work Nothing
action_of (Stwu s c a) = stwu s (Int c) a
action_of (Stwux s a b) = stwux s a b
action_of (Mfcr r) = does.MoveFromCr (Gpr r)
action_of (B n) = does.Jump
action_of (Bl n) = does.Jump
action_of (Bc bo bi n) = does.Jump
action_of Blr = does.Jump
action_of Bctr = does.Jump
action_of Bctrl = does.Jump
action_of Trap = does.Jump
