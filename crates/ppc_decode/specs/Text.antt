-- The line that shows an instruction: its mnemonic and its operands in the order of assembly language.
use Rattle.std.specs.Prelude.{ℕ, ◌+◌, ℤ, Bool, false, ◌&&◌, if◌then◌else◌, ◌==◌, List, [], ◌∷◌}
use Rattle.std.specs.Option.{option_map_or}
use Rattle.std.specs.Str.{bytes_eq}
use Rattle.std.specs.Int.{cast_unsigned, w32}
use Rattle.isa_model.specs.Word.{wrapped}
use Rattle.isa_model.specs.Instructions.{name_at, alu_imm_names, log_imm_names, alu_names, alu2_names, log_names, log2_names, srawi_name}
use Rattle.isa_model.specs.Instructions.{rot_names, load_names, store_names, load_x_names, store_x_names, cmp_names, cmp_imm_names}
use Rattle.isa_model.specs.Instructions.{cr_bit_names, move_names, bar_names, b_name, bl_name, bc_name, bdnz_name, blr_name, bctr_name}
use Rattle.isa_model.specs.Instructions.{bctrl_name, trap_name, stwu_name, stwux_name, mfcr_name}
use Rattle.ppc_decode.specs.declared.machine.Machine.{Machine}
use Rattle.ppc_decode.specs.declared.machine.Machine.TheVariants.{AluImm, LogImm, Alu, Alu2, Log, Log2, Srawi, Rot, Load, Store, LoadX}
use Rattle.ppc_decode.specs.declared.machine.Machine.TheVariants.{StoreX, Cmp, CmpImm, CrBit, Move, Bar, Stwu, Stwux, Mfcr, B, Bl, Bc, Blr}
use Rattle.ppc_decode.specs.declared.machine.Machine.TheVariants.{Bctr, Bctrl, Trap}
use Rattle.ppc_decode.specs.declared.operand.Operand.{Operand}
use Rattle.ppc_decode.specs.declared.operand.Operand.TheVariants.{Number, Signed, Target}
use Rattle.ppc_decode.specs.Word.{fits}
use Rattle.ppc_decode.specs.Decoding.{decoded}
use Rattle.ppc_decode.specs.Operands.{line}

-- the address that a branch at an address leads to
abbrev pub target : ℕ → ℤ → Operand
target at displacement = Target (wrapped (at + cast_unsigned w32 displacement))

-- the spelling; a branch whose BO is 16 counts down
abbrev pub mnemonic_of : Machine → List ℕ
mnemonic_of (AluImm k d a c) = name_at alu_imm_names k
mnemonic_of (LogImm k a s n) = name_at log_imm_names k
mnemonic_of (Alu k d a b) = name_at alu_names k
mnemonic_of (Alu2 k d a) = name_at alu2_names k
mnemonic_of (Log k a s b) = name_at log_names k
mnemonic_of (Log2 k a s) = name_at log2_names k
mnemonic_of (Srawi a s n) = srawi_name
mnemonic_of (Rot k a s sh mb me) = name_at rot_names k
mnemonic_of (Load k d c a) = name_at load_names k
mnemonic_of (Store k s c a) = name_at store_names k
mnemonic_of (LoadX k d a b) = name_at load_x_names k
mnemonic_of (StoreX k s a b) = name_at store_x_names k
mnemonic_of (Cmp k f a b) = name_at cmp_names k
mnemonic_of (CmpImm k f a n) = name_at cmp_imm_names k
mnemonic_of (CrBit k t a b) = name_at cr_bit_names k
mnemonic_of (Move k r) = name_at move_names k
mnemonic_of (Bar k) = name_at bar_names k
mnemonic_of (Stwu s c a) = stwu_name
mnemonic_of (Stwux s a b) = stwux_name
mnemonic_of (Mfcr r) = mfcr_name
mnemonic_of (B n) = b_name
mnemonic_of (Bl n) = bl_name
mnemonic_of (Bc bo bi n) = if bo == 16 then bdnz_name else bc_name
mnemonic_of Blr = blr_name
mnemonic_of Bctr = bctr_name
mnemonic_of Bctrl = bctrl_name
mnemonic_of Trap = trap_name

-- the word's instruction has the same spelling
abbrev pub has_mnemonic_of : Machine → ℕ → Bool
has_mnemonic_of m word = fits m && option_map_or (λ found. bytes_eq (mnemonic_of found) (mnemonic_of m)) (decoded word) false

-- the operands of an instruction that stands at an address
abbrev pub operands_of : Machine → ℕ → List Operand
operands_of (AluImm k d a c) at = Number d ∷ Number a ∷ Signed c ∷ []
operands_of (LogImm k a s n) at = Number a ∷ Number s ∷ Signed n ∷ []
operands_of (Alu k d a b) at = Number d ∷ Number a ∷ Number b ∷ []
operands_of (Alu2 k d a) at = Number d ∷ Number a ∷ []
operands_of (Log k a s b) at = Number a ∷ Number s ∷ Number b ∷ []
operands_of (Log2 k a s) at = Number a ∷ Number s ∷ []
operands_of (Srawi a s n) at = Number a ∷ Number s ∷ Number n ∷ []
operands_of (Rot k a s sh mb me) at = Number a ∷ Number s ∷ Number sh ∷ Number mb ∷ Number me ∷ []
operands_of (Load k d c a) at = Number d ∷ Signed c ∷ Number a ∷ []
operands_of (Store k s c a) at = Number s ∷ Signed c ∷ Number a ∷ []
operands_of (LoadX k d a b) at = Number d ∷ Number a ∷ Number b ∷ []
operands_of (StoreX k s a b) at = Number s ∷ Number a ∷ Number b ∷ []
operands_of (Cmp k f a b) at = Number f ∷ Number a ∷ Number b ∷ []
operands_of (CmpImm k f a n) at = Number f ∷ Number a ∷ Signed n ∷ []
operands_of (CrBit k t a b) at = Number t ∷ Number a ∷ Number b ∷ []
operands_of (Move k r) at = Number r ∷ []
operands_of (Bar k) at = []
operands_of (Stwu s c a) at = Number s ∷ Signed c ∷ Number a ∷ []
operands_of (Stwux s a b) at = Number s ∷ Number a ∷ Number b ∷ []
operands_of (Mfcr r) at = Number r ∷ []
operands_of (B n) at = target at n ∷ []
operands_of (Bl n) at = target at n ∷ []
operands_of (Bc bo bi n) at = if bo == 16 then target at n ∷ [] else Number bo ∷ Number bi ∷ target at n ∷ []
operands_of Blr at = []
operands_of Bctr at = []
operands_of Bctrl at = []
operands_of Trap at = []

-- the text of an instruction that stands at an address
abbrev pub text_of : Machine → ℕ → List ℕ
text_of i at = line (mnemonic_of i) (operands_of i at)
