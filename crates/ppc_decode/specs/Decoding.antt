-- The instruction that a word proposes by its fields. A reserved bit may still be set, and BO or a record bit be another.
use Rattle.std.specs.Prelude.{ℕ, ◌+◌, ◌*◌, ◌-◌, ◌/◌, ◌%◌, ◌^◌, pos, ◌==◌, if◌then◌else◌, ◌≡◌, ◌↔◌, List, slice_index, Option, Some, None}
use Rattle.std.specs.Prelude.{option_and_then, position}
use Rattle.isa_model.specs.Instructions.{alu_imm_opcodes, log_imm_opcodes, alu_opcodes, alu2_opcodes, log_opcodes, and_dot_place}
use Rattle.isa_model.specs.Instructions.{log2_opcodes, srawi_opcode, rot_opcodes, load_opcodes, store_opcodes, load_x_opcodes}
use Rattle.isa_model.specs.Instructions.{store_x_opcodes, cmp_opcodes, cmp_imm_opcodes, cmpwi_place, cr_bit_opcodes, move_opcodes}
use Rattle.isa_model.specs.Instructions.{bar_words, b_opcode, bc_opcode, blr_word, bctr_word, bctrl_word, trap_word, stwu_opcode}
use Rattle.isa_model.specs.Instructions.{stwux_opcode, mfcr_opcode}
use Rattle.isa_model.specs.Forms.{signed}
use Rattle.ppc_decode.specs.Word.{is_word, Encodes}
use Rattle.ppc_decode.specs.declared.machine.Machine.{Machine}
use Rattle.ppc_decode.specs.declared.machine.Machine.TheVariants.{AluImm, LogImm, Alu, Alu2, Log, Log2, Srawi, Rot, Load, Store, LoadX}
use Rattle.ppc_decode.specs.declared.machine.Machine.TheVariants.{StoreX, Cmp, CmpImm, CrBit, Move, Bar, Stwu, Stwux, Mfcr, B, Bl, Bc, Blr}
use Rattle.ppc_decode.specs.declared.machine.Machine.TheVariants.{Bctr, Bctrl, Trap}

-- the first place of an opcode in a row
abbrev pub place_in : List ℕ → ℕ → Option ℕ
place_in row opcode = position (λ n. n == opcode) row

-- the place of `and.` where the record bit is set
abbrev pub log_place : ℕ → Option ℕ
log_place low = if low % 2 == 1 then Some and_dot_place else place_in log_opcodes (low / 2)

-- the first of two that is there
abbrev pub or_else : Option Machine → Option Machine → Option Machine
or_else (Some m) other = Some m
or_else None other = other

-- built from a place, where there is one
abbrev pub at_place : Option ℕ → (ℕ → Machine) → Option Machine
at_place (Some k) build = Some (build k)
at_place None build = None

-- the last eleven bits of a word
abbrev pub last_11 : ℕ → ℕ
last_11 word = word % 2 ^ 11

-- behind the opcode 31, of few instructions each
abbrev pub rare_31 : ℕ → ℕ → ℕ → ℕ → Option Machine
rare_31 x y z low =
    if low == last_11 trap_word then Some Trap
    else if low == last_11 (slice_index bar_words 0) then Some (Bar 0)
    else if low == last_11 (slice_index bar_words 1) then Some (Bar 1)
    else if low / 2 == srawi_opcode then Some (Srawi y x z)
    else if low / 2 == stwux_opcode then Some (Stwux x y z)
    else if low / 2 == mfcr_opcode then Some (Mfcr x)
    else if low / 2 == slice_index move_opcodes 0 then Some (Move (if y == 9 then 1 else 0) x)
    else if low / 2 == slice_index move_opcodes 2 then Some (Move (if y == 9 then 3 else 2) x)
    else None

-- behind the opcode 31: three fields and the last 11 bits
abbrev pub by_31 : ℕ → ℕ → ℕ → ℕ → Option Machine
by_31 x y z low =
    or_else (at_place (place_in alu_opcodes (low / 2)) (λ k. Alu k x y z))
    (or_else (at_place (place_in alu2_opcodes (low / 2)) (λ k. Alu2 k x y))
    (or_else (at_place (place_in log2_opcodes (low / 2)) (λ k. Log2 k y x))
    (or_else (at_place (place_in load_x_opcodes (low / 2)) (λ k. LoadX k x y z))
    (or_else (at_place (place_in store_x_opcodes (low / 2)) (λ k. StoreX k x y z))
    (or_else (at_place (place_in cmp_opcodes (low / 2)) (λ k. Cmp k (x / 4) y z))
    (or_else (at_place (log_place low) (λ k. Log k y x z))
    (rare_31 x y z low)))))))

-- behind the opcode 19
abbrev pub by_19 : ℕ → ℕ → ℕ → ℕ → Option Machine
by_19 x y z low =
    or_else (at_place (place_in cr_bit_opcodes (low / 2)) (λ k. CrBit k x y z))
    (if low == last_11 blr_word then Some Blr
    else if low == last_11 bctr_word then Some Bctr
    else if low == last_11 bctrl_word then Some Bctrl
    else if low == last_11 (slice_index bar_words 2) then Some (Bar 2)
    else None)

-- b or bl, by its last bit
abbrev pub by_18 : ℕ → ℕ → ℕ → Option Machine
by_18 x y low =
    let high = 2 ^ 21 * x + 2 ^ 16 * y in
    if low % 2 == 1 then Some (Bl (signed 26 (high + (low - 1))))
    else Some (B (signed 26 (high + low)))

-- one form of each opcode: two fields and the last 16 bits
abbrev pub rare_opcode : ℕ → ℕ → ℕ → ℕ → Option Machine
rare_opcode opcode x y low =
    if opcode == stwu_opcode then Some (Stwu x (signed 16 low) y)
    else if opcode == bc_opcode then Some (Bc x y (signed 16 low))
    else if opcode == b_opcode then by_18 x y low
    else if opcode == 31 then by_31 x y (low / 2 ^ 11) (last_11 low)
    else if opcode == 19 then by_19 x y (low / 2 ^ 11) (last_11 low)
    else None

-- two fields and the last 16 bits
abbrev pub by_opcode : ℕ → ℕ → ℕ → ℕ → Option Machine
by_opcode opcode x y low =
    or_else (at_place (place_in alu_imm_opcodes opcode) (λ k. AluImm k x y (signed 16 low)))
    (or_else (at_place (place_in log_imm_opcodes opcode) (λ k. LogImm k y x (pos low)))
    (or_else (at_place (place_in load_opcodes opcode) (λ k. Load k x (signed 16 low) y))
    (or_else (at_place (place_in store_opcodes opcode) (λ k. Store k x (signed 16 low) y))
    (or_else (at_place (place_in rot_opcodes opcode) (λ k. Rot k y x (low / 2 ^ 11) (low / 2 ^ 6 % 32) (low / 2 % 32)))
    (or_else (at_place (place_in cmp_imm_opcodes opcode) (λ k. CmpImm k (x / 4) y (if k == cmpwi_place then signed 16 low else pos low)))
    (rare_opcode opcode x y low))))))

unfoldable pub proposed : ℕ → Option Machine
proposed word = by_opcode (word / 2 ^ 26) (word / 2 ^ 21 % 32) (word / 2 ^ 16 % 32) (word % 2 ^ 16)

-- the instruction of a word: what it proposes, where that has this word
unfoldable pub decoded : ℕ → Option Machine
decoded word = option_and_then (λ i. if is_word word i then Some i else None) (proposed word)

-- a word is decoded as an instruction exactly where it is that instruction, with its fields in range
abbrev pub DecodesExactly : Type 0
DecodesExactly = (word : ℕ) (i : Machine) → (decoded word ≡ Some i) ↔ Encodes word i
