-- Worked rows of code, computed. Each row is the words of a function, and the fault that they give.
use Rattle.std.proofs.Common.{◌≡◌, ℕ, List, [], ◌∷◌, refl}
use Rattle.std.specs.Prelude.{pos, Some, codes}
use Rattle.asm_syntax.specs.declared.rule.Rule.TheVariants as rules
use Rattle.asm_syntax.specs.declared.operations.CmpImmOp.TheVariants.{Cmpwi}
use Rattle.asm_syntax.specs.declared.instr.Jump.TheVariants as jumps
use Rattle.asm_syntax.specs.declared.instr.Plain.TheVariants as plains
use Rattle.asm_syntax.specs.declared.instr.Instr.{Instr}
use Rattle.asm_syntax.specs.declared.instr.Instr.TheVariants.{Plain, AllocFrame, FreeFrame, Imm, Bt, Bf, Btbl, MfcrBit, Label}
use Rattle.code_model.specs.WordChecks.{spot}
use Rattle.link_model.specs.Candidates.{Inputs}
use Rattle.link_model.specs.Passes.{nowhere}
use Rattle.link_model.proofs.RowParts.{answer, none, in_main, global, segment, text, layout, main_unit, inputs, code_alone, addi, blr}
use Rattle.link_model.proofs.RowParts.{seven}

-- ---- a constant; an image that is entered elsewhere; a function at an odd place, outside its area, and in a segment without PF_X

abbrev entered_at : ℕ → Inputs
entered_at a = let g : Inputs = code_alone seven (0x38600007 ∷ 0x4e800020 ∷ []) in record {
  image = record { entry = a; segments = g.image.segments; symbols = g.image.symbols };
  layout = g.layout;
  program = g.program;
}

abbrev main_at : ℕ → ℕ → Inputs
main_at a flags = inputs
    (record {
      entry = 0x10010000;
      segments = text (0x60000000 ∷ []) ∷ segment a (0x38 ∷ 0x60 ∷ 0 ∷ 7 ∷ 0x4e ∷ 0x80 ∷ 0 ∷ 0x20 ∷ []) flags ∷ [];
      symbols = global (codes "main") a ∷ [];
    }) (layout [] [] []) (main_unit seven [] [])

constants : (answer (code_alone seven (0x38600007 ∷ 0x4e800020 ∷ [])) ≡ none)
    × (answer (code_alone seven (0x38600008 ∷ 0x4e800020 ∷ [])) ≡ in_main (spot rules.Field 0 0 0x38600007 0x38600008))
    × (answer (code_alone seven (0x38600007 ∷ 0x4e800420 ∷ [])) ≡ in_main (spot rules.Opcode 4 0 0x4e800020 0x4e800420))
    × (answer (entered_at 0x10010002) ≡ Some (nowhere (spot rules.Entry 0x10010002 0 0 0x10010002)))
    × (answer (main_at 0x10010102 5) ≡ in_main (spot rules.Place 0 1 0 0x10010102))
    × (answer (main_at 0x10010ffc 5) ≡ in_main (spot rules.Place 0 2 0 0x10010ffc))
    × (answer (main_at 0x10010100 4) ≡ in_main (spot rules.Place 0 3 0 0x10010100))
unfolding answer
constants = (refl, refl, refl, refl, refl, refl, refl)

-- ---- whole words into a register, and a bit of CR

abbrev words : List Instr
words = Imm 3 0x12345678 ∷ Imm 3 0xffffffff ∷ Imm 3 0x10000 ∷ Imm 3 0x8000 ∷ blr ∷ []

abbrev bits : List Instr
bits = MfcrBit 3 31 ∷ MfcrBit 4 2 ∷ blr ∷ []

registers :
    (answer (code_alone words (0x3c601234 ∷ 0x60635678 ∷ 0x3860ffff ∷ 0x3c600001 ∷ 0x3c600000 ∷ 0x60638000 ∷ 0x4e800020 ∷ [])) ≡ none)
    × (answer (code_alone bits (0x7c600026 ∷ 0x546307fe ∷ 0x7c800026 ∷ 0x54841ffe ∷ 0x4e800020 ∷ [])) ≡ none)
unfolding answer
registers = (refl, refl)

-- ---- frames

abbrev frame : ℕ → ℕ → List ℕ → Inputs
frame n m ws = code_alone (AllocFrame n ∷ Imm 3 1 ∷ FreeFrame m ∷ blr ∷ []) ws

frames : (answer (frame 32768 32768 (0x94218000 ∷ 0x38600001 ∷ 0x80210000 ∷ 0x4e800020 ∷ [])) ≡ none)
    × (answer (frame 32776 32776 (0x3d80ffff ∷ 0x618c7ff8 ∷ 0x7c21616e ∷ 0x38600001 ∷ 0x80210000 ∷ 0x4e800020 ∷ [])) ≡ none)
    × (answer (frame 16 16 (0x9421fff0 ∷ 0x38600001 ∷ 0x80210000 ∷ 0x4e800020 ∷ [])) ≡ none)
    × (answer (frame 16 16 (0x9421fff0 ∷ 0x38600001 ∷ 0x38210010 ∷ 0x4e800020 ∷ [])) ≡ none)
    × (answer (frame 16 40000 (0x9421fff0 ∷ 0x38600001 ∷ 0x38219c40 ∷ 0x4e800020 ∷ []))
    ≡ in_main (spot rules.Opcode 8 0 0x80210000 0x38219c40))
unfolding answer
frames = (refl, refl, refl, refl, refl)

-- ---- branches: near, far, far with another first displacement, counting, on another bit, elsewhere; where the bit is 0

abbrev on_bit : List ℕ → Inputs
on_bit ws = code_alone (Imm 3 0 ∷ Plain (plains.CmpImm Cmpwi 0 3 (pos 0)) ∷ Bt 2 1 ∷ addi 3 3 (pos 1) ∷ Label 1 ∷ blr ∷ []) ws

abbrev on_no_bit : List ℕ → Inputs
on_no_bit ws = code_alone (Imm 3 0 ∷ Bf 2 1 ∷ Label 1 ∷ blr ∷ []) ws

branches : (answer (on_bit (0x38600000 ∷ 0x2c030000 ∷ 0x41820008 ∷ 0x38630001 ∷ 0x4e800020 ∷ [])) ≡ none)
    × (answer (on_bit (0x38600000 ∷ 0x2c030000 ∷ 0x40820008 ∷ 0x48000008 ∷ 0x38630001 ∷ 0x4e800020 ∷ [])) ≡ none)
    × (answer (on_bit (0x38600000 ∷ 0x2c030000 ∷ 0x4082000c ∷ 0x48000008 ∷ 0x38630001 ∷ 0x4e800020 ∷ []))
    ≡ in_main (spot rules.Field 8 0 0x40820008 0x4082000c))
    × (answer (on_bit (0x38600000 ∷ 0x2c030000 ∷ 0x42000008 ∷ 0x38630001 ∷ 0x4e800020 ∷ []))
    ≡ in_main (spot rules.Opcode 8 0 0x41820008 0x42000008))
    × (answer (on_bit (0x38600000 ∷ 0x2c030000 ∷ 0x41860008 ∷ 0x38630001 ∷ 0x4e800020 ∷ []))
    ≡ in_main (spot rules.Field 8 0 0x41820008 0x41860008))
    × (answer (on_bit (0x38600000 ∷ 0x2c030000 ∷ 0x41820010 ∷ 0x38630001 ∷ 0x4e800020 ∷ []))
    ≡ in_main (spot rules.Branch 8 0 0x10010010 0x10010018))
    × (answer (on_bit (0x38600000 ∷ 0x2c030000 ∷ 0x40820008 ∷ 0x4800000c ∷ 0x38630001 ∷ 0x4e800020 ∷ []))
    ≡ in_main (spot rules.Branch 12 0 0x10010014 0x10010018))
    × (answer (on_no_bit (0x38600000 ∷ 0x40820004 ∷ 0x4e800020 ∷ [])) ≡ none)
    × (answer (on_no_bit (0x38600000 ∷ 0x41820008 ∷ 0x48000004 ∷ 0x4e800020 ∷ [])) ≡ none)
unfolding answer
branches = (refl, refl, refl, refl, refl, refl, refl, refl, refl)

-- ---- jumps: counting down to itself, elsewhere, and back; onwards

abbrev to_itself : List ℕ → Inputs
to_itself ws = code_alone (Label 1 ∷ Plain (plains.Jump (jumps.Bdnz 1)) ∷ blr ∷ []) ws

abbrev back : List ℕ → Inputs
back ws = code_alone (Label 1 ∷ addi 3 3 (pos 1) ∷ Plain (plains.Jump (jumps.Bdnz 1)) ∷ blr ∷ []) ws

abbrev onwards : List ℕ → Inputs
onwards ws = code_alone (Plain (plains.Jump (jumps.B 1)) ∷ addi 3 3 (pos 1) ∷ Label 1 ∷ blr ∷ []) ws

jumps_lead : (answer (to_itself (0x42000000 ∷ 0x4e800020 ∷ [])) ≡ none)
    × (answer (to_itself (0x42000004 ∷ 0x4e800020 ∷ [])) ≡ in_main (spot rules.Branch 0 0 0x10010000 0x10010004))
    × (answer (back (0x38630001 ∷ 0x4200fffc ∷ 0x4e800020 ∷ [])) ≡ none)
    × (answer (onwards (0x48000008 ∷ 0x38630001 ∷ 0x4e800020 ∷ [])) ≡ none)
unfolding answer
jumps_lead = (refl, refl, refl, refl)

-- ---- tables: right, with another last word, and outside the areas; a wrong half beside a right one

abbrev jump : List Instr
jump =
    Imm 3 1 ∷ Btbl 3 (1 ∷ 2 ∷ 3 ∷ []) ∷ Label 1 ∷ Imm 3 10 ∷ blr ∷ Label 2 ∷ Imm 3 20 ∷ blr ∷ Label 3 ∷ Imm 3 30 ∷ blr ∷ []

-- by the second word of the jump, its fourth, and the last word of the table
abbrev table : ℕ → ℕ → ℕ → Inputs
table second fourth last = code_alone jump
    (0x38600001 ∷ 0x546c103a ∷ second ∷ 0x818c0030 ∷ fourth ∷ 0x4e800420 ∷ 0x3860000a ∷ 0x4e800020 ∷ 0x38600014 ∷ 0x4e800020
    ∷ 0x3860001e ∷ 0x4e800020 ∷ 0x10010018 ∷ 0x10010020 ∷ last ∷ [])

tables : (answer (table 0x3d8c1001 0x7d8903a6 0x10010028) ≡ none)
    × (answer (table 0x3d8c1001 0x7d8903a6 0x1001002c) ≡ in_main (spot rules.TableWord 4 2 0x10010028 0x1001002c))
    × (answer (table 0x3d8c1002 0x7d8903a6 0x10010028) ≡ in_main (spot rules.TablePlace 4 0 0 0x10020030))
    × (answer (table 0x3d6c1001 0x7d8903a6 0x10010028) ≡ in_main (spot rules.Field 8 0 0x3d8c1001 0x3d6c1001))
    × (answer (table 0x3c8d1001 0x7d8903a6 0x10010028) ≡ in_main (spot rules.Field 8 0 0x3d8c1001 0x3c8d1001))
    × (answer (table 0x398c1001 0x7d8903a6 0x10010028) ≡ in_main (spot rules.Opcode 8 0 0x3d8c0000 0x398c1001))
    × (answer (table 0x3d8c1001 0x7d8803a6 0x10010028) ≡ in_main (spot rules.Opcode 16 0 0x7d8903a6 0x7d8803a6))
unfolding answer
tables = (refl, refl, refl, refl, refl, refl, refl)
