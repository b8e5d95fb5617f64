-- Worked rows of data and of what refers to it, computed.
use Rattle.std.proofs.Common.{◌≡◌, ℕ, ◌+◌, List, [], ◌∷◌, refl}
use Rattle.std.specs.Prelude.{pos, codes, Bool, true, false, Option, Some, None}
use Rattle.layout_model.specs.declared.kind.AreaKind.{AreaKind}
use Rattle.layout_model.specs.declared.kind.AreaKind.TheVariants as areas
use Rattle.layout_model.specs.Layouts.{Pin}
use Rattle.asm_syntax.specs.declared.rule.Rule.TheVariants as rules
use Rattle.asm_syntax.specs.declared.operations.LoadOp.TheVariants.{Lwz}
use Rattle.asm_syntax.specs.declared.instr.Const.TheVariants.{Lo, Sda}
use Rattle.asm_syntax.specs.declared.instr.Plain.TheVariants as plains
use Rattle.asm_syntax.specs.declared.instr.Instr.{Instr}
use Rattle.asm_syntax.specs.declared.instr.Instr.TheVariants.{Plain, Imm}
use Rattle.asm_syntax.specs.declared.unit.Init.TheVariants.{Int32, Bytes, Addr}
use Rattle.asm_syntax.specs.declared.unit.Variable.{Variable}
use Rattle.code_model.specs.declared.spot.Spot.{Spot}
use Rattle.code_model.specs.WordChecks.{spot}
use Rattle.link_model.specs.declared.fault.Fault.{Fault}
use Rattle.link_model.specs.Candidates.{Inputs}
use Rattle.link_model.specs.Binding.{addresses}
use Rattle.link_model.specs.Overlaps.{fault_at}
use Rattle.link_model.proofs.RowParts.{answer, none, in_main, segment, text, global, local, image, area, layout, function, variable, unit}
use Rattle.link_model.proofs.RowParts.{main_unit, inputs, addis_ha, addi_lo, blr, seven}

-- ---- a load by two halves: right, with the half that @h gives, and with another register besides

abbrev load : List Instr
load = addis_ha 4 0 (codes "x") ∷ Plain (plains.Load Lwz 3 (Lo (codes "x") (pos 0)) 4) ∷ blr ∷ []

abbrev read_only_load : ℕ → Inputs
read_only_load first = inputs
    (image (text (first ∷ 0x80648000 ∷ 0x4e800020 ∷ []) ∷ segment 0x10018000 (0 ∷ 0 ∷ 0 ∷ 42 ∷ []) 4 ∷ [])
    (global (codes "x") 0x10018000 ∷ []))
    (layout (area 0x10018000 0x10019000 areas.Fixed ∷ []) [] []) (main_unit load (variable (codes "x") false (Int32 42 ∷ []) ∷ []) [])

halves : (answer (read_only_load 0x3c801002) ≡ none)
    × (answer (read_only_load 0x3c801001) ≡ in_main (spot rules.Half 0 0 0x3c801002 0x3c801001))
    × (answer (read_only_load 0x3ca01001) ≡ in_main (spot rules.Field 0 0 0x3c801002 0x3ca01001))
unfolding answer
halves = (refl, refl, refl)

-- ---- small data about r13, r2 and 0; by a register whose area has another; by no base; elsewhere; by another mnemonic

abbrev by_base : List Instr
by_base = Plain (plains.Load Lwz 3 (Sda (codes "x") (pos 0)) 0) ∷ blr ∷ []

-- the bases are those of the layout, but for r13
abbrev small_data : Bool → ℕ → ℕ → ℕ → AreaKind → ℕ → Inputs
small_data writable word at lo kind r13 = let l = layout (area lo (lo + 0x1000) kind ∷ []) [] [] in inputs
    (image (text (word ∷ 0x4e800020 ∷ []) ∷ segment at (0 ∷ 0 ∷ 0 ∷ 5 ∷ []) 6 ∷ []) (global (codes "x") at ∷ []))
    (record { entry = l.entry; stop = l.stop; stack = l.stack; r13 = r13; r2 = l.r2; areas = l.areas; foreign = []; pins = [] })
    (main_unit by_base (variable (codes "x") writable (Int32 5 ∷ []) ∷ []) [])

small : (answer (small_data true 0x806d8010 0x10030010 0x10030000 areas.Sda13 0x10038000) ≡ none)
    × (answer (small_data false 0x80628010 0x10040010 0x10040000 areas.Sda2 0x10038000) ≡ none)
    × (answer (small_data true 0x80601010 0x1010 0x1000 areas.Sda0 0x10038000) ≡ none)
    × (answer (small_data false 0x806d0010 0x10040010 0x10040000 areas.Sda2 0x10040000) ≡ in_main (spot rules.Sda 0 3 13 2))
    × (answer (small_data true 0x80658010 0x10030010 0x10030000 areas.Sda13 0x10038000) ≡ in_main (spot rules.Sda 0 1 13 5))
    × (answer (small_data true 0x806d8014 0x10030010 0x10030000 areas.Sda13 0x10038000)
    ≡ in_main (spot rules.Sda 0 2 0x10030010 0x10030014))
    × (answer (small_data true 0x886d8010 0x10030010 0x10030000 areas.Sda13 0x10038000)
    ≡ in_main (spot rules.Opcode 0 0 0x80600000 0x886d8010))
    × (answer (small_data true 0x808d8010 0x10030010 0x10030000 areas.Sda13 0x10038000)
    ≡ in_main (spot rules.Field 0 0 0x806d8010 0x808d8010))
unfolding answer
small = (refl, refl, refl, refl, refl, refl, refl, refl)

-- ---- one static name in two units: bound by use, by no use, and by pins

abbrev literal : Variable
literal = record { name = codes "__stringlit_1"; is_static = true; writable = false; align = 1; init = Bytes (0x68 ∷ 0x69 ∷ 0 ∷ []) ∷ [] }

abbrev refers : List Instr
refers = addis_ha 3 0 (codes "__stringlit_1") ∷ addi_lo 3 3 (codes "__stringlit_1") ∷ blr ∷ []

abbrev refers_not : List Instr
refers_not = Imm 3 7 ∷ blr ∷ []

abbrev two_literals : List Instr → List ℕ → List Pin → Inputs
two_literals code words pins = inputs
    (image (text words ∷ segment 0x10018000 (0x68 ∷ 0x69 ∷ 0 ∷ 0 ∷ 0 ∷ 0 ∷ 0 ∷ 0 ∷ 0x68 ∷ 0x69 ∷ 0 ∷ []) 4 ∷ [])
    (global (codes "g") 0x1001000c ∷ local (codes "__stringlit_1") 0x10018000 ∷ local (codes "__stringlit_1") 0x10018008 ∷ []))
    (layout (area 0x10018000 0x10019000 areas.Fixed ∷ []) [] pins)
    (unit (codes "a.c") (function (codes "main") code ∷ []) (literal ∷ []) []
    ∷ unit (codes "b.c") (function (codes "g") code ∷ []) (literal ∷ []) [] ∷ [])

abbrev used_words : List ℕ
used_words = 0x3c601002 ∷ 0x38638000 ∷ 0x4e800020 ∷ 0x3c601002 ∷ 0x38638008 ∷ 0x4e800020 ∷ []

abbrev unused_words : List ℕ
unused_words = 0x38600007 ∷ 0x4e800020 ∷ 0x60000000 ∷ 0x38600007 ∷ 0x4e800020 ∷ []

abbrev pin_for : List ℕ → ℕ → Pin
pin_for unit address = record { unit = Some unit; name = codes "__stringlit_1"; address = address }

abbrev both_pins : List Pin
both_pins = pin_for (codes "a.c") 0x10018000 ∷ pin_for (codes "b.c") 0x10018008 ∷ []

literals : (answer (two_literals refers used_words []) ≡ none)
    × (addresses (two_literals refers used_words []) ≡ 0x10010000 ∷ 0x10018000 ∷ 0x1001000c ∷ 0x10018008 ∷ [])
    × (answer (two_literals refers_not unused_words [])
    ≡ Some (fault_at (codes "a.c") (codes "__stringlit_1") (spot rules.SeveralFit 0 0 1 2) None))
    × (answer (two_literals refers_not unused_words both_pins) ≡ none)
unfolding answer
literals = (refl, refl, refl, refl)

-- ---- a variable's bytes and place: another byte, one that is not loaded, an odd address, another area, a segment without PF_W

abbrev of_x : Spot → Option Fault
of_x s = Some (fault_at (codes "a.c") (codes "x") s None)

abbrev one_variable : List ℕ → ℕ → ℕ → AreaKind → Inputs
one_variable bytes at flags kind = inputs
    (image (text (0x38600007 ∷ 0x4e800020 ∷ []) ∷ segment at bytes flags ∷ []) (global (codes "x") at ∷ []))
    (layout (area 0x10018000 0x10019000 kind ∷ []) [] [])
    (main_unit seven (variable (codes "x") true (Addr (codes "main") (pos 8) ∷ []) ∷ []) [])

abbrev right_bytes : List ℕ
right_bytes = 0x10 ∷ 1 ∷ 0 ∷ 8 ∷ []

data_places : (answer (one_variable right_bytes 0x10018000 6 areas.Writable) ≡ none)
    × (answer (one_variable (0x10 ∷ 1 ∷ 0 ∷ 9 ∷ []) 0x10018000 6 areas.Writable) ≡ of_x (spot rules.DataBytes 3 0 8 9))
    × (answer (one_variable (0x10 ∷ 1 ∷ 0 ∷ []) 0x10018000 6 areas.Writable) ≡ of_x (spot rules.DataBytes 3 0 8 0x100))
    × (answer (one_variable right_bytes 0x10018002 6 areas.Writable) ≡ of_x (spot rules.DataPlace 0 2 0 0x10018002))
    × (answer (one_variable right_bytes 0x10018000 6 areas.Fixed) ≡ of_x (spot rules.DataPlace 0 3 0 0x10018000))
    × (answer (one_variable right_bytes 0x10018000 4 areas.Writable) ≡ of_x (spot rules.DataPlace 0 4 0 0x10018000))
unfolding answer
data_places = (refl, refl, refl, refl, refl, refl)
