-- Worked rows of linking and of several units, computed.
use Rattle.std.proofs.Common.{◌≡◌, ℕ, List, [], ◌∷◌, refl}
use Rattle.std.specs.Prelude.{pos, codes, true, false, Option, Some, None, length}
use Rattle.ordered_tests.specs.Checks.{first_fault}
use Rattle.layout_model.specs.declared.kind.AreaKind.TheVariants as areas
use Rattle.word_ops.specs.Ranges.{extent}
use Rattle.asm_syntax.specs.declared.rule.Rule.TheVariants as rules
use Rattle.asm_syntax.specs.declared.operations.LoadOp.TheVariants.{Lwz}
use Rattle.asm_syntax.specs.declared.operations.StoreOp.TheVariants.{Stw}
use Rattle.asm_syntax.specs.declared.operations.MoveOp.TheVariants.{Mflr, Mtlr}
use Rattle.asm_syntax.specs.declared.instr.Const.TheVariants.{Int}
use Rattle.asm_syntax.specs.declared.instr.Plain.TheVariants as plains
use Rattle.asm_syntax.specs.declared.instr.Instr.{Instr}
use Rattle.asm_syntax.specs.declared.instr.Instr.TheVariants.{Plain, AllocFrame, FreeFrame, Imm}
use Rattle.asm_syntax.specs.declared.instr.Function.{Function}
use Rattle.asm_syntax.specs.declared.unit.Init.TheVariants.{Int32, Space}
use Rattle.asm_syntax.specs.declared.unit.Variable.{Variable}
use Rattle.asm_syntax.specs.declared.unit.Width.TheVariants.{Word}
use Rattle.asm_syntax.specs.declared.unit.Size.TheVariants.{Fixed}
use Rattle.asm_syntax.specs.declared.unit.Sig.{Sig}
use Rattle.asm_syntax.specs.declared.unit.Unit.{Unit}
use Rattle.code_model.specs.WordChecks.{spot}
use Rattle.link_model.specs.declared.link_error.LinkError.{LinkError}
use Rattle.link_model.specs.declared.link_error.LinkError.TheVariants.{UnitTwice, DefinedTwice, Undeclared, SigDiffers, NoEntry, TooBig}
use Rattle.link_model.specs.declared.key.KeyKind.TheVariants as kinds
use Rattle.link_model.specs.declared.owner.Owner.TheVariants as owners
use Rattle.link_model.specs.Program.{OfVariable, declarations, keys, resolve, defines_global, is_referred, key_alignment}
use Rattle.link_model.specs.Numbers.{functions, variables, externals, key_of, kind_of, entry_key}
use Rattle.link_model.specs.LinkTests.{link_tests}
use Rattle.link_model.specs.Candidates.{Inputs}
use Rattle.link_model.specs.Overlaps.{fault_at}
use Rattle.link_model.proofs.RowParts.{answer, none, in_main, segment, text, global, local, image, area, layout, function, variable}
use Rattle.link_model.proofs.RowParts.{external, empty_sig, unit, main_unit, inputs, addi, addis_ha, addi_lo, bs, bl, blr, seven}

-- ---- faults of linking

unfoldable pub link_answer : List Unit → Option LinkError
unfolding link_tests keys declarations defines_global is_referred
link_answer units = first_fault (link_tests units (codes "main"))

abbrev links : Option LinkError
links = None

abbrev main : List Function
main = function (codes "main") seven ∷ []

abbrev with_variable : List ℕ → Variable → Unit
with_variable name x = unit name [] (x ∷ []) []

abbrev common : ℕ → Variable
common n = variable (codes "x") true (Space n ∷ [])

abbrev two_commons : Variable → Variable → List Unit
two_commons x y = unit (codes "a.c") main (x ∷ []) [] ∷ with_variable (codes "b.c") y ∷ []

abbrev calls : List ℕ → Option Sig → Unit
calls name sig = unit name
    (record { name = codes "f"; is_static = true; code = bl (codes "putw") ∷ blr ∷ [] } ∷ []) [] (external (codes "putw") sig ∷ [])

-- a buffer of four bytes, which the first argument points to, and which is filled or read
abbrev buffer_sig : ℕ → Sig
buffer_sig n = record { args = Word ∷ []; result = None; buffers = record { fills = true; arg = 0; size = Fixed n } ∷ [] }

abbrev two_sigs : Option Sig → Option Sig → List Unit
two_sigs a b = unit (codes "m.c") main [] [] ∷ calls (codes "a.c") a ∷ calls (codes "b.c") b ∷ []

abbrev of_bytes : List ℕ → ℕ → Variable
of_bytes name n = variable name true (Space n ∷ [])

abbrev large : ℕ → List Unit
large n = unit (codes "a.c") main (of_bytes (codes "p") 16777216 ∷ of_bytes (codes "q") 16777216 ∷ of_bytes (codes "r") 16777216
    ∷ of_bytes (codes "s") 16777216 ∷ of_bytes (codes "t") n ∷ []) [] ∷ []

link_faults : (link_answer (two_commons (common 4) (common 4)) ≡ links)
    × (link_answer (two_commons (common 4) (common 8)) ≡ Some (DefinedTwice 1 (codes "x")))
    × (link_answer (two_commons (common 4) (variable (codes "x") false (Space 4 ∷ []))) ≡ Some (DefinedTwice 1 (codes "x")))
    × (link_answer (two_commons (common 4) (variable (codes "x") true (Int32 0 ∷ []))) ≡ Some (DefinedTwice 1 (codes "x")))
    × (link_answer (unit (codes "a.c") main [] [] ∷ unit (codes "a.c") main [] [] ∷ []) ≡ Some (UnitTwice 1))
    × (link_answer (unit (codes "a.c") main [] [] ∷ unit (codes "b.c") main [] [] ∷ []) ≡ Some (DefinedTwice 1 (codes "main")))
    × (link_answer (main_unit (bl (codes "f") ∷ blr ∷ []) [] []) ≡ Some (Undeclared 0 (codes "f")))
    × (link_answer (two_sigs (Some empty_sig) (Some empty_sig)) ≡ links)
    × (link_answer (two_sigs None (Some empty_sig)) ≡ Some (SigDiffers 2 (codes "putw")))
    × (link_answer (two_sigs (Some (buffer_sig 4)) (Some (buffer_sig 4))) ≡ links)
    × (link_answer (two_sigs (Some (buffer_sig 4)) (Some (buffer_sig 8))) ≡ Some (SigDiffers 2 (codes "putw")))
    × (link_answer (with_variable (codes "a.c") (common 4) ∷ []) ≡ Some NoEntry)
    × (link_answer (large 0) ≡ links)
    × (link_answer (large 1) ≡ Some (TooBig 0 (codes "t")))
unfolding link_answer
link_faults = (refl, refl, refl, refl, refl, refl, refl, refl, refl, refl, refl, refl, refl, refl)

-- ---- keys and their numbers

abbrev aligned : ℕ → Variable
aligned n = record { name = codes "x"; is_static = false; writable = true; align = n; init = Space 4 ∷ [] }

-- main, x and the external putw; then a static f, while x and putw stand already, and declares main
abbrev mixed : List Unit
mixed =
    unit (codes "a.c") (function (codes "main") (bl (codes "putw") ∷ blr ∷ []) ∷ []) (aligned 2 ∷ []) (external (codes "putw") None ∷ [])
    ∷ unit (codes "b.c") (record { name = codes "f"; is_static = true; code = bl (codes "main") ∷ blr ∷ [] } ∷ []) (aligned 8 ∷ [])
    (external (codes "main") None ∷ external (codes "unused") None ∷ [])
    ∷ []

numbers : (length (keys mixed) ≡ 4)
    × (length (functions mixed) ≡ 2) × (length (variables mixed) ≡ 1) × (length (externals mixed) ≡ 1)
    × (kind_of mixed 0 ≡ Some (kinds.Function 0)) × (kind_of mixed 1 ≡ Some (kinds.Variable 0))
    × (kind_of mixed 2 ≡ Some (kinds.External 0)) × (kind_of mixed 3 ≡ Some (kinds.Function 1)) × (kind_of mixed 4 ≡ None)
    × (key_of mixed (kinds.Function 1) ≡ Some 3) × (key_of mixed (kinds.External 0) ≡ Some 2) × (key_of mixed (kinds.Variable 1) ≡ None)
    × (entry_key mixed (codes "main") ≡ Some 0) × (entry_key mixed (codes "f") ≡ None)
    × (resolve mixed 1 (codes "main") ≡ Some 0) × (resolve mixed 1 (codes "f") ≡ Some 3) × (resolve mixed 0 (codes "f") ≡ None)
    × (resolve mixed 1 (codes "x") ≡ Some 1) × (resolve mixed 0 (codes "putw") ≡ Some 2) × (resolve mixed 1 (codes "putw") ≡ None)
    × (key_alignment mixed (record { unit = 0; item = OfVariable (aligned 2) }) ≡ 8)
unfolding keys declarations defines_global is_referred resolve key_alignment functions variables externals key_of kind_of entry_key
numbers =
    (refl, refl, refl, refl, refl, refl, refl, refl, refl, refl, refl, refl, refl, refl, refl, refl, refl, refl, refl, refl, refl)

-- ---- a branch to another unit, right and elsewhere

abbrev to_other_unit : ℕ → Inputs
to_other_unit first = inputs
    (image (text (first ∷ 0x38600007 ∷ 0x4e800020 ∷ []) ∷ []) (global (codes "g") 0x10010004 ∷ [])) (layout [] [] [])
    (unit (codes "a.c") (function (codes "main") (bs (codes "g") ∷ []) ∷ []) [] (external (codes "g") None ∷ [])
    ∷ unit (codes "b.c") (function (codes "g") seven ∷ []) [] [] ∷ [])

-- ---- an external by two halves, in its foreign range and behind it

abbrev outside : ℕ → ℕ → Inputs
outside second at = inputs
    (image (text (0x3c601002 ∷ second ∷ 0x4e800020 ∷ []) ∷ []) (global (codes "putw") at ∷ []))
    (layout [] (extent 0x10020000 0x10020100 ∷ []) [])
    (main_unit (addis_ha 3 0 (codes "putw") ∷ addi_lo 3 3 (codes "putw") ∷ blr ∷ []) [] (external (codes "putw") None ∷ []))

-- ---- one static name in two units, of which the second branches to none

abbrev static_h : ℕ → Function
static_h n = record { name = codes "h"; is_static = true; code = addi 3 0 (pos n) ∷ blr ∷ [] }

abbrev two_statics : ℕ → Inputs
two_statics last = inputs
    (image (text (0x48000004 ∷ 0x38600001 ∷ 0x4e800020 ∷ 0x38600002 ∷ 0x4e800020 ∷ last ∷ []) ∷ [])
    (local (codes "h") 0x10010004 ∷ local (codes "h") 0x1001000c ∷ global (codes "g") 0x10010014 ∷ [])) (layout [] [] [])
    (unit (codes "a.c") (function (codes "main") (bs (codes "h") ∷ []) ∷ static_h 1 ∷ []) [] []
    ∷ unit (codes "b.c") (static_h 2 ∷ function (codes "g") (bs (codes "h") ∷ []) ∷ []) [] [] ∷ [])

-- ---- calls of an external, the second to another address; two external keys of one address; one at an odd address

abbrev word_sig : Sig
word_sig = record { args = Word ∷ []; result = None; buffers = [] }

abbrev output : List Instr
output =
    AllocFrame 16 ∷ Plain (plains.Move Mflr 0) ∷ Plain (plains.Store Stw 0 (Int (pos 8)) 1)
    ∷ addis_ha 3 0 (codes "x") ∷ addi_lo 3 3 (codes "x") ∷ bl (codes "putw") ∷ addi 3 1 (pos 12) ∷ bl (codes "putw") ∷ Imm 3 7
    ∷ bl (codes "putw") ∷ Imm 3 0 ∷ Plain (plains.Load Lwz 0 (Int (pos 8)) 1) ∷ Plain (plains.Move Mtlr 0) ∷ FreeFrame 16 ∷ blr ∷ []

abbrev three_calls : ℕ → Inputs
three_calls first = inputs
    (image (text (0x9421fff0 ∷ 0x7c0802a6 ∷ 0x90010008 ∷ 0x3c601002 ∷ 0x38638000 ∷ first ∷ 0x3861000c ∷ 0x4800ffe5 ∷ 0x38600007
    ∷ 0x4800ffdd ∷ 0x38600000 ∷ 0x80010008 ∷ 0x7c0803a6 ∷ 0x38210010 ∷ 0x4e800020 ∷ []) ∷ segment 0x10018000 (0 ∷ 0 ∷ 0 ∷ 5 ∷ []) 6 ∷ [])
    (global (codes "x") 0x10018000 ∷ global (codes "putw") 0x10020000 ∷ []))
    (layout (area 0x10018000 0x10019000 areas.Writable ∷ []) (extent 0x10020000 0x10020100 ∷ []) [])
    (main_unit output (variable (codes "x") true (Int32 5 ∷ []) ∷ []) (external (codes "putw") (Some word_sig) ∷ []))

abbrev two_externals : ℕ → ℕ → Inputs
two_externals at other = inputs
    (image (text (0x48000000 ∷ 0x48000000 ∷ []) ∷ []) (global (codes "p") at ∷ global (codes "q") other ∷ []))
    (layout [] (extent 0x10020000 0x10020100 ∷ []) [])
    (main_unit (bs (codes "p") ∷ bs (codes "q") ∷ []) [] (external (codes "p") (Some word_sig) ∷ external (codes "q") None ∷ []))

several_units : (answer (to_other_unit 0x48000004) ≡ none)
    × (answer (to_other_unit 0x48000008) ≡ in_main (spot rules.Branch 0 0 0x10010004 0x10010008))
    × (answer (outside 0x38630000 0x10020000) ≡ none)
    × (answer (outside 0x38630100 0x10020100)
    ≡ Some (fault_at (codes "a.c") (codes "putw") (spot rules.ExternalPlace 0 2 0 0x10020100) None))
    × (answer (two_statics 0x4bfffff8) ≡ none)
    × (answer (two_statics 0x4bffffec) ≡ Some (fault_at (codes "b.c") (codes "h") (spot rules.NoneFits 0 0 1 0) None))
    × (answer (three_calls 0x4800ffed) ≡ none)
    × (answer (three_calls 0x4800fff1) ≡ in_main (spot rules.Branch 20 0 0x10020000 0x10020004))
    × (answer (two_externals 0x10020002 0x10020004)
    ≡ Some (fault_at (codes "a.c") (codes "p") (spot rules.ExternalPlace 0 1 0 0x10020002) None))
    × (answer (two_externals 0x10020004 0x10020004)
    ≡ Some (fault_at (codes "a.c") (codes "q") (spot rules.ExternalPlace 0 3 0 0x10020004) None))
unfolding answer
several_units = (refl, refl, refl, refl, refl, refl, refl, refl, refl, refl)

-- ---- a key without a symbol, and two functions at one address

abbrev two_functions : List ℕ → ℕ → Inputs
two_functions symbol at = inputs
    (image (text (0x38600007 ∷ 0x4e800020 ∷ []) ∷ []) (global symbol at ∷ [])) (layout [] [] [])
    (unit (codes "a.c") (function (codes "main") seven ∷ function (codes "f") seven ∷ []) [] [] ∷ [])

places_of_functions :
    (answer (two_functions (codes "F") 0x10010000) ≡ Some (fault_at (codes "a.c") (codes "f") (spot rules.NoSymbol 0 0 1 0) None))
    × (answer (two_functions (codes "f") 0x10010000)
    ≡ Some (fault_at (codes "a.c") (codes "f") (spot rules.Overlap 0x10010000 0 0 0) (Some (owners.Function (codes "a.c") (codes "main")))))
unfolding answer
places_of_functions = (refl, refl)
