-- Worked rows of units: one that fits, and for each cause one that does not.
use Rattle.std.proofs.Common.{◌≡◌, ℕ, true, false, List, [], ◌∷◌, Some, None, refl}
use Rattle.std.specs.Prelude.{codes, replicate}
use Rattle.std.specs.List.{list_all, list_any}
use Rattle.asm_syntax.specs.declared.instr.Jump.TheVariants.{Blr}
use Rattle.asm_syntax.specs.declared.instr.Plain.TheVariants as Plains
use Rattle.asm_syntax.specs.declared.instr.Instr.{Instr}
use Rattle.asm_syntax.specs.declared.instr.Instr.TheVariants.{Plain, AllocFrame, Btbl, Label}
use Rattle.asm_syntax.specs.declared.instr.Function.{Function}
use Rattle.asm_syntax.specs.declared.unit.Init.{Init}
use Rattle.asm_syntax.specs.declared.unit.Init.TheVariants.{Int8, Int16, Int32, Space}
use Rattle.asm_syntax.specs.declared.unit.Variable.{Variable}
use Rattle.asm_syntax.specs.declared.unit.Width.{Width}
use Rattle.asm_syntax.specs.declared.unit.Width.TheVariants.{Word, Long}
use Rattle.asm_syntax.specs.declared.unit.External.{External}
use Rattle.asm_syntax.specs.declared.unit.Unit.{Unit}
use Rattle.asm_shapes.specs.Units.{is_alignment, unit_fits}

function : List ℕ → List Instr → Function
function name code = record { name = name; is_static = false; code = code }

variable : List ℕ → ℕ → List Init → Variable
variable name align init = record { name = name; is_static = true; writable = true; align = align; init = init }

external : List ℕ → List Width → External
external name args = record { name = name; sig = Some (record { args = args; result = None; buffers = [] }) }

blr : Instr
blr = Plain (Plains.Jump Blr)

unit : Function → Variable → External → Unit
unit f v e = record { name = codes "u"; functions = f ∷ []; variables = v ∷ []; externals = e ∷ [] }

-- the parts of the unit that fits
f : Function
f = function (codes "f") (Label 1 ∷ blr ∷ [])

v : Variable
v = variable (codes "v") 16 (Int8 1 ∷ Int16 2 ∷ Int32 3 ∷ Space 16777209 ∷ [])

e : External
e = external (codes "e") (Long ∷ Word ∷ [])

fits : unit_fits (unit f v e) ≡ true
unfolding unit f v e function variable external blr
fits = refl

shape : unit_fits (unit (function (codes "f") (AllocFrame 8 ∷ [])) v e) ≡ false
unfolding unit v e function variable external
shape = refl

empty_table : unit_fits (unit (function (codes "f") (Btbl 3 [] ∷ [])) v e) ≡ false
unfolding unit v e function variable external
empty_table = refl

alignments : list_all is_alignment (1 ∷ 2 ∷ 4 ∷ 8 ∷ 16 ∷ []) ≡ true
alignments = refl

no_alignments : list_any is_alignment (0 ∷ 3 ∷ 6 ∷ 12 ∷ 32 ∷ []) ≡ false
no_alignments = refl

alignment : unit_fits (unit f (variable (codes "v") 3 []) e) ≡ false
unfolding unit f e function variable external blr
alignment = refl

size : unit_fits (unit f (variable (codes "v") 1 (Int8 1 ∷ Space 16777216 ∷ [])) e) ≡ false
unfolding unit f e function variable external blr
size = refl

signature : unit_fits (unit f v (external (codes "e") (replicate 5 Long))) ≡ false
unfolding unit f v function variable external blr
signature = refl

same_names : unit_fits (unit f v (external (codes "f") [])) ≡ false
unfolding unit f v function variable external blr
same_names = refl
