-- The grammar of units.
use Rattle.std.specs.Prelude.{◌≡◌, ℕ, ◌^◌, Bool, true, false, List, [], ◌∷◌, map, is_some, Option, Some, None, Result, Ok, codes}
use Rattle.std.specs.Prelude.{if◌then◌else◌, IsTrue, ⊤}
use Rattle.ordered_tests.specs.Checks.{first_fault}
use Rattle.serde_json.specs.Data.{Data}
use Rattle.asm_syntax.specs.declared.path.Step.TheVariants.{Key, Index}
use Rattle.asm_syntax.specs.declared.instr.Function.{Function}
use Rattle.asm_syntax.specs.declared.unit.Init.{Init}
use Rattle.asm_syntax.specs.declared.unit.Init.TheVariants as Inits
use Rattle.asm_syntax.specs.declared.unit.Variable.{Variable}
use Rattle.asm_syntax.specs.declared.unit.Width.{Width}
use Rattle.asm_syntax.specs.declared.unit.Width.TheVariants.{Word, Long}
use Rattle.asm_syntax.specs.declared.unit.Size.{Size}
use Rattle.asm_syntax.specs.declared.unit.Size.TheVariants as Sizes
use Rattle.asm_syntax.specs.declared.unit.Buffer.{Buffer}
use Rattle.asm_syntax.specs.declared.unit.Sig.{Sig}
use Rattle.asm_syntax.specs.declared.unit.External.{External}
use Rattle.asm_syntax.specs.declared.unit.Unit.{Unit}
use Rattle.asm_syntax.specs.declared.shape.ShapeError.{ShapeError}
use Rattle.asm_syntax.specs.declared.shape.ShapeError.TheVariants.{Empty}
use Rattle.limits.specs.declared.TheConstants.{MOST_FUNCTIONS, MOST_VARIABLES, MOST_EXTERNALS, MOST_INSTRUCTIONS, MOST_INIT_ITEMS}
use Rattle.limits.specs.declared.TheConstants.{MOST_VARIABLE_BYTES, MOST_BUFFERS, MOST_BUFFER_BYTES}
use Rattle.asm_shapes.specs.Shapes.{function_tests}
use Rattle.asm_shapes.specs.Signatures.{argument_tests, buffer_tests}
use Rattle.asm_syntax.specs.ShapeFaults.{shape_place}
use Rattle.asm_syntax.specs.Sizes.{limited_size}
use Rattle.asm_shapes.specs.Units.{function_name, variable_name, external_name, is_alignment, unit_fits}
use Rattle.json_tree.specs.declared.fault.Cause.TheVariants.{OutOfRange, Limit, Shape}
use Rattle.json_tree.specs.declared.fault.Fault.{Fault}
use Rattle.json_tree.specs.Reading.{◌>>=◌, ◌>>◌, fail, under, field, object, boolean, name, or_null, word_of}
use Rattle.json_tree.specs.Arrays.{items, list, counted, nth, chosen}
use Rattle.json_tree.specs.Numbers.{natural, wrapped, word, signed32}
use Rattle.json_tree.specs.NewNames.{new_name, named_list, with_names}
use Rattle.json_tree.specs.Profile.{header}
use Rattle.dump_reader.specs.declared.init.InitForm.{InitForm}
use Rattle.dump_reader.specs.declared.init.InitForm.TheVariants as InitForms
use Rattle.dump_reader.specs.declared.external.TheConstants.{MOST_INDEXED}
use Rattle.dump_reader.specs.declared.profile.TheConstants.{NEWEST}
use Rattle.dump_reader.specs.Words.{allowed_word}
use Rattle.dump_reader.specs.Digits.{digits}
use Rattle.dump_reader.specs.Versions.{has_buffers}
use Rattle.dump_reader.specs.Operands.{is_array}
use Rattle.dump_reader.specs.Instructions.{instr}

-- ---- functions

-- a function with no words is refused as a whole, any other fault at its instruction
abbrev pub well_shaped : Option ShapeError → Result ⊤ Fault
well_shaped None = Ok tt
well_shaped (Some (Empty i)) = fail (Shape (Empty i))
well_shaped (Some e) = under (Key (codes "code")) (under (Index (shape_place e)) (fail (Shape e)))

unfoldable pub function : List (List ℕ) → Data → Result Function Fault
function taken d = do
  object d
  n ← field (codes "name") (new_name taken) d
  s ← field (codes "static") boolean d
  c ← field (codes "code") (list MOST_INSTRUCTIONS instr) d
  well_shaped (first_fault (function_tests c))
  Ok (record { name = n; is_static = s; code = c })

-- ---- variables

abbrev pub init_words : List (List ℕ × Option InitForm)
init_words =
    (codes "i8", Some InitForms.Int8)
    ∷ (codes "i16", Some InitForms.Int16)
    ∷ (codes "i32", Some InitForms.Int32)
    ∷ (codes "bytes", Some InitForms.Bytes)
    ∷ (codes "space", Some InitForms.Space)
    ∷ (codes "addr", Some InitForms.Addr)
    ∷ (codes "f32", None)
    ∷ (codes "f64", None)
    ∷ (codes "i64", None)
    ∷ []

unfoldable pub int8 : List Data → Result Init Fault
int8 ds = do
  counted 2 ds
  n ← nth 1 (wrapped (2 ^ 8)) ds
  Ok (Inits.Int8 n)

unfoldable pub int16 : List Data → Result Init Fault
int16 ds = do
  counted 2 ds
  n ← nth 1 (wrapped (2 ^ 16)) ds
  Ok (Inits.Int16 n)

unfoldable pub int32 : List Data → Result Init Fault
int32 ds = do
  counted 2 ds
  n ← nth 1 word ds
  Ok (Inits.Int32 n)

unfoldable pub bytes : List Data → Result Init Fault
bytes ds = do
  counted 2 ds
  bs ← nth 1 digits ds
  Ok (Inits.Bytes bs)

unfoldable pub space : List Data → Result Init Fault
space ds = do
  counted 2 ds
  n ← nth 1 (natural MOST_VARIABLE_BYTES) ds
  Ok (Inits.Space n)

unfoldable pub addr : List Data → Result Init Fault
addr ds = do
  counted 3 ds
  symbol ← nth 1 name ds
  offset ← nth 2 signed32 ds
  Ok (Inits.Addr symbol offset)

-- the items of an array whose first word has a form
unfoldable pub init_operands : InitForm → List Data → Result Init Fault
init_operands InitForms.Int8 ds = int8 ds
init_operands InitForms.Int16 ds = int16 ds
init_operands InitForms.Int32 ds = int32 ds
init_operands InitForms.Bytes ds = bytes ds
init_operands InitForms.Space ds = space ds
init_operands InitForms.Addr ds = addr ds

unfoldable pub init : Data → Result Init Fault
init d = do
  ds ← items d
  form ← chosen (allowed_word init_words) ds
  init_operands form ds

-- the items of a variable, whose bytes are counted after them
unfoldable pub contents : Data → Result (List Init) Fault
contents d = do
  is ← list MOST_INIT_ITEMS init d
  if is_some (limited_size is) then Ok is else fail (Limit MOST_VARIABLE_BYTES)

unfoldable pub alignment : Data → Result ℕ Fault
alignment d = do
  n ← natural 16 d
  if is_alignment n then Ok n else fail OutOfRange

unfoldable pub variable : List (List ℕ) → Data → Result Variable Fault
variable taken d = do
  object d
  n ← field (codes "name") (new_name taken) d
  s ← field (codes "static") boolean d
  w ← field (codes "writable") boolean d
  a ← field (codes "align") alignment d
  i ← field (codes "init") contents d
  Ok (record { name = n; is_static = s; writable = w; align = a; init = i })

-- ---- externals

abbrev pub widths : List (List ℕ × Width)
widths = (codes "w", Word) ∷ (codes "l", Long) ∷ []

abbrev pub results : List (List ℕ × Option Width)
results = (codes "none", None) ∷ (codes "w", Some Word) ∷ (codes "l", Some Long) ∷ []

abbrev pub well_passed : Option ShapeError → Result ⊤ Fault
well_passed None = Ok tt
well_passed (Some e) = fail (Shape e)

-- as many as pass in registers; those before that are as many as have indices
unfoldable pub arguments : Data → Result (List Width) Fault
arguments d = do
  ws ← list MOST_INDEXED (word_of widths) d
  well_passed (first_fault (argument_tests ws))
  Ok ws

-- what an external does with a buffer: it reads it, or fills it
abbrev pub buffer_words : List (List ℕ × Bool)
buffer_words = (codes "in", false) ∷ (codes "out", true) ∷ []

abbrev pub size_words : List (List ℕ × ⊤)
size_words = (codes "arg", tt) ∷ []

-- the place of an argument
abbrev pub argument_place : Data → Result ℕ Fault
argument_place = natural 255

unfoldable pub argument_size : Data → Result Size Fault
argument_size d = do
  ds ← items d
  chosen (word_of size_words) ds
  counted 2 ds
  n ← nth 1 argument_place ds
  Ok (Sizes.Arg n)

unfoldable pub fixed_size : Data → Result Size Fault
fixed_size d = do
  n ← natural MOST_BUFFER_BYTES d
  Ok (Sizes.Fixed n)

unfoldable pub buffer_size : Data → Result Size Fault
buffer_size d = if is_array d then argument_size d else fixed_size d

unfoldable pub buffer : Data → Result Buffer Fault
buffer d = do
  ds ← items d
  w ← chosen (word_of buffer_words) ds
  counted 3 ds
  a ← nth 1 argument_place ds
  s ← nth 2 buffer_size ds
  Ok (record { fills = w; arg = a; size = s })

-- a version that has no buffers passes the key over
unfoldable pub buffers : Bool → Data → Result (List Buffer) Fault
buffers true d = field (codes "buffers") (list MOST_BUFFERS buffer) d
buffers false d = Ok []

-- a buffer is refused at its place, when all are read
abbrev pub well_buffered : Option ShapeError → Result ⊤ Fault
well_buffered None = Ok tt
well_buffered (Some e) = under (Key (codes "buffers")) (under (Index (shape_place e)) (fail (Shape e)))

unfoldable pub signature : Bool → Data → Result Sig Fault
signature buffered d = do
  object d
  a ← field (codes "args") arguments d
  r ← field (codes "result") (word_of results) d
  b ← buffers buffered d
  well_buffered (first_fault (buffer_tests a b))
  Ok (record { args = a; result = r; buffers = b })

unfoldable pub external : Bool → List (List ℕ) → Data → Result External Fault
external buffered taken d = do
  object d
  n ← field (codes "name") (new_name taken) d
  s ← field (codes "sig") (or_null (signature buffered)) d
  Ok (record { name = n; sig = s })

-- ---- the whole. A name is new where no earlier function, variable or external has it

abbrev pub taken_by_functions : List Function → List (List ℕ)
taken_by_functions functions = with_names [] (map function_name functions)

abbrev pub taken_by_both : List Function → List Variable → List (List ℕ)
taken_by_both functions variables = with_names (taken_by_functions functions) (map variable_name variables)

unfoldable pub unit : Data → Result Unit Fault
unit d = do
  version ← header (codes "unit") NEWEST d
  n ← field (codes "unit") name d
  fs ← field (codes "functions") (named_list function_name function [] MOST_FUNCTIONS) d
  vs ← field (codes "variables") (named_list variable_name variable (taken_by_functions fs) MOST_VARIABLES) d
  es ← field (codes "externals") (named_list external_name (external (has_buffers version)) (taken_by_both fs vs) MOST_EXTERNALS) d
  Ok (record { name = n; functions = fs; variables = vs; externals = es })

abbrev pub UnitTree : Data → Unit → Type 0
UnitTree d u = unit d ≡ Ok u

-- every unit that is read fits
abbrev pub UnitsFit : Type 0
UnitsFit = (d : Data) (u : Unit) → UnitTree d u → IsTrue (unit_fits u)
