-- How a JSON tree is read: the value that it stands for, or the first fault with its place.
use Rattle.std.specs.Prelude.{ℕ, Bool, List, [], ◌∷◌, Option, Some, None, Result, Ok, Err, is_some, if◌then◌else◌}
use Rattle.std.specs.Str.{bytes_eq}
use Rattle.asm_syntax.specs.Names.{is_name}
use Rattle.asm_syntax.specs.declared.path.Step.{Step}
use Rattle.asm_syntax.specs.declared.path.Step.TheVariants.{Key}
pub use Rattle.ordered_tests.specs.Steps.{◌>>=◌, ◌>>◌}
use Rattle.serde_json.specs.Data.{Data}
use Rattle.serde_json.specs.Find.{get, as_bool, as_null, as_object, as_str}
use Rattle.json_tree.specs.declared.fault.Cause.{Cause}
use Rattle.json_tree.specs.declared.fault.Cause.TheVariants.{Missing, WrongKind, OutOfRange, UnknownWord}
use Rattle.json_tree.specs.declared.fault.Fault.{Fault}

-- ---- faults and their places

-- a fault at the place itself
abbrev pub here : Cause → Fault
here cause = record { cause = cause; path = [] }

abbrev pub fail : {T : Type 0} → Cause → Result T Fault
fail cause = Err (here cause)

-- what is read one step below
abbrev pub under : {T : Type 0} → Step → Result T Fault → Result T Fault
under step (Ok x) = Ok x
under step (Err fault) = Err (record { cause = fault.cause; path = step ∷ fault.path })

-- ---- kinds

-- what stands there in the kind that is wanted
abbrev pub of_kind : {A T : Type 0} → Option A → (A → Result T Fault) → Result T Fault
of_kind None read = fail WrongKind
of_kind (Some a) read = read a

abbrev pub object : Data → Result (Unit {0}) Fault
object d = of_kind (as_object d) λ _. Ok tt

abbrev pub boolean : Data → Result Bool Fault
boolean d = of_kind (as_bool d) λ b. Ok b

abbrev pub text : Data → Result (List ℕ) Fault
text d = of_kind (as_str d) λ bytes. Ok bytes

-- null, or what is read
unfoldable pub or_null : {T : Type 0} → (Data → Result T Fault) → Data → Result (Option T) Fault
or_null read d = if is_some (as_null d) then Ok None else (read d >>= λ x. Ok (Some x))

-- ---- members of objects

abbrev pub if_there : {T : Type 0} → Option Data → (Data → Result T Fault) → Result T Fault
if_there None read = fail Missing
if_there (Some d) read = read d

-- the member at a key, which need not be the only one
unfoldable pub field : {T : Type 0} → List ℕ → (Data → Result T Fault) → Data → Result T Fault
field key read d = under (Key key) (if_there (get key d) read)

-- ---- texts

unfoldable pub name : Data → Result (List ℕ) Fault
name d = do
  bytes ← text d
  if is_name bytes then Ok bytes else fail OutOfRange

-- the one text that may stand there
unfoldable pub stated : List ℕ → Data → Result (Unit {0}) Fault
stated word d = do
  bytes ← text d
  if bytes_eq bytes word then Ok tt else fail UnknownWord

-- what a table has for a text, by its first row with that text
abbrev pub look_up : {T : Type 0} → List (List ℕ × T) → List ℕ → Option T
look_up [] bytes = None
look_up (row ∷ table) bytes = if bytes_eq bytes row.0 then Some row.1 else look_up table bytes

abbrev pub known : {T : Type 0} → Option T → Result T Fault
known None = fail UnknownWord
known (Some x) = Ok x

-- a text of a table
unfoldable pub word_of : {T : Type 0} → List (List ℕ × T) → Data → Result T Fault
word_of table d = do
  bytes ← text d
  known (look_up table bytes)
