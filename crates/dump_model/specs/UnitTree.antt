-- The tree of a unit in a version, with all its keys.
use Rattle.std.specs.Prelude.{ℕ, ℤ, Bool, true, false, List, [], ◌∷◌, Option, Some, None, codes}
use Rattle.serde_json.specs.Data.{Data, null, boolean, string}
use Rattle.hex.specs.Hex.{encode_lower}
use Rattle.asm_syntax.specs.declared.instr.Function.{Function}
use Rattle.asm_syntax.specs.declared.unit.Init.{Init}
use Rattle.asm_syntax.specs.declared.unit.Init.TheVariants as Inits
use Rattle.asm_syntax.specs.declared.unit.Variable.{Variable}
use Rattle.asm_syntax.specs.declared.unit.Width.{Width}
use Rattle.asm_syntax.specs.declared.unit.Width.TheVariants.{Word, Long}
use Rattle.asm_syntax.specs.declared.unit.Size.{Size}
use Rattle.asm_syntax.specs.declared.unit.Size.TheVariants.{Fixed, Arg}
use Rattle.asm_syntax.specs.declared.unit.Buffer.{Buffer}
use Rattle.asm_syntax.specs.declared.unit.Sig.{Sig}
use Rattle.asm_syntax.specs.declared.unit.External.{External}
use Rattle.asm_syntax.specs.declared.unit.Unit.{Unit}
use Rattle.dump_reader.specs.Versions.{has_buffers}
use Rattle.dump_model.specs.Trees.{unsigned_data, signed_data, array_of, list_data, object_of}
use Rattle.dump_model.specs.InstructionTree.{instr_data}

abbrev pub function_data : Function → Data
function_data f = object_of (
    (codes "name", string f.name)
    ∷ (codes "static", boolean f.is_static)
    ∷ (codes "code", list_data instr_data f.code)
    ∷ []
    )

-- ---- variables

abbrev pub number_items : List ℕ → ℕ → List Data
number_items word n = string word ∷ unsigned_data n ∷ []

-- two digits for each byte
abbrev pub bytes_items : List ℕ → List Data
bytes_items bytes = string (codes "bytes") ∷ string (encode_lower bytes) ∷ []

abbrev pub address_items : List ℕ → ℤ → List Data
address_items symbol offset = string (codes "addr") ∷ string symbol ∷ signed_data offset ∷ []

abbrev pub init_items : Init → List Data
init_items (Inits.Int8 n) = number_items (codes "i8") n
init_items (Inits.Int16 n) = number_items (codes "i16") n
init_items (Inits.Int32 n) = number_items (codes "i32") n
init_items (Inits.Bytes bytes) = bytes_items bytes
init_items (Inits.Space n) = number_items (codes "space") n
init_items (Inits.Addr symbol offset) = address_items symbol offset

abbrev pub init_data : Init → Data
init_data init = array_of (init_items init)

abbrev pub variable_data : Variable → Data
variable_data v = object_of (
    (codes "name", string v.name)
    ∷ (codes "static", boolean v.is_static)
    ∷ (codes "writable", boolean v.writable)
    ∷ (codes "align", unsigned_data v.align)
    ∷ (codes "init", list_data init_data v.init)
    ∷ []
    )

-- ---- externals

abbrev pub width_word : Width → List ℕ
width_word Word = codes "w"
width_word Long = codes "l"

abbrev pub width_data : Width → Data
width_data width = string (width_word width)

abbrev pub result_word : Option Width → List ℕ
result_word None = codes "none"
result_word (Some width) = width_word width

abbrev pub buffer_word : Bool → List ℕ
buffer_word true = codes "out"
buffer_word false = codes "in"

abbrev pub size_data : Size → Data
size_data (Fixed n) = unsigned_data n
size_data (Arg place) = array_of (string (codes "arg") ∷ unsigned_data place ∷ [])

abbrev pub buffer_items : Buffer → List Data
buffer_items b = string (buffer_word b.fills) ∷ unsigned_data b.arg ∷ size_data b.size ∷ []

abbrev pub buffer_data : Buffer → Data
buffer_data b = array_of (buffer_items b)

-- the buffers, in a version that has them
abbrev pub sig_data : Bool → Sig → Data
sig_data true sig = object_of (
    (codes "args", list_data width_data sig.args)
    ∷ (codes "result", string (result_word sig.result))
    ∷ (codes "buffers", list_data buffer_data sig.buffers)
    ∷ []
    )
sig_data false sig = object_of (
    (codes "args", list_data width_data sig.args)
    ∷ (codes "result", string (result_word sig.result))
    ∷ []
    )

abbrev pub optional_data : Bool → Option Sig → Data
optional_data buffered None = null
optional_data buffered (Some sig) = sig_data buffered sig

abbrev pub external_data : Bool → External → Data
external_data buffered e = object_of (
    (codes "name", string e.name)
    ∷ (codes "sig", optional_data buffered e.sig)
    ∷ []
    )

-- ---- the whole

abbrev pub unit_data : ℕ → Unit → Data
unit_data version u = object_of (
    (codes "valex", string (codes "unit"))
    ∷ (codes "version", unsigned_data version)
    ∷ (codes "unit", string u.name)
    ∷ (codes "functions", list_data function_data u.functions)
    ∷ (codes "variables", list_data variable_data u.variables)
    ∷ (codes "externals", list_data (external_data (has_buffers version)) u.externals)
    ∷ []
    )
