-- What an image that matches has, address by address, without claims and areas.
use Rattle.std.specs.Prelude.{◌≡◌, ◌≢◌, ℕ, suc, ◌+◌, ◌*◌, ◌%◌, ◌<◌, ◌≤◌, true, false, List, [], ◌∷◌, length, Some, slice_get, IsSome, ⊤}
use Rattle.limits.specs.declared.TheConstants.{MOST_RANGE_END}
use Rattle.word_ops.specs.Ranges.{holds}
use Rattle.ppc_decode.specs.Word.{Encodes}
use Rattle.image_model.specs.Image.{Image}
use Rattle.image_model.specs.Loaded.{byte_at, word_at}
use Rattle.layout_model.specs.Layouts.{Layout, stop_range}
use Rattle.asm_syntax.specs.Instructions.{label_place}
use Rattle.asm_syntax.specs.declared.instr.Instr.{Instr}
use Rattle.asm_syntax.specs.declared.instr.Instr.TheVariants as instrs
use Rattle.asm_syntax.specs.declared.instr.Function.{Function}
use Rattle.asm_syntax.specs.declared.unit.Variable.{Variable}
use Rattle.asm_syntax.specs.declared.unit.External.{External}
use Rattle.asm_syntax.specs.Sizes.{variable_size}
use Rattle.code_model.specs.Forms.{Form, forms}
use Rattle.code_model.specs.Spelling.{found_instruction, agrees, is_right_base}
use Rattle.code_model.specs.Addresses.{is_executable_at, is_writable_at, loaded_word, address_after, instr_address, label_address}
use Rattle.code_model.specs.Code.{target, table_address}
use Rattle.code_model.specs.Variables.{data_bytes, data_range}
use Rattle.link_model.specs.Program.{Item, OfFunction, OfVariable, OfExternal}
use Rattle.link_model.specs.Candidates.{Inputs}
use Rattle.link_model.specs.Binding.{key_address, symbol_address}
use Rattle.link_model.specs.Parts.{IsKey}

-- ---- the stack and the variables, where a program may write

-- an address of the variable that is key k
abbrev pub InVariable : Inputs → List ℕ → ℕ → ℕ → Type 0
InVariable g bs k a = (u : ℕ) × (x : Variable) × IsKey g k u (OfVariable x) × (holds a (data_range (key_address bs k) x) ≡ true)

pub record IsOffData (g : Inputs) (bs : List ℕ) (a : ℕ) : Type 0 where
  pub off_stack : holds a g.layout.stack ≡ false
  pub off_variables : (k : ℕ) → InVariable g bs k a → ⊥

-- ---- code

-- an address of an instruction, or the end of code
pub record IsCodeAddress (a : ℕ) : Type 0 where
  pub some : 1 ≤ a
  pub below : a ≤ MOST_RANGE_END
  pub aligned : a % 4 ≡ 0

-- the word at an address is of a form
pub record IsSpelt (l : Layout) (at : ℕ) (form : Form) (w : ℕ) : Type 0 where
  pub word : Encodes w (found_instruction form w)
  pub agreed : agrees l at form.gap w ≡ true
  pub base : is_right_base l form.gap w ≡ true

-- the word at an address is executable and of a form, and nothing but an instruction stands there
pub record IsCodeWord (g : Inputs) (bs : List ℕ) (a : ℕ) (form : Form) : Type 0 where
  pub aligned : a % 4 ≡ 0
  pub below : a + 4 ≤ MOST_RANGE_END
  pub runs : (i : ℕ) → i < 4 → is_executable_at g.image (a + i) ≡ true
  pub loaded : word_at g.image a ≡ Some (loaded_word g.image a)
  pub spelt : IsSpelt g.layout a form (loaded_word g.image a)
  pub not_stop : a ≢ g.layout.stop
  pub not_external : (k u : ℕ) (x : External) → IsKey g k u (OfExternal x) → key_address bs k ≢ a
  pub off_data : (i : ℕ) → i < 4 → IsOffData g bs (a + i)

abbrev pub AreCodeWords : Inputs → List ℕ → ℕ → List Form → Type 0
AreCodeWords g bs a [] = ⊤
AreCodeWords g bs a (form ∷ rest) = IsCodeWord g bs a form × AreCodeWords g bs (a + 4) rest

-- the address of the symbol or the label that an instruction of a function of unit u names
abbrev pub target_of : Inputs → List ℕ → ℕ → ℕ → List Instr → Instr → ℕ
target_of g bs u base code x = target (symbol_address g bs u) (label_address g.image base code) x

-- instruction i of a function of unit u
abbrev pub IsInstr : Inputs → List ℕ → ℕ → ℕ → List Instr → ℕ → Instr → Type 0
IsInstr g bs u base code i x =
    let a = instr_address g.image base code i in AreCodeWords g bs a (forms (target_of g bs u base code x) x (loaded_word g.image a))

-- a word of a table
pub record IsTableWord (g : Inputs) (bs : List ℕ) (a w : ℕ) : Type 0 where
  pub aligned : a % 4 ≡ 0
  pub below : a + 4 ≤ MOST_RANGE_END
  pub word : word_at g.image a ≡ Some w
  pub off_data : (i : ℕ) → i < 4 → IsOffData g bs (a + i)

-- the word number j of the table of instruction i is its label's address
abbrev pub HasTables : Inputs → List ℕ → ℕ → List Instr → Type 0
HasTables g bs base code = (i r : ℕ) (labels : List ℕ) (j n : ℕ) →
    slice_get code i ≡ Some (instrs.Btbl r labels) → slice_get labels j ≡ Some n →
    IsTableWord g bs (table_address g.image (instr_address g.image base code i) + 4 * j) (label_address g.image base code n)

pub record FunctionFacts (g : Inputs) (bs : List ℕ) (u base : ℕ) (code : List Instr) : Type 0 where
  pub addresses : (i : ℕ) → i ≤ length code → IsCodeAddress (instr_address g.image base code i)
  pub next : (i : ℕ) (x : Instr) → slice_get code i ≡ Some x →
      instr_address g.image base code (suc i) ≡ address_after g.image (instr_address g.image base code i) x
  pub instructions : (i : ℕ) (x : Instr) → slice_get code i ≡ Some x → IsInstr g bs u base code i x
  pub tables : HasTables g bs base code

-- ---- variables and externals

pub record VariableFacts (g : Inputs) (bs : List ℕ) (u a : ℕ) (x : Variable) : Type 0 where
  pub some : 1 ≤ a
  pub below : a + variable_size x.init ≤ MOST_RANGE_END
  pub bytes : (o byte : ℕ) → slice_get (data_bytes (symbol_address g bs u) x) o ≡ Some byte → byte_at g.image (a + o) ≡ Some byte
  pub loaded : (o : ℕ) → o < variable_size x.init → (byte : ℕ) × (byte_at g.image (a + o) ≡ Some byte)
  pub off_stack : (b : ℕ) → holds b (data_range a x) ≡ true → holds b g.layout.stack ≡ false
  pub writable : x.writable ≡ true → (o : ℕ) → o < variable_size x.init → is_writable_at g.image (a + o) ≡ true

pub record ExternalFacts (g : Inputs) (a : ℕ) (x : External) : Type 0 where
  pub some : 1 ≤ a
  pub below : a < MOST_RANGE_END
  pub aligned : IsSome x.sig → a % 4 ≡ 0
  pub not_stop : a ≢ g.layout.stop

-- ---- the whole, where the keys have the addresses bs

pub record Facts (g : Inputs) (bs : List ℕ) : Type 0 where
  pub functions : (k u : ℕ) (f : Function) → IsKey g k u (OfFunction f) → FunctionFacts g bs u (key_address bs k) f.code
  pub functions_differ : (j k t u : ℕ) (f h : Function) → IsKey g j t (OfFunction f) → IsKey g k u (OfFunction h) →
      key_address bs j ≡ key_address bs k → j ≡ k
  pub variables : (k u : ℕ) (x : Variable) → IsKey g k u (OfVariable x) → VariableFacts g bs u (key_address bs k) x
  pub variables_apart : (j k a : ℕ) → InVariable g bs j a → InVariable g bs k a → j ≡ k
  pub externals : (k u : ℕ) (x : External) → IsKey g k u (OfExternal x) → ExternalFacts g (key_address bs k) x
  pub externals_differ : (j k t u : ℕ) (x y : External) → IsKey g j t (OfExternal x) → IsKey g k u (OfExternal y) →
      key_address bs j ≡ key_address bs k → j ≡ k
  pub low : (k u : ℕ) (item : Item) → IsKey g k u item → (1 ≤ key_address bs k) × (key_address bs k ≤ MOST_RANGE_END)
  pub loaded_off : (a byte : ℕ) → byte_at g.image a ≡ Some byte →
      (holds a g.layout.stack ≡ false) × (holds a (stop_range g.layout.stop) ≡ false)

-- ---- labels

-- a label stands in the code, and this is its address
pub record IsLabelAt (v : Image) (base : ℕ) (code : List Instr) (label a : ℕ) : Type 0 where
  pub place : ℕ
  pub stands : label_place code label ≡ Some place
  pub within : place < length code
  pub address : a ≡ instr_address v base code place
