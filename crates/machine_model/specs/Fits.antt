-- What the steps of both machines need of a world: the facts of an image that matches, by the numbers of functions and variables.
use Rattle.std.specs.Prelude.{◌≡◌, ℕ, suc, ◌+◌, ◌*◌, ◌%◌, ◌<◌, ◌≤◌, true, false, List, [], ◌∷◌, length, Some, None, slice_get}
use Rattle.std.specs.List.{list_all}
use Rattle.image_model.specs.Image.{Segment}
use Rattle.image_model.specs.Loaded.{is_writable}
use Rattle.layout_model.specs.Facts.{IsStack, IsStop}
use Rattle.asm_syntax.specs.declared.instr.Instr.{Instr}
use Rattle.asm_syntax.specs.declared.instr.Instr.TheVariants as instrs
use Rattle.asm_syntax.specs.declared.unit.Sig.{Sig}
use Rattle.asm_syntax.specs.Instructions.{instr_symbol}
use Rattle.asm_syntax.specs.References.{Reference}
use Rattle.asm_shapes.specs.Shapes.{writes_reserved, labels_stand}
use Rattle.asm_shapes.specs.Operands.{frame_fits, instr_in_range}
use Rattle.ppc_decode.specs.declared.machine.Machine.{Machine}
use Rattle.ppc_decode.specs.Decoding.{decoded}
use Rattle.flat_mem.specs.Memory.{is_mapped, may_write, may_run}
use Rattle.flat_mem.specs.Access.{word_of}
use Rattle.code_model.specs.Forms.{Form, forms}
use Rattle.code_model.specs.Spelling.{found_instruction, agrees}
use Rattle.code_model.specs.Addresses.{loaded_word, address_after, label_address}
use Rattle.code_model.specs.Code.{table_address}
use Rattle.link_model.specs.declared.key.KeyKind.{KeyKind}
use Rattle.link_model.specs.declared.key.KeyKind.TheVariants as kinds
use Rattle.asm_values.specs.Operands.{kind_at}
use Rattle.asm_step.specs.LinkedCode.{key_at, sig_of}
use Rattle.ppc_machine.specs.declared.externals.External.{External}
use Rattle.machine_model.specs.Worlds.{World, code_of, place_at, target_in, variables_in}

-- ---- data: the stack and the variables

abbrev pub InStack : World → ℕ → Type 0
InStack w a = (w.layout.stack.lo ≤ a) × (a < w.layout.stack.hi)

-- an address of a variable
pub record InVariable (w : World) (v a : ℕ) : Type 0 where
  pub is : v < variables_in w
  pub from : w.variable_at v ≤ a
  pub below : a < w.variable_at v + w.variable_size v

pub data Data (w : World) (a : ℕ) : Type 0 where
  Stacked : InStack w a → Data w a
  OfVariable : (v : ℕ) → InVariable w v a → Data w a

-- ---- code

-- an address of an instruction, or the end of code
pub record IsPlace (a : ℕ) : Type 0 where
  pub some : 1 ≤ a
  pub below : a ≤ 0xfffffff0
  pub aligned : a % 4 ≡ 0

-- the word at an address is this instruction, and no step but a fetch comes at it
pub record CodeAt (w : World) (a : ℕ) (m : Machine) : Type 0 where
  pub below : a + 4 ≤ 0xfffffff0
  pub multiple : a % 4 ≡ 0
  pub runs : (i : ℕ) → i < 4 → may_run w.memory (a + i) ≡ true
  pub is : decoded (word_of w.memory a) ≡ Some m
  pub not_stop : a ≡ w.layout.stop → ⊥
  pub not_called : w.outside a ≡ None
  pub apart : (i : ℕ) → i < 4 → Data w (a + i) → ⊥

-- and it has what the form asks for
pub record Spelt (w : World) (a : ℕ) (form : Form) : Type 0 where
  pub code : CodeAt w a (found_instruction form (loaded_word w.image a))
  pub agreed : agrees w.layout a form.gap (loaded_word w.image a) ≡ true

abbrev pub Spelts : World → ℕ → List Form → Type 0
Spelts w a [] = Unit {0}
Spelts w a (form ∷ rest) = Spelt w a form × Spelts w (a + 4) rest

-- a word of a table
pub record TableWord (w : World) (a x : ℕ) : Type 0 where
  pub below : a + 4 ≤ 0xfffffff0
  pub loaded : (i : ℕ) → i < 4 → is_mapped w.memory (a + i) ≡ true
  pub is : word_of w.memory a ≡ x
  pub apart : (i : ℕ) → i < 4 → Data w (a + i) → ⊥

-- what the shape of a function says of one instruction
pub record IsShaped (code : List Instr) (x : Instr) : Type 0 where
  pub free : writes_reserved x ≡ false
  pub labels : labels_stand code x ≡ true
  pub frame : frame_fits x ≡ true
  pub range : instr_in_range x ≡ true

pub record InstrIs (w : World) (f i : ℕ) (x : Instr) : Type 0 where
  pub next : place_at w f (suc i) ≡ address_after w.image (place_at w f i) x
  pub spelt : Spelts w (place_at w f i) (forms (target_in w f i x) x (loaded_word w.image (place_at w f i)))
  pub shaped : IsShaped (code_of w.program f) x
  pub names : (r : Reference) → instr_symbol x ≡ Some r → key_at w.program f i < length w.program.kinds

-- ---- keys

-- the function or the variable of a key has its address
abbrev pub KeyFits : World → ℕ → KeyKind → Type 0
KeyFits w k (kinds.Function f) = (f < length w.program.routines) × (w.function_at f ≡ w.address k)
KeyFits w k (kinds.Variable v) = (v < variables_in w) × (w.variable_at v ≡ w.address k)
KeyFits w k (kinds.External x) = Unit {0}

pub record ExternalIs (w : World) (k : ℕ) (sig : Sig) : Type 0 where
  pub known : k < length w.program.kinds
  pub called : w.outside (w.address k) ≡ Some (record { number = k; sig = sig })
  pub multiple : w.address k % 4 ≡ 0
  pub not_stop : w.address k ≡ w.layout.stop → ⊥

-- ---- the whole

pub record Fits (w : World) : Type 0 where
  pub places : (f i : ℕ) → f < length w.program.routines → i ≤ length (code_of w.program f) → IsPlace (place_at w f i)
  pub instructions : (f i : ℕ) (x : Instr) → f < length w.program.routines → slice_get (code_of w.program f) i ≡ Some x → InstrIs w f i x
  pub tables : (f i r : ℕ) (labels : List ℕ) (j n : ℕ) → f < length w.program.routines →
      slice_get (code_of w.program f) i ≡ Some (instrs.Btbl r labels) → slice_get labels j ≡ Some n →
      TableWord w (table_address w.image (place_at w f i) + 4 * j) (label_address w.image (w.function_at f) (code_of w.program f) n)
  pub functions_differ : (f h : ℕ) → f < length w.program.routines → h < length w.program.routines →
      w.function_at f ≡ w.function_at h → f ≡ h
  pub keys : (k : ℕ) → k < length w.program.kinds → KeyFits w k (kind_at w.program.kinds k)
  pub below : (k : ℕ) → k < length w.program.kinds → (1 ≤ w.address k) × (w.address k ≤ 0xfffffff0)
  pub externals : (k : ℕ) (sig : Sig) → sig_of w.program k ≡ Some sig → ExternalIs w k sig
  pub stack : IsStack w.layout.stack
  pub stop : IsStop w.layout.stop
  pub stack_open : (a : ℕ) → InStack w a → may_write w.memory a ≡ true
