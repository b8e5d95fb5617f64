-- The tree of a unit has no float, and its depth is one that is read.
use Rattle.std.proofs.Common.{◌≡◌, ℕ, ◌≤◌, ℤ, pos, negsuc, Bool, true, false, List, [], ◌∷◌, map, Option, Some, None, refl, lit≤, arith}
use Rattle.std.proofs.lemmas.Bool.{or_from}
use Rattle.serde_json.specs.Data.{Data, depth, items_depth}
use Rattle.serde_json.specs.View.{items_of}
use Rattle.serde_json.specs.Written.{has_float, items_have_float}
use Rattle.serde_json.specs.Read.{max_depth}
use Rattle.asm_syntax.specs.declared.instr.Const.{Const}
use Rattle.asm_syntax.specs.declared.instr.Const.TheVariants.{Int, Lo, Ha, Sda}
use Rattle.asm_syntax.specs.declared.instr.Plain.{Plain}
use Rattle.asm_syntax.specs.declared.instr.Plain.TheVariants as Plains
use Rattle.asm_syntax.specs.declared.instr.Jump.{Jump}
use Rattle.asm_syntax.specs.declared.instr.Jump.TheVariants as Jumps
use Rattle.asm_syntax.specs.declared.instr.Instr.{Instr}
use Rattle.asm_syntax.specs.declared.instr.Instr.TheVariants as Instrs
use Rattle.asm_syntax.specs.declared.instr.Function.{Function}
use Rattle.asm_syntax.specs.declared.unit.Init.{Init}
use Rattle.asm_syntax.specs.declared.unit.Init.TheVariants as Inits
use Rattle.asm_syntax.specs.declared.unit.Variable.{Variable}
use Rattle.asm_syntax.specs.declared.unit.Width.{Width}
use Rattle.asm_syntax.specs.declared.unit.Size.{Size}
use Rattle.asm_syntax.specs.declared.unit.Size.TheVariants.{Fixed, Arg}
use Rattle.asm_syntax.specs.declared.unit.Buffer.{Buffer}
use Rattle.asm_syntax.specs.declared.unit.Sig.{Sig}
use Rattle.asm_syntax.specs.declared.unit.External.{External}
use Rattle.asm_syntax.specs.declared.unit.Unit.{Unit}
use Rattle.dump_reader.specs.Versions.{has_buffers}
use Rattle.dump_model.specs.Trees.{unsigned_data, signed_data}
use Rattle.dump_model.specs.InstructionTree.{const_data, plain_items, jump_items, instr_data}
use Rattle.dump_model.specs.UnitTree.{function_data, init_data, variable_data, width_data, size_data, buffer_data, optional_data}
use Rattle.dump_model.specs.UnitTree.{external_data, unit_data}

-- no float, and at most so deep
abbrev IsPlain : ℕ → Data → Type 0
IsPlain most d = (has_float d ≡ false) × (depth d ≤ most)

abbrev ArePlain : ℕ → List Data → Type 0
ArePlain most ds = (items_have_float (items_of ds) ≡ false) × (items_depth (items_of ds) ≤ most)

each_plain : {T : Type 0} (data_of : T → Data) (most : ℕ) → ((x : T) → IsPlain most (data_of x)) → (xs : List T)
    → ArePlain most (map data_of xs)
each_plain data_of most plain [] = (refl, omega arith)
each_plain data_of most plain (x ∷ xs) =
    let one = plain x in
    let rest = each_plain data_of most plain xs in
    let low : depth (data_of x) ≤ most = one.1 in
    let lower : items_depth (items_of (map data_of xs)) ≤ most = rest.1 in
    (or_from (has_float (data_of x)) (items_have_float (items_of (map data_of xs))) one.0 rest.0, omega arith)

signed_plain : (z : ℤ) → has_float (signed_data z) ≡ false
signed_plain (pos n) = refl
signed_plain (negsuc n) = refl

const_plain : (c : Const) → IsPlain 1 (const_data c)
const_plain (Int z) = (signed_plain z, lit≤ tt)
const_plain (Lo symbol offset) = (rw (signed_plain offset) refl, lit≤ tt)
const_plain (Ha symbol offset) = (rw (signed_plain offset) refl, lit≤ tt)
const_plain (Sda symbol offset) = (rw (signed_plain offset) refl, lit≤ tt)

jump_plain : (j : Jump) → ArePlain 1 (jump_items j)
jump_plain (Jumps.B label) = (refl, lit≤ tt)
jump_plain (Jumps.Bs symbol) = (refl, lit≤ tt)
jump_plain (Jumps.Bl symbol) = (refl, lit≤ tt)
jump_plain (Jumps.Bdnz label) = (refl, lit≤ tt)
jump_plain Jumps.Blr = (refl, lit≤ tt)
jump_plain Jumps.Bctr = (refl, lit≤ tt)
jump_plain Jumps.Bctrl = (refl, lit≤ tt)
jump_plain Jumps.Trap = (refl, lit≤ tt)

plain_plain : (p : Plain) → ArePlain 1 (plain_items p)
plain_plain (Plains.AluImm op d a c) = (rw (const_plain c).0 refl, let low : depth (const_data c) ≤ 1 = (const_plain c).1 in omega arith)
plain_plain (Plains.LogImm op a s n) = (refl, lit≤ tt)
plain_plain (Plains.Alu op d a b) = (refl, lit≤ tt)
plain_plain (Plains.Alu2 op d a) = (refl, lit≤ tt)
plain_plain (Plains.Log op a s b) = (refl, lit≤ tt)
plain_plain (Plains.Log2 op a s) = (refl, lit≤ tt)
plain_plain (Plains.Srawi a s n) = (refl, lit≤ tt)
plain_plain (Plains.Rot op a s sh mb me) = (refl, lit≤ tt)
plain_plain (Plains.Load op d c a) = (rw (const_plain c).0 refl, let low : depth (const_data c) ≤ 1 = (const_plain c).1 in omega arith)
plain_plain (Plains.LoadX op d a b) = (refl, lit≤ tt)
plain_plain (Plains.Store op s c a) = (rw (const_plain c).0 refl, let low : depth (const_data c) ≤ 1 = (const_plain c).1 in omega arith)
plain_plain (Plains.StoreX op s a b) = (refl, lit≤ tt)
plain_plain (Plains.Cmp op f a b) = (refl, lit≤ tt)
plain_plain (Plains.CmpImm op f a z) = (rw (signed_plain z) refl, lit≤ tt)
plain_plain (Plains.CrBit op t a b) = (refl, lit≤ tt)
plain_plain (Plains.Move op r) = (refl, lit≤ tt)
plain_plain (Plains.Bar op) = (refl, lit≤ tt)
plain_plain (Plains.Jump j) = jump_plain j

unsigned_plain : (n : ℕ) → IsPlain 0 (unsigned_data n)
unsigned_plain n = (refl, lit≤ tt)

instr_plain : (i : Instr) → IsPlain 2 (instr_data i)
instr_plain (Instrs.Plain p) =
    let items = plain_plain p in let low : items_depth (items_of (plain_items p)) ≤ 1 = items.1 in (items.0, omega arith)
instr_plain (Instrs.AllocFrame n) = (refl, lit≤ tt)
instr_plain (Instrs.FreeFrame n) = (refl, lit≤ tt)
instr_plain (Instrs.Imm r n) = (refl, lit≤ tt)
instr_plain (Instrs.Bt bit label) = (refl, lit≤ tt)
instr_plain (Instrs.Bf bit label) = (refl, lit≤ tt)
instr_plain (Instrs.Btbl r labels) =
    let items = each_plain unsigned_data 0 unsigned_plain labels in
    let low : items_depth (items_of (map unsigned_data labels)) ≤ 0 = items.1 in
    (rw items.0 refl, omega arith)
instr_plain (Instrs.MfcrBit r bit) = (refl, lit≤ tt)
instr_plain (Instrs.Label label) = (refl, lit≤ tt)
instr_plain Instrs.Cfi = (refl, lit≤ tt)
instr_plain Instrs.Annot = (refl, lit≤ tt)

function_plain : (f : Function) → IsPlain 4 (function_data f)
function_plain f =
    let items = each_plain instr_data 2 instr_plain f.code in
    let low : items_depth (items_of (map instr_data f.code)) ≤ 2 = items.1 in
    (rw items.0 refl, omega arith)

init_plain : (i : Init) → IsPlain 1 (init_data i)
init_plain (Inits.Int8 n) = (refl, lit≤ tt)
init_plain (Inits.Int16 n) = (refl, lit≤ tt)
init_plain (Inits.Int32 n) = (refl, lit≤ tt)
init_plain (Inits.Bytes bytes) = (refl, lit≤ tt)
init_plain (Inits.Space n) = (refl, lit≤ tt)
init_plain (Inits.Addr symbol offset) = (rw (signed_plain offset) refl, lit≤ tt)

variable_plain : (v : Variable) → IsPlain 4 (variable_data v)
variable_plain v =
    let items = each_plain init_data 1 init_plain v.init in
    let low : items_depth (items_of (map init_data v.init)) ≤ 1 = items.1 in
    (rw items.0 refl, omega arith)

width_plain : (w : Width) → IsPlain 0 (width_data w)
width_plain w = (refl, lit≤ tt)

size_plain : (size : Size) → IsPlain 1 (size_data size)
size_plain (Fixed n) = (refl, lit≤ tt)
size_plain (Arg place) = (refl, lit≤ tt)

buffer_plain : (b : Buffer) → IsPlain 2 (buffer_data b)
buffer_plain b =
    let size = size_plain b.size in
    let low : depth (size_data b.size) ≤ 1 = size.1 in
    (rw size.0 refl, omega arith)

optional_plain : (buffered : Bool) (sig : Option Sig) → IsPlain 4 (optional_data buffered sig)
optional_plain buffered None = (refl, lit≤ tt)
optional_plain false (Some sig) =
    let items = each_plain width_data 0 width_plain sig.args in
    let low : items_depth (items_of (map width_data sig.args)) ≤ 0 = items.1 in
    (rw items.0 refl, omega arith)
optional_plain true (Some sig) =
    let items = each_plain width_data 0 width_plain sig.args in
    let low : items_depth (items_of (map width_data sig.args)) ≤ 0 = items.1 in
    let buffers = each_plain buffer_data 2 buffer_plain sig.buffers in
    let lower : items_depth (items_of (map buffer_data sig.buffers)) ≤ 2 = buffers.1 in
    (rw (items.0, buffers.0) refl, omega arith)

external_plain : (buffered : Bool) (e : External) → IsPlain 5 (external_data buffered e)
external_plain buffered e =
    let inner = optional_plain buffered e.sig in
    let low : depth (optional_data buffered e.sig) ≤ 4 = inner.1 in
    (rw inner.0 refl, omega arith)

unit_plain : (version : ℕ) (u : Unit) → IsPlain max_depth (unit_data version u)
unit_plain version u =
    let functions = each_plain function_data 4 function_plain u.functions in
    let variables = each_plain variable_data 4 variable_plain u.variables in
    let externals = each_plain (external_data (has_buffers version)) 5 (external_plain (has_buffers version)) u.externals in
    let a : items_depth (items_of (map function_data u.functions)) ≤ 4 = functions.1 in
    let b : items_depth (items_of (map variable_data u.variables)) ≤ 4 = variables.1 in
    let c : items_depth (items_of (map (external_data (has_buffers version)) u.externals)) ≤ 5 = externals.1 in
    (rw (functions.0, variables.0, externals.0) refl, omega arith)

pub no_float : (version : ℕ) (u : Unit) → has_float (unit_data version u) ≡ false
no_float version u = (unit_plain version u).0

pub shallow : (version : ℕ) (u : Unit) → depth (unit_data version u) ≤ max_depth
shallow version u = (unit_plain version u).1
