-- The values of the types of a unit. A definition sees a register as any number and a name as any list of bytes, so their ranges
-- are stated here. They hold of every unit that code has.
use Rattle.std.specs.Prelude.{ℕ, ◌^◌, ℤ, pos, negsuc, Bool, true, ◌&&◌, nat_lt, int_le, List, Option, Some, None}
use Rattle.std.specs.List.{list_all}
use Rattle.isa_model.specs.Instructions.{is_register}
use Rattle.asm_syntax.specs.Names.{is_name}
use Rattle.asm_syntax.specs.declared.instr.Const.{Const}
use Rattle.asm_syntax.specs.declared.instr.Const.TheVariants as Consts
use Rattle.asm_syntax.specs.declared.instr.Plain.{Plain}
use Rattle.asm_syntax.specs.declared.instr.Plain.TheVariants as Plains
use Rattle.asm_syntax.specs.declared.instr.Jump.{Jump}
use Rattle.asm_syntax.specs.declared.instr.Jump.TheVariants as Jumps
use Rattle.asm_syntax.specs.declared.instr.Instr.{Instr}
use Rattle.asm_syntax.specs.declared.instr.Instr.TheVariants as Instrs
use Rattle.asm_syntax.specs.declared.instr.Function.{Function}
use Rattle.asm_syntax.specs.declared.unit.Init.{Init}
use Rattle.asm_syntax.specs.declared.unit.Init.TheVariants as Inits
use Rattle.asm_syntax.specs.declared.unit.Variable.{Variable}
use Rattle.asm_syntax.specs.declared.unit.Size.{Size}
use Rattle.asm_syntax.specs.declared.unit.Size.TheVariants as Sizes
use Rattle.asm_syntax.specs.declared.unit.Buffer.{Buffer}
use Rattle.asm_syntax.specs.declared.unit.Sig.{Sig}
use Rattle.asm_syntax.specs.declared.unit.External.{External}
use Rattle.asm_syntax.specs.declared.unit.Unit.{Unit}

abbrev pub is_byte : ℕ → Bool
is_byte n = nat_lt n (2 ^ 8)

abbrev pub is_u16 : ℕ → Bool
is_u16 n = nat_lt n (2 ^ 16)

abbrev pub is_u32 : ℕ → Bool
is_u32 n = nat_lt n (2 ^ 32)

abbrev pub is_i32 : ℤ → Bool
is_i32 z = int_le (negsuc 0x7fffffff) z && int_le z (pos 0x7fffffff)

-- a symbol and an offset from it
abbrev pub is_address : List ℕ → ℤ → Bool
is_address symbol offset = is_name symbol && is_i32 offset

abbrev pub are_registers : ℕ → ℕ → Bool
are_registers x y = is_register x && is_register y

abbrev pub is_typed_const : Const → Bool
is_typed_const (Consts.Int n) = is_i32 n
is_typed_const (Consts.Lo symbol offset) = is_address symbol offset
is_typed_const (Consts.Ha symbol offset) = is_address symbol offset
is_typed_const (Consts.Sda symbol offset) = is_address symbol offset

abbrev pub is_typed_jump : Jump → Bool
is_typed_jump (Jumps.B label) = is_u32 label
is_typed_jump (Jumps.Bs symbol) = is_name symbol
is_typed_jump (Jumps.Bl symbol) = is_name symbol
is_typed_jump (Jumps.Bdnz label) = is_u32 label
is_typed_jump _ = true

-- the numbers that are no registers have ranges of their own, which belong to the shape
abbrev pub is_typed_plain : Plain → Bool
is_typed_plain (Plains.AluImm op d a c) = are_registers d a && is_typed_const c
is_typed_plain (Plains.LogImm op a s n) = are_registers a s && is_u16 n
is_typed_plain (Plains.Alu op d a b) = are_registers d a && is_register b
is_typed_plain (Plains.Alu2 op d a) = are_registers d a
is_typed_plain (Plains.Log op a s b) = are_registers a s && is_register b
is_typed_plain (Plains.Log2 op a s) = are_registers a s
is_typed_plain (Plains.Srawi a s n) = are_registers a s
is_typed_plain (Plains.Rot op a s sh mb me) = are_registers a s
is_typed_plain (Plains.Load op d c a) = are_registers d a && is_typed_const c
is_typed_plain (Plains.LoadX op d a b) = are_registers d a && is_register b
is_typed_plain (Plains.Store op s c a) = are_registers s a && is_typed_const c
is_typed_plain (Plains.StoreX op s a b) = are_registers s a && is_register b
is_typed_plain (Plains.Cmp op f a b) = are_registers a b
is_typed_plain (Plains.CmpImm op f a n) = is_register a
is_typed_plain (Plains.CrBit op t a b) = true
is_typed_plain (Plains.Move op r) = is_register r
is_typed_plain (Plains.Bar op) = true
is_typed_plain (Plains.Jump jump) = is_typed_jump jump

abbrev pub is_typed_instr : Instr → Bool
is_typed_instr (Instrs.Plain plain) = is_typed_plain plain
is_typed_instr (Instrs.AllocFrame n) = is_u32 n
is_typed_instr (Instrs.FreeFrame n) = is_u32 n
is_typed_instr (Instrs.Imm r n) = is_register r && is_u32 n
is_typed_instr (Instrs.Bt bit label) = is_u32 label
is_typed_instr (Instrs.Bf bit label) = is_u32 label
is_typed_instr (Instrs.Btbl r labels) = is_register r && list_all is_u32 labels
is_typed_instr (Instrs.MfcrBit r bit) = is_register r
is_typed_instr (Instrs.Label label) = is_u32 label
is_typed_instr Instrs.Cfi = true
is_typed_instr Instrs.Annot = true

abbrev pub is_typed_function : Function → Bool
is_typed_function f = is_name f.name && list_all is_typed_instr f.code

abbrev pub is_typed_init : Init → Bool
is_typed_init (Inits.Int8 n) = is_byte n
is_typed_init (Inits.Int16 n) = is_u16 n
is_typed_init (Inits.Int32 n) = is_u32 n
is_typed_init (Inits.Bytes bytes) = list_all is_byte bytes
is_typed_init (Inits.Space n) = true
is_typed_init (Inits.Addr symbol offset) = is_address symbol offset

abbrev pub is_typed_variable : Variable → Bool
is_typed_variable v = is_name v.name && list_all is_typed_init v.init

abbrev pub is_typed_size : Size → Bool
is_typed_size (Sizes.Fixed n) = is_u32 n
is_typed_size (Sizes.Arg place) = is_byte place

abbrev pub is_typed_buffer : Buffer → Bool
is_typed_buffer b = is_byte b.arg && is_typed_size b.size

abbrev pub is_typed_sig : Option Sig → Bool
is_typed_sig None = true
is_typed_sig (Some sig) = list_all is_typed_buffer sig.buffers

abbrev pub is_typed_external : External → Bool
is_typed_external e = is_name e.name && is_typed_sig e.sig

abbrev pub is_typed_unit : Unit → Bool
is_typed_unit u =
    is_name u.name
    && list_all is_typed_function u.functions
    && list_all is_typed_variable u.variables
    && list_all is_typed_external u.externals
