-- The keys by their kinds.
use Rattle.std.specs.Prelude.{◌<◌, ℕ, Bool, List, length, map, filter, take, Option, slice_get, option_map}
use Rattle.std.specs.List.{enumerate_from}
use Rattle.asm_syntax.specs.declared.instr.Function.{Function}
use Rattle.asm_syntax.specs.declared.unit.Variable.{Variable}
use Rattle.asm_syntax.specs.declared.unit.External.{External}
use Rattle.asm_syntax.specs.declared.unit.Unit.{Unit}
use Rattle.link_model.specs.declared.key.KeyKind.{KeyKind}
use Rattle.link_model.specs.declared.key.KeyKind.TheVariants as kinds
use Rattle.link_model.specs.Program.{Item, OfFunction, OfVariable, OfExternal, Declaration, is_external}
use Rattle.link_model.specs.Numbers.{is_function, is_variable, functions, variables, externals}
use Rattle.linked_program.specs.declared.kinds.FunctionKey.{FunctionKey}
use Rattle.linked_program.specs.declared.kinds.VariableKey.{VariableKey}
use Rattle.linked_program.specs.declared.kinds.ExternalKey.{ExternalKey}

abbrev pub function_of : FunctionKey → Function
function_of f = f.function.now

abbrev pub variable_of : VariableKey → Variable
variable_of x = x.variable.now

abbrev pub external_of : ExternalKey → External
external_of x = x.external.now

abbrev pub function_key : FunctionKey → ℕ
function_key f = f.key

abbrev pub variable_key : VariableKey → ℕ
variable_key x = x.key

abbrev pub external_key : ExternalKey → ℕ
external_key x = x.key

-- the numbers of the keys of a kind
abbrev pub key_numbers : (Item → Bool) → List Declaration → List ℕ
key_numbers is_kind ks = map (λ k. k.0) (filter (λ (k : ℕ × Declaration). is_kind k.1.item) (enumerate_from 0 ks))

-- how many of a kind come before the key k
abbrev pub count_before : (Item → Bool) → List Declaration → ℕ → ℕ
count_before is_kind ks k = length (filter (λ (d : Declaration). is_kind d.item) (take k ks))

abbrev pub item_kind_in : List Declaration → ℕ → Item → KeyKind
item_kind_in ks k (OfFunction f) = kinds.Function (count_before is_function ks k)
item_kind_in ks k (OfVariable x) = kinds.Variable (count_before is_variable ks k)
item_kind_in ks k (OfExternal x) = kinds.External (count_before is_external ks k)

abbrev pub kind_in : List Declaration → ℕ → Option KeyKind
kind_in ks k = option_map (λ (d : Declaration). item_kind_in ks k d.item) (slice_get ks k)

-- the number in it is below the count of its kind
abbrev pub IsNumber : List Unit → KeyKind → Type 0
IsNumber units (kinds.Function n) = n < length (functions units)
IsNumber units (kinds.Variable n) = n < length (variables units)
IsNumber units (kinds.External n) = n < length (externals units)
