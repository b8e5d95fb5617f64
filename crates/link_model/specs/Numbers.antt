-- The keys of a program by their kinds. Functions, variables and externals are each numbered from 0, in the order of the keys.
use Rattle.std.specs.Prelude.{ℕ, Bool, true, false, not, ◌&&◌, List, [], ◌∷◌, length, map, filter, take, position, Option, slice_get}
use Rattle.std.specs.Prelude.{option_map}
use Rattle.std.specs.List.{flat_map, enumerate_from}
use Rattle.std.specs.Option.{option_map_or}
use Rattle.std.specs.Str.{bytes_eq}
use Rattle.asm_syntax.specs.declared.unit.Unit.{Unit}
use Rattle.asm_syntax.specs.declared.instr.Function.{Function}
use Rattle.asm_syntax.specs.declared.unit.Variable.{Variable}
use Rattle.asm_syntax.specs.declared.unit.External.{External}
use Rattle.link_model.specs.declared.key.KeyKind.{KeyKind}
use Rattle.link_model.specs.declared.key.KeyKind.TheVariants as kinds
use Rattle.link_model.specs.Program.{Item, OfFunction, OfVariable, OfExternal, Declaration, is_external, keys}

abbrev pub unit_name : List Unit → ℕ → List ℕ
unit_name units u = option_map_or (λ (unit : Unit). unit.name) (slice_get units u) []

-- ---- the functions, the variables and the externals

abbrev pub is_function : Item → Bool
is_function (OfFunction f) = true
is_function _ = false

abbrev pub is_variable : Item → Bool
is_variable (OfVariable x) = true
is_variable _ = false

abbrev pub item_functions : Item → List Function
item_functions (OfFunction f) = f ∷ []
item_functions _ = []

abbrev pub item_variables : Item → List Variable
item_variables (OfVariable x) = x ∷ []
item_variables _ = []

abbrev pub item_externals : Item → List External
item_externals (OfExternal x) = x ∷ []
item_externals _ = []

unfoldable pub functions : List Unit → List Function
functions units = flat_map (λ d. item_functions d.item) (keys units)

unfoldable pub variables : List Unit → List Variable
variables units = flat_map (λ d. item_variables d.item) (keys units)

unfoldable pub externals : List Unit → List External
externals units = flat_map (λ d. item_externals d.item) (keys units)

-- ---- numbers of keys

-- the numbers of the keys of a kind
abbrev pub numbers_of : (Item → Bool) → List Unit → List ℕ
numbers_of is_kind units = map (λ k. k.0) (filter (λ (k : ℕ × Declaration). is_kind k.1.item) (enumerate_from 0 (keys units)))

-- the key of a kind and a number
unfoldable pub key_of : List Unit → KeyKind → Option ℕ
key_of units (kinds.Function n) = slice_get (numbers_of is_function units) n
key_of units (kinds.Variable n) = slice_get (numbers_of is_variable units) n
key_of units (kinds.External n) = slice_get (numbers_of is_external units) n

-- how many keys of a kind come before the key k
abbrev pub number_before : (Item → Bool) → List Unit → ℕ → ℕ
number_before is_kind units k = length (filter (λ (d : Declaration). is_kind d.item) (take k (keys units)))

abbrev pub item_kind : List Unit → ℕ → Item → KeyKind
item_kind units k (OfFunction f) = kinds.Function (number_before is_function units k)
item_kind units k (OfVariable x) = kinds.Variable (number_before is_variable units k)
item_kind units k (OfExternal x) = kinds.External (number_before is_external units k)

-- the kind and the number of a key
unfoldable pub kind_of : List Unit → ℕ → Option KeyKind
kind_of units k = option_map (λ (d : Declaration). item_kind units k d.item) (slice_get (keys units) k)

-- ---- the entry

-- the global function of this name
abbrev pub is_entry : List ℕ → Item → Bool
is_entry entry (OfFunction f) = not f.is_static && bytes_eq f.name entry
is_entry entry _ = false

unfoldable pub entry_key : List Unit → List ℕ → Option ℕ
entry_key units entry = position (λ (d : Declaration). is_entry entry d.item) (keys units)
