-- The program that units make: its keys in their order, and the key that a name means in a unit.
use Rattle.std.specs.Prelude.{ℕ, Bool, true, false, not, ◌&&◌, ◌||◌, ◌==◌, max, List, [], ◌∷◌, ◌++◌, map, filter, fold, position, Option}
use Rattle.std.specs.Prelude.{Some, None, slice_get, if◌then◌else◌}
use Rattle.std.specs.Bool.{beq}
use Rattle.std.specs.List.{list_any, list_all, flat_map, enumerate_from}
use Rattle.std.specs.Option.{option_map_or}
use Rattle.std.specs.Str.{bytes_eq}
use Rattle.asm_syntax.specs.declared.unit.Unit.{Unit}
use Rattle.asm_syntax.specs.declared.instr.Function.{Function}
use Rattle.asm_syntax.specs.declared.unit.Variable.{Variable}
use Rattle.asm_syntax.specs.declared.unit.External.{External}
use Rattle.asm_syntax.specs.declared.unit.Init.{Init}
use Rattle.asm_syntax.specs.declared.unit.Init.TheVariants.{Space}
use Rattle.asm_syntax.specs.Sizes.{init_symbol, variable_size}
use Rattle.asm_syntax.specs.References.{Reference}
use Rattle.asm_syntax.specs.Instructions.{instr_symbol}
use Rattle.link_model.specs.Sets.{first_of_each}

-- what a program is made of: units, and the name of its entry
pub record Program : Type 0 where
  pub units : List Unit
  pub entry : List ℕ

-- ---- declarations

pub data Item : Type 0 where
  OfFunction : Function → Item
  OfVariable : Variable → Item
  OfExternal : External → Item

-- a definition, or an external that is declared, and the number of its unit
pub record Declaration : Type 0 where
  pub unit : ℕ
  pub item : Item

abbrev pub item_name : Item → List ℕ
item_name (OfFunction f) = f.name
item_name (OfVariable x) = x.name
item_name (OfExternal x) = x.name

abbrev pub name_of : Declaration → List ℕ
name_of d = item_name d.item

abbrev pub item_is_static : Item → Bool
item_is_static (OfFunction f) = f.is_static
item_is_static (OfVariable x) = x.is_static
item_is_static (OfExternal x) = false

abbrev pub is_static : Declaration → Bool
is_static d = item_is_static d.item

abbrev pub is_external : Item → Bool
is_external (OfExternal x) = true
is_external _ = false

abbrev pub is_global_definition : Declaration → Bool
is_global_definition d = not (is_external d.item) && not (is_static d)

-- the functions, the variables and the externals of a unit
abbrev pub unit_declarations : ℕ → Unit → List Declaration
unit_declarations u unit =
    map (λ f. record { unit = u; item = OfFunction f }) unit.functions
    ++ (map (λ x. record { unit = u; item = OfVariable x }) unit.variables
    ++ map (λ x. record { unit = u; item = OfExternal x }) unit.externals)

-- those of all units, in the order of the units
unfoldable pub declarations : List Unit → List Declaration
declarations units = flat_map (λ (u : ℕ × Unit). unit_declarations u.0 u.1) (enumerate_from 0 units)

-- ---- references

abbrev pub names_in : Option Reference → List (List ℕ)
names_in None = []
names_in (Some r) = r.name ∷ []

abbrev pub function_names : Function → List (List ℕ)
function_names f = flat_map (λ x. names_in (instr_symbol x)) f.code

abbrev pub variable_names : Variable → List (List ℕ)
variable_names x = flat_map (λ i. names_in (init_symbol i)) x.init

-- the names that a unit refers to: those of functions by instruction, then those of variables by item
abbrev pub names_used : Unit → List (List ℕ)
names_used unit = flat_map function_names unit.functions ++ flat_map variable_names unit.variables

abbrev pub defines : Unit → List ℕ → Bool
defines unit n =
    list_any (λ (f : Function). bytes_eq f.name n) unit.functions || list_any (λ (x : Variable). bytes_eq x.name n) unit.variables

abbrev pub declares : Unit → List ℕ → Bool
declares unit n = list_any (λ (x : External). bytes_eq x.name n) unit.externals

unfoldable pub defines_global : List Unit → List ℕ → Bool
defines_global units n = list_any (λ d. is_global_definition d && bytes_eq (name_of d) n) (declarations units)

-- some unit refers to the external that it declares under this name
unfoldable pub is_referred : List Unit → List ℕ → Bool
is_referred units n =
    list_any (λ unit. list_any (λ m. bytes_eq m n) (names_used unit) && declares unit n && not (defines unit n)) units

-- ---- keys

-- no unit defines the name as global, and some unit refers to it
abbrev pub stays_external : List Unit → List ℕ → Bool
stays_external units n = not (defines_global units n) && is_referred units n

abbrev pub is_key : List Unit → Item → Bool
is_key units (OfExternal x) = stays_external units x.name
is_key units _ = true

-- of one global name, or of one static name of one unit
abbrev pub same_key : Declaration → Declaration → Bool
same_key d e =
    bytes_eq (name_of d) (name_of e) && (if is_static d then is_static e && (d.unit == e.unit) else not (is_static e))

-- the keys in the order of their numbers: a key stands where its first declaration does
unfoldable pub keys : List Unit → List Declaration
keys units = first_of_each same_key [] (filter (λ d. is_key units d.item) (declarations units))

-- ---- what a name means in a unit

abbrev pub is_static_named : ℕ → List ℕ → Declaration → Bool
is_static_named u n d = bytes_eq (name_of d) n && is_static d && (d.unit == u)

abbrev pub is_global_named : List ℕ → Declaration → Bool
is_global_named n d = bytes_eq (name_of d) n && not (is_static d)

abbrev pub unit_declares : List Unit → ℕ → List ℕ → Bool
unit_declares units u n = option_map_or (λ unit. declares unit n) (slice_get units u) false

-- the number of the key: the unit's own definition, else a global one, else the external that the unit declares
unfoldable pub resolve : List Unit → ℕ → List ℕ → Option ℕ
resolve units u n =
    if list_any (is_static_named u n) (declarations units) then position (is_static_named u n) (keys units)
    else if defines_global units n || unit_declares units u n then position (is_global_named n) (keys units)
    else None

-- ---- common variables

abbrev pub is_space : Init → Bool
is_space (Space n) = true
is_space _ = false

-- two global variables of one name that are one key
abbrev pub joins : Item → Item → Bool
joins (OfVariable x) (OfVariable y) =
    list_all is_space x.init && list_all is_space y.init
    && (variable_size x.init == variable_size y.init) && beq x.writable y.writable
joins _ _ = false

abbrev pub item_alignment : Item → ℕ
item_alignment (OfVariable x) = x.align
item_alignment _ = 1

-- the greatest alignment of the definitions that are one key
unfoldable pub key_alignment : List Unit → Declaration → ℕ
key_alignment units d = fold (λ a e. max a (item_alignment e.item)) 1 (filter (same_key d) (declarations units))
