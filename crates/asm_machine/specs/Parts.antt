-- What stands of an executable, and of the blocks of variables, after some of the keys.
use Rattle.std.specs.Prelude.{◌≡◌, ℕ, suc, Bool, List, ◌∷◌, length, map, take, if◌then◌else◌}
use Rattle.std.specs.List.{enumerate_from}
use Rattle.asm_syntax.specs.declared.unit.Unit.{Unit}
use Rattle.link_model.specs.declared.key.KeyKind.{KeyKind}
use Rattle.link_model.specs.declared.key.KeyKind.TheVariants as kinds
use Rattle.link_model.specs.Numbers.{is_function, is_variable, number_before}
use Rattle.asm_mem.specs.Blocks.{Memory}
use Rattle.asm_mem.specs.Order.{Below}
use Rattle.link_model.specs.Program.{Declaration, Item, OfFunction, OfVariable, OfExternal, is_external, keys}
use Rattle.asm_machine.specs.Executables.{key_kind}
use Rattle.asm_machine.specs.Variables.{item_block, variable_blocks}
use Rattle.asm_machine.specs.declared.executable.KindTable.{KindTable}

abbrev pub one_if : Bool → ℕ
one_if b = if b then 1 else 0

-- the kind of the key that comes next
abbrev pub next_kind : KindTable → Item → KeyKind
next_kind t (OfFunction f) = kinds.Function t.functions
next_kind t (OfVariable x) = kinds.Variable t.variables
next_kind t (OfExternal x) = kinds.External t.externals

-- after the first n keys
pub record HasKinds (units : List Unit) (n : ℕ) (t : KindTable) : Type 0 where
  pub kinds : t.kinds.items ≡ map (key_kind units) (enumerate_from 0 (take n (keys units)))
  pub functions : t.functions ≡ number_before is_function units n
  pub variables : t.variables ≡ number_before is_variable units n
  pub externals : t.externals ≡ number_before is_external units n

-- with the block of a key that is a variable of unit u
abbrev pub with_item : List Unit → Memory → ℕ → Item → Memory
with_item units m u (OfVariable x) = record { live = item_block units m.next u (OfVariable x) ∷ m.live; next = suc m.next }
with_item units m u _ = m

-- the blocks of these variables, and no others
pub record HasVariables (units : List Unit) (ds : List Declaration) (m : Memory) : Type 0 where
  pub live : m.live ≡ variable_blocks units ds
  pub next : m.next ≡ length ds
  pub below : Below m.next m.live
