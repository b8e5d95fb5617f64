-- The blocks that variables have at first.
use Rattle.std.specs.Prelude.{ℕ, ◌+◌, ◌%◌, ◌==◌, ℤ, false, if◌then◌else◌, List, [], ◌∷◌, ◌++◌, map, filter, reverse}
use Rattle.std.specs.List.{enumerate_from}
use Rattle.asm_syntax.specs.declared.unit.Init.{Init}
use Rattle.asm_syntax.specs.declared.unit.Init.TheVariants.{Addr}
use Rattle.asm_syntax.specs.declared.unit.Unit.{Unit}
use Rattle.asm_syntax.specs.Sizes.{init_size}
use Rattle.code_model.specs.Variables.{init_bytes}
use Rattle.link_model.specs.Numbers.{is_variable}
use Rattle.link_model.specs.Program.{Declaration, Item, OfVariable, keys}
use Rattle.asm_mem.specs.declared.value.Val.{Val}
use Rattle.asm_mem.specs.declared.cell.Cell.{Cell}
use Rattle.asm_mem.specs.declared.cell.Cell.TheVariants.{Byte}
use Rattle.asm_mem.specs.Blocks.{Live, new_block}
use Rattle.asm_mem.specs.Cells.{cells_of, empty_word}
use Rattle.asm_values.specs.Operands.{symbol_value}
use Rattle.asm_machine.specs.Executables.{key_kinds, key_meant}

-- four parts of a value at a multiple of four, and empty cells elsewhere
abbrev pub address_cells : ℕ → Val → List Cell
address_cells o v = if o % 4 == 0 then cells_of 4 v else empty_word

-- of an item at an offset: the bytes that it has in an image, or the value of a symbol with an offset
abbrev pub init_cells : (List ℕ → ℤ → Val) → ℕ → Init → List Cell
init_cells value_of o (Addr name offset) = address_cells o (value_of name offset)
init_cells value_of o item = map Byte (init_bytes (λ n. 0) item)

-- of items from an offset on, joined
abbrev pub cells_from : (List ℕ → ℤ → Val) → ℕ → List Init → List Cell
cells_from value_of o [] = []
cells_from value_of o (item ∷ items) = init_cells value_of o item ++ cells_from value_of (o + init_size item) items

-- the value of the symbol that a name means in unit u, with an offset
abbrev pub named_value : List Unit → ℕ → List ℕ → ℤ → Val
named_value units u name offset = symbol_value (key_kinds units) (key_meant units u name) offset 0

-- of the variable with the number v, in unit u
abbrev pub item_block : List Unit → ℕ → ℕ → Item → Live
item_block units v u (OfVariable x) = record { number = v; writable = x.writable; cells = cells_from (named_value units u) 0 x.init }
item_block units v u _ = new_block v 0 false

abbrev pub variable_block : List Unit → ℕ × Declaration → Live
variable_block units d = item_block units d.0 d.1.unit d.1.item

-- of variables in the order of their numbers, the last first
unfoldable pub variable_blocks : List Unit → List Declaration → List Live
variable_blocks units ds = reverse (map (variable_block units) (enumerate_from 0 ds))

-- the keys that are variables, in the order of their numbers
unfoldable pub variable_keys : List Unit → List Declaration
variable_keys units = filter (λ (d : Declaration). is_variable d.item) (keys units)
