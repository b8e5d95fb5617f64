-- Loads and stores of each form.
use Rattle.std.specs.Prelude.{ℕ, Bool, if◌then◌else◌, List, Option, Some, None, find, option_and_then}
use Rattle.isa_model.specs.Word.{sext16}
use Rattle.effect_model.specs.declared.Form.{Form}
use Rattle.effect_model.specs.declared.Form.TheVariants.{Word, Half, Byte, SignedHalf, ReversedWord, ReversedHalf}
use Rattle.effect_model.specs.Forms.{width}
use Rattle.asm_mem.specs.declared.value.Val.{Val}
use Rattle.asm_mem.specs.declared.value.Val.TheVariants.{Undef, Int, Ptr}
use Rattle.asm_mem.specs.declared.cell.Cell.{Cell}
use Rattle.asm_mem.specs.Cells.{cells_of, reversed_cells}
use Rattle.asm_mem.specs.Blocks.{Live, has, value_at, reversed_at, may_read, may_store, set_cells, update}

-- a function of a word; another value gives none
abbrev pub changed : (ℕ → ℕ) → Val → Val
changed f (Int n) = Int (f n)
changed f _ = Undef

-- what a load reads at an offset
abbrev pub value_by : Form → Live → ℕ → Val
value_by Word k o = value_at k 4 o
value_by Half k o = value_at k 2 o
value_by Byte k o = value_at k 1 o
value_by SignedHalf k o = changed sext16 (value_at k 2 o)
value_by ReversedWord k o = reversed_at k 4 o
value_by ReversedHalf k o = reversed_at k 2 o

-- the cells that a store writes
abbrev pub cells_by : Form → Val → List Cell
cells_by Word v = cells_of 4 v
cells_by Half v = cells_of 2 v
cells_by Byte v = cells_of 1 v
cells_by SignedHalf v = cells_of 2 v
cells_by ReversedWord v = reversed_cells 4 v
cells_by ReversedHalf v = reversed_cells 2 v

abbrev pub read_by : Form → ℕ → Live → Option Val
read_by form o k = if may_read k (width form) o then Some (value_by form k o) else None

-- None where the access is undefined
abbrev pub load_by : List Live → Form → Val → Option Val
load_by live form (Ptr b o) = option_and_then (read_by form o) (find (has b) live)
load_by live form _ = None

abbrev pub stored_by : List Live → Form → Val → Val → List Live
stored_by live form (Ptr b o) v = update b (λ k. set_cells k o (cells_by form v)) live
stored_by live form _ v = live

-- the access of a store is defined
abbrev pub may_store_by : List Live → Form → Val → Bool
may_store_by live form at = may_store live (width form) at
