-- Changes of one block.
use Rattle.std.specs.Prelude.{◌≡◌, ◌%◌, ℕ, IsTrue, List, [], ◌∷◌}
use Rattle.asm_mem.specs.declared.cell.Cell.{Cell}
use Rattle.asm_mem.specs.declared.block.Edit.{Edit}
use Rattle.asm_mem.specs.declared.block.Edit.TheVariants.{Write, WriteReversed, Set, Empty}
use Rattle.asm_mem.specs.Cells.{byte_cell, cells_of, empty_word, reversed_cells}
use Rattle.asm_mem.specs.Blocks.{Live, is_width, set_cells}

-- where the changed cells begin
abbrev pub offset_of : Edit → ℕ
offset_of (Write w o v) = o
offset_of (WriteReversed w o v) = o
offset_of (Set o b) = o
offset_of (Empty o) = o

-- and what they become
abbrev pub edit_cells : Edit → List Cell
edit_cells (Write w o v) = cells_of w v
edit_cells (WriteReversed w o v) = reversed_cells w v
edit_cells (Set o b) = byte_cell b ∷ []
edit_cells (Empty o) = empty_word

abbrev pub edited : Edit → Live → Live
edited e k = set_cells k (offset_of e) (edit_cells e)

-- a value is written at a multiple of the width
abbrev pub IsPlaced : Edit → Type 0
IsPlaced (Write w o v) = IsTrue (is_width w) × (o % w ≡ 0)
IsPlaced _ = Unit {0}
