-- Blocks of memory, the newest first: what is loaded, stored, made and freed.
use Rattle.std.specs.Prelude.{ℕ, zero, suc, ◌+◌, ◌%◌, Bool, false, ◌&&◌, ◌||◌, ◌==◌, nat_le, if◌then◌else◌, List, [], ◌∷◌, length, map}
use Rattle.std.specs.Prelude.{replicate, drop, slice_index_or, slice_set, Option, Some, None, find, option_map, option_and_then}
use Rattle.asm_mem.specs.declared.value.Val.{Val}
use Rattle.asm_mem.specs.declared.value.Val.TheVariants.{Ptr}
use Rattle.asm_mem.specs.declared.cell.Cell.{Cell}
use Rattle.asm_mem.specs.declared.cell.Cell.TheVariants.{Nothing, Byte}
use Rattle.asm_mem.specs.Cells.{joined, four_bytes, half_word, byte_word, byte_in, byte_cell, cells_of, reversed_cells, empty_word}

-- a live block
pub record Live : Type 0 where
  pub number : ℕ
  pub writable : Bool
  pub cells : List Cell

-- the live blocks, and the number of the next
pub record Memory : Type 0 where
  pub live : List Live
  pub next : ℕ

abbrev pub has : ℕ → Live → Bool
has b k = k.number == b

-- how many bytes an access has
abbrev pub is_width : ℕ → Bool
is_width w = w == 1 || w == 2 || w == 4

-- ---- one block

abbrev pub cell : Live → ℕ → Cell
cell k o = slice_index_or k.cells o Nothing

-- what so many cells from an offset on stand for
abbrev pub value_at : Live → ℕ → ℕ → Val
value_at k w o =
    if w == 4 then joined (cell k o) (cell k (o + 1)) (cell k (o + 2)) (cell k (o + 3))
    else if w == 2 then half_word (cell k o) (cell k (o + 1))
    else byte_word (cell k o)

-- with the lowest byte first
abbrev pub reversed_at : Live → ℕ → ℕ → Val
reversed_at k w o =
    if w == 4 then four_bytes (cell k (o + 3)) (cell k (o + 2)) (cell k (o + 1)) (cell k o)
    else if w == 2 then half_word (cell k (o + 1)) (cell k o)
    else byte_word (cell k o)

-- an aligned access inside the block
abbrev pub may_read : Live → ℕ → ℕ → Bool
may_read k w o = o % w == 0 && nat_le (o + w) (length k.cells)

abbrev pub read_block : Live → ℕ → ℕ → Option Val
read_block k w o = if may_read k w o then Some (value_at k w o) else None

abbrev pub read_reversed : Live → ℕ → ℕ → Option Val
read_reversed k w o = if may_read k w o then Some (reversed_at k w o) else None

abbrev pub set_cell : Live → ℕ → Cell → Live
set_cell k o c = record k { cells = slice_set k.cells o c }

-- cells from an offset on; those past the end are lost
abbrev pub set_cells : Live → ℕ → List Cell → Live
set_cells k o [] = k
set_cells k o (c ∷ cs) = set_cells (set_cell k o c) (o + 1) cs

abbrev pub write_block : Live → ℕ → ℕ → Val → Live
write_block k w o v = set_cells k o (cells_of w v)

abbrev pub write_reversed : Live → ℕ → ℕ → Val → Live
write_reversed k w o v = set_cells k o (reversed_cells w v)

abbrev pub new_block : ℕ → ℕ → Bool → Live
new_block number size writable = record { number = number; writable = writable; cells = replicate size Nothing }

-- ---- all blocks

-- a block's size, and whether it can be stored to
abbrev pub room : List Live → ℕ → Option (ℕ × Bool)
room live b = option_map (λ k. (length k.cells, k.writable)) (find (has b) live)

abbrev pub load : List Live → ℕ → Val → Option Val
load live w (Ptr b o) = option_and_then (λ k. read_block k w o) (find (has b) live)
load live w _ = None

abbrev pub load_reversed : List Live → ℕ → Val → Option Val
load_reversed live w (Ptr b o) = option_and_then (λ k. read_reversed k w o) (find (has b) live)
load_reversed live w _ = None

abbrev pub may_write_found : Option Live → ℕ → ℕ → Bool
may_write_found None w o = false
may_write_found (Some k) w o = k.writable && may_read k w o

abbrev pub may_store : List Live → ℕ → Val → Bool
may_store live w (Ptr b o) = may_write_found (find (has b) live) w o
may_store live w _ = false

-- the block of a number is changed
abbrev pub update : ℕ → (Live → Live) → List Live → List Live
update b f [] = []
update b f (k ∷ rest) = if has b k then f k ∷ rest else k ∷ update b f rest

abbrev pub stored : List Live → ℕ → Val → Val → List Live
stored live w (Ptr b o) v = update b (λ k. write_block k w o v) live
stored live w _ v = live

abbrev pub stored_reversed : List Live → ℕ → Val → Val → List Live
stored_reversed live w (Ptr b o) v = update b (λ k. write_reversed k w o v) live
stored_reversed live w _ v = live

-- ---- the same whatever the write flag

-- a whole value
abbrev pub written : List Live → ℕ → ℕ → Val → List Live
written live b o v = update b (λ k. write_block k 4 o v) live

-- one cell becomes a byte, or nothing
abbrev pub with_byte : List Live → ℕ → ℕ → Option ℕ → List Live
with_byte live b o x = update b (λ k. set_cell k o (byte_cell x)) live

-- cells from an offset on become bytes
abbrev pub with_bytes : List Live → ℕ → ℕ → List ℕ → List Live
with_bytes live b o xs = update b (λ k. set_cells k o (map Byte xs)) live

-- four cells become empty
abbrev pub emptied : List Live → ℕ → ℕ → List Live
emptied live b o = update b (λ k. set_cells k o empty_word) live

-- the byte at a place, where there is one
abbrev pub byte_at : List Live → ℕ → ℕ → Option ℕ
byte_at live b o = option_and_then (λ k. byte_in (cell k o)) (find (has b) live)

-- ---- by age

-- the number of the newest block but i
abbrev pub newest : List Live → ℕ → Option ℕ
newest [] i = None
newest (k ∷ rest) zero = Some k.number
newest (k ∷ rest) (suc i) = newest rest i

-- the number of the newest block
abbrev pub top : List Live → ℕ
top [] = 0
top (k ∷ rest) = k.number

-- how many cells all live blocks have together
abbrev pub total : List Live → ℕ
total [] = 0
total (k ∷ rest) = length k.cells + total rest

-- how many cells a live block and all older ones have together
abbrev pub total_from : ℕ → List Live → Option ℕ
total_from b [] = None
total_from b (k ∷ rest) = if has b k then Some (total (k ∷ rest)) else total_from b rest

abbrev pub pushed : Memory → ℕ → Bool → Memory
pushed m size writable = record { live = new_block m.next size writable ∷ m.live; next = m.next + 1 }

abbrev pub popped : Memory → Memory
popped m = record m { live = drop 1 m.live }

-- where the EABI lets a callee save LR, at 4 in the newest block, four cells become empty
abbrev pub forget : List Live → List Live
forget live = update (top live) (λ k. set_cells k 4 empty_word) live
