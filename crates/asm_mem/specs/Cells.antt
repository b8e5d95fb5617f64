-- Cells, and the values that they stand for together, the highest byte first.
use Rattle.std.specs.Prelude.{ℕ, ◌+◌, ◌*◌, ◌/◌, ◌%◌, ◌&&◌, ◌==◌, if◌then◌else◌, List, [], ◌∷◌, Option, Some, None}
use Rattle.asm_mem.specs.declared.value.Val.{Val}
use Rattle.asm_mem.specs.declared.value.Val.TheVariants.{Undef, Int}
use Rattle.asm_mem.specs.declared.cell.Cell.{Cell}
use Rattle.asm_mem.specs.declared.cell.Cell.TheVariants.{Nothing, Byte, Part}
use Rattle.asm_mem.specs.Values.{same_val}

-- ---- what cells stand for

abbrev pub byte_word : Cell → Val
byte_word (Byte a) = Int a
byte_word _ = Undef

abbrev pub half_word : Cell → Cell → Val
half_word (Byte a) (Byte b) = Int (a * 256 + b)
half_word _ _ = Undef

abbrev pub bytes_word : ℕ → ℕ → ℕ → ℕ → Val
bytes_word a b c d = Int (a * 16777216 + b * 65536 + c * 256 + d)

-- four bytes, and no parts
abbrev pub four_bytes : Cell → Cell → Cell → Cell → Val
four_bytes (Byte a) (Byte b) (Byte c) (Byte d) = bytes_word a b c d
four_bytes _ _ _ _ = Undef

-- four bytes are a word, the four parts of one value in their order are that value, and all else is none
abbrev pub joined : Cell → Cell → Cell → Cell → Val
joined (Byte a) (Byte b) (Byte c) (Byte d) = bytes_word a b c d
joined (Part u i) (Part v j) (Part w k) (Part x l) =
    if i == 0 && j == 1 && k == 2 && l == 3 && same_val u v && same_val u w && same_val u x then u else Undef
joined _ _ _ _ = Undef

-- the byte in a cell
abbrev pub byte_in : Cell → Option ℕ
byte_in (Byte a) = Some a
byte_in _ = None

-- ---- the cells that a value is stored in

-- a byte, or nothing
abbrev pub byte_cell : Option ℕ → Cell
byte_cell (Some a) = Byte a
byte_cell None = Nothing

-- part j of a value: a byte of a word
abbrev pub part_of : Val → ℕ → Cell
part_of (Int n) j =
    Byte (if j == 0 then n / 16777216 % 256 else if j == 1 then n / 65536 % 256 else if j == 2 then n / 256 % 256 else n % 256)
part_of v j = Part v j

-- the byte of a word that counts so many, and of another value none
abbrev pub low_byte : Val → ℕ → Option ℕ
low_byte (Int n) m = Some (n / m % 256)
low_byte _ m = None

abbrev pub low_cell : Val → ℕ → Cell
low_cell v m = byte_cell (low_byte v m)

-- 4, 2 or 1 of them
abbrev pub cells_of : ℕ → Val → List Cell
cells_of w v =
    if w == 4 then part_of v 0 ∷ part_of v 1 ∷ part_of v 2 ∷ part_of v 3 ∷ []
    else if w == 2 then low_cell v 256 ∷ low_cell v 1 ∷ []
    else low_cell v 1 ∷ []

-- with the lowest byte first
abbrev pub reversed_cells : ℕ → Val → List Cell
reversed_cells w v =
    if w == 4 then low_cell v 1 ∷ low_cell v 256 ∷ low_cell v 65536 ∷ low_cell v 16777216 ∷ []
    else if w == 2 then low_cell v 1 ∷ low_cell v 256 ∷ []
    else low_cell v 1 ∷ []

-- four empty cells
abbrev pub empty_word : List Cell
empty_word = Nothing ∷ Nothing ∷ Nothing ∷ Nothing ∷ []
