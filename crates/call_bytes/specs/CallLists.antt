-- The lists of bytes that a call reads, kept one behind another.
use Rattle.std.specs.Prelude.{ℕ, ◌+◌, Bool, false, ◌&&◌, nat_le, nat_lt, if◌then◌else◌, List, [], ◌∷◌, ◌++◌, length, take, drop}
use Rattle.limits.specs.declared.TheConstants.{MOST_BUFFERS, MOST_BUFFER_BYTES, MOST_CALL_BYTES}

-- bytes cut into lists of these lengths
abbrev pub cut : List ℕ → List ℕ → List (List ℕ)
cut [] bytes = []
cut (n ∷ lengths) bytes = take n bytes ∷ cut lengths (drop n bytes)

abbrev pub total : List ℕ → ℕ
total [] = 0
total (n ∷ lengths) = n + total lengths

-- how many bytes lists have together
abbrev pub bytes_in : List (List ℕ) → ℕ
bytes_in [] = 0
bytes_in (list ∷ lists) = length list + bytes_in lists

-- a byte more in the last list
abbrev pub add_last : List (List ℕ) → ℕ → List (List ℕ)
add_last [] byte = []
add_last (list ∷ []) byte = (list ++ byte ∷ []) ∷ []
add_last (list ∷ next ∷ lists) byte = list ∷ add_last (next ∷ lists) byte

-- an empty list more, where there are fewer than eight
abbrev pub opened : List (List ℕ) → List (List ℕ)
opened lists = if nat_lt (length lists) MOST_BUFFERS then lists ++ [] ∷ [] else lists

-- a byte more, where there is a list and room
abbrev pub more : List (List ℕ) → ℕ → List (List ℕ)
more lists byte = if nat_lt 0 (length lists) && nat_lt (bytes_in lists) MOST_CALL_BYTES then add_last lists byte else lists

-- each list is at most as long as a buffer, and the last has room for a byte
abbrev pub has_room : List (List ℕ) → Bool
has_room [] = false
has_room (list ∷ []) = nat_lt (length list) MOST_BUFFER_BYTES
has_room (list ∷ next ∷ lists) = nat_le (length list) MOST_BUFFER_BYTES && has_room (next ∷ lists)
