-- Numbers and parts of a list of bytes, by their places.
-- System V gABI, "Data Representation", with ELFDATA2MSB.
use Rattle.std.specs.Prelude.{◌<◌, ℕ, ◌+◌, ◌*◌, Bool, nat_le, List, length, take, drop, slice_index, All}

abbrev pub AreBytes : List ℕ → Type 0
AreBytes numbers = All (λ n. n < 256) numbers

-- the big-endian number of two bytes at a place
unfoldable pub half : List ℕ → ℕ → ℕ
half bytes at = 256 * slice_index bytes at + slice_index bytes (at + 1)

-- the big-endian number of four bytes at a place
unfoldable pub word : List ℕ → ℕ → ℕ
word bytes at = 65536 * half bytes at + half bytes (at + 2)

-- the n bytes at a place
abbrev pub part : List ℕ → ℕ → ℕ → List ℕ
part bytes at n = take n (drop at bytes)

-- n bytes at a place lie in the list
abbrev pub lies_in : List ℕ → ℕ → ℕ → Bool
lies_in bytes at n = nat_le (at + n) (length bytes)
