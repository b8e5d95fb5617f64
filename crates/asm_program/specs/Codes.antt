-- A number made of the bytes of a name, and the order that begins with it.
use Rattle.std.specs.Prelude.{ℕ, ◌+◌, ◌*◌, ◌%◌, ◌^◌, List, fold}
use Rattle.std.specs.declared.cmp.Ordering.{Ordering}
use Rattle.std.specs.Cmp.Lexicographic.{slice_cmp}
use Rattle.std.specs.Ordering.{nat_cmp, ordering_then}

-- the code of a name with one more byte
abbrev pub with_byte : ℕ → ℕ → ℕ
with_byte code byte = ((code * 0x100000001b3) % 2 ^ 64 + byte) % 2 ^ 64

abbrev pub name_code : List ℕ → ℕ
name_code name = fold with_byte 0 name

-- names with their codes
abbrev pub by_code_and_name : ℕ → List ℕ → ℕ → List ℕ → Ordering
by_code_and_name c m d n = ordering_then (nat_cmp c d) (slice_cmp nat_cmp m n)

abbrev pub by_code : List ℕ → List ℕ → Ordering
by_code m n = by_code_and_name (name_code m) m (name_code n) n
