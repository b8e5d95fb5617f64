-- The ranges of operands. Power ISA 2.07, Book I, "Instruction Fields" and "Branch Instructions".
use Rattle.std.specs.Prelude.{ℕ, ◌-◌, ◌%◌, ◌^◌, ℤ, pos, negsuc, Bool, ◌&&◌, ◌||◌, nat_lt, ◌==◌, int_le, unsigned_abs}

abbrev pub is_register : ℕ → Bool
is_register n = nat_lt n 32

-- a bit of a word or of the condition register
abbrev pub is_bit_number : ℕ → Bool
is_bit_number n = nat_lt n 32

-- a field of the condition register
abbrev pub is_cr_field : ℕ → Bool
is_cr_field n = nat_lt n 8

-- an immediate of 16 bits with a sign
abbrev pub is_s16 : ℤ → Bool
is_s16 z = int_le (negsuc 32767) z && int_le z (pos 32767)

-- an immediate of 16 bits without a sign
abbrev pub is_u16 : ℤ → Bool
is_u16 z = int_le (pos 0) z && int_le z (pos 65535)

-- a multiple of 4 that is a number of n bits with a sign
abbrev pub is_displacement : ℕ → ℤ → Bool
is_displacement n z =
    int_le (negsuc (2 ^ (n - 1) - 1)) z && int_le z (pos (2 ^ (n - 1) - 1)) && unsigned_abs z % 4 == 0

-- BO and BI of the branches in use: where a bit is 0, where it is 1, and bdnz, whose BI is 0. "Branch Instructions"
abbrev pub is_branch_option : ℕ → ℕ → Bool
is_branch_option bo bi = bo == 4 || bo == 12 || (bo == 16 && bi == 0)
