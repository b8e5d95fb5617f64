-- The forms of instruction words, and displacements as their fields have them. Power ISA 2.07, Book I, "Instruction Formats".
use Rattle.std.specs.Prelude.{ℕ, ◌+◌, ◌-◌, ◌*◌, ◌/◌, ◌%◌, ◌^◌, ℤ, pos, negsuc, nat_lt, if◌then◌else◌}
use Rattle.std.specs.Int.{cast_unsigned, w32}

-- a primary opcode, two fields of five bits, and 16 bits
unfoldable pub d_form : ℕ → ℕ → ℕ → ℕ → ℕ
d_form opcode x y low = opcode * 2 ^ 26 + x * 2 ^ 21 + y * 2 ^ 16 + low

-- a primary opcode, three fields of five bits, and 11 bits
unfoldable pub x_form : ℕ → ℕ → ℕ → ℕ → ℕ → ℕ
x_form opcode x y z low = opcode * 2 ^ 26 + x * 2 ^ 21 + y * 2 ^ 16 + z * 2 ^ 11 + low

-- the low 11 bits of an X-, XO- or XL-form: ten bits of opcode, and the bit Rc or LK
abbrev pub extended : ℕ → ℕ → ℕ
extended opcode last = 2 * opcode + last

-- M-form: the numbers of a shift and of the ends of a mask
abbrev pub m_form : ℕ → ℕ → ℕ → ℕ → ℕ → ℕ → ℕ
m_form opcode x y sh mb me = x_form opcode x y sh (64 * mb + 2 * me)

-- XFX-form of a special register's number, whose two halves of five bits are exchanged
abbrev pub xfx_form : ℕ → ℕ → ℕ → ℕ
xfx_form x spr opcode = x_form 31 x (spr % 32) (spr / 32) (extended opcode 0)

-- I-form, AA is 0: a primary opcode, 26 bits of displacement, and the bit LK
unfoldable pub i_form : ℕ → ℕ → ℕ → ℕ
i_form opcode displacement lk = opcode * 2 ^ 26 + displacement + lk

-- the low n bits of a number with a sign
abbrev pub low_bits : ℕ → ℤ → ℕ
low_bits n z = cast_unsigned w32 z % 2 ^ n

-- the first six bits of a word
abbrev pub primary_opcode : ℕ → ℕ
primary_opcode word = word / 2 ^ 26

-- n bits as a number with a sign
abbrev pub signed : ℕ → ℕ → ℤ
signed n x = if nat_lt x (2 ^ (n - 1)) then pos x else negsuc (2 ^ n - 1 - x)

-- the displacement in a branch's word, of n bits with the two that stand for AA and LK, or AA and Rc, as zeros
abbrev pub displacement_in : ℕ → ℕ → ℤ
displacement_in n word = signed n (word % 2 ^ n - word % 4)

-- the displacement from one address to another, cut to a field of n bits: where it does not fit, what is left of it
unfoldable pub displacement_between : ℕ → ℕ → ℕ → ℤ
displacement_between n at target = displacement_in n (target + (2 ^ 32 - at % 2 ^ 32))
