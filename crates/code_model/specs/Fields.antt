-- The fields of a word that the linker fills in: RA, and SI or D. Power ISA 2.07, "Instruction Formats".
use Rattle.std.specs.Prelude.{ℕ, ◌+◌, ◌/◌, ◌%◌, ◌^◌, ℤ}
use Rattle.std.specs.Int.{cast_unsigned, w32}
use Rattle.isa_model.specs.Word.{wrapped, lo}
use Rattle.isa_model.specs.Forms.{signed}

-- RA, the base register
abbrev pub base_field : ℕ → ℕ
base_field w = w / 2 ^ 16 % 32

-- a half as a number with a sign
abbrev pub short : ℕ → ℤ
short half = signed 16 half

-- SI or D, the low half
abbrev pub half_field : ℕ → ℤ
half_field w = short (lo w)

-- an address plus an offset or a displacement
abbrev pub address_plus : ℕ → ℤ → ℕ
address_plus a n = wrapped (a + cast_unsigned w32 n)
