-- Numbers: integers that fit 64 bits, signed or unsigned. Any other number is of a wrong kind.
use Rattle.std.specs.Prelude.{ℕ, ◌+◌, ◌-◌, ◌/◌, ◌^◌, ℤ, pos, negsuc, Result, Ok, int_lt, nat_le, ◌||◌, if◌then◌else◌}
use Rattle.serde_json.specs.Data.{Data}
use Rattle.serde_json.specs.Find.{as_number, as_integer}
use Rattle.json_tree.specs.declared.fault.Cause.TheVariants.{OutOfRange}
use Rattle.json_tree.specs.declared.fault.Fault.{Fault}
use Rattle.json_tree.specs.Reading.{◌>>=◌, fail, of_kind}

abbrev pub integer : Data → Result ℤ Fault
integer d = of_kind (as_number d) λ n. of_kind (as_integer n) λ z. Ok z

-- an integer from lo to hi
unfoldable pub ranged : ℤ → ℤ → Data → Result ℤ Fault
ranged lo hi d = do
  z ← integer d
  if int_lt z lo || int_lt hi z then fail OutOfRange else Ok z

abbrev pub up_to : ℕ → ℤ → Result ℕ Fault
up_to most (pos n) = if nat_le n most then Ok n else fail OutOfRange
up_to most (negsuc n) = fail OutOfRange

-- an integer from 0 to most
unfoldable pub natural : ℕ → Data → Result ℕ Fault
natural most d = do
  z ← integer d
  up_to most z

-- an integer modulo size, where it is no less than - size and below size
abbrev pub modulo : ℕ → ℤ → ℕ
modulo size (pos n) = n
modulo size (negsuc n) = size - (n + 1)

-- an integer from - size / 2, as signed numbers have it, to size - 1, as unsigned ones have it, modulo size
unfoldable pub wrapped : ℕ → Data → Result ℕ Fault
wrapped size d = do
  z ← ranged (negsuc (size / 2 - 1)) (pos (size - 1)) d
  Ok (modulo size z)

unfoldable pub word : Data → Result ℕ Fault
word d = wrapped (2 ^ 32) d

unfoldable pub unsigned32 : Data → Result ℕ Fault
unsigned32 d = natural 0xffffffff d

unfoldable pub unsigned16 : Data → Result ℕ Fault
unsigned16 d = natural 0xffff d

unfoldable pub signed32 : Data → Result ℤ Fault
signed32 d = ranged (negsuc 0x7fffffff) (pos 0x7fffffff) d
