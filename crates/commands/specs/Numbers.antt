-- Numbers among the words, written in a base.
use Rattle.std.specs.Prelude.{ℕ, ◌+◌, ◌-◌, ◌*◌, ◌%◌, Bool, List, ◌∷◌, length, Option, Some, None, option_and_then, nat_lt, nat_le, ◌==◌}
use Rattle.std.specs.Prelude.{◌&&◌, ◌||◌, fold, if◌then◌else◌}
use Rattle.std.specs.List.{list_all}

-- `0` to `9`, and `A` to `F` of both cases
abbrev pub is_digit_byte : ℕ → Bool
is_digit_byte c = (nat_le 48 c && nat_le c 57) || (nat_le 65 c && nat_le c 70) || (nat_le 97 c && nat_le c 102)

abbrev pub digit : ℕ → ℕ
digit c = if nat_le c 57 then c - 48 else (if nat_le c 70 then c - 55 else c - 87)

abbrev pub is_digit : ℕ → ℕ → Bool
is_digit base c = is_digit_byte c && nat_lt (digit c) base

-- the number that digits write, the highest first
abbrev pub digits_number : ℕ → List ℕ → ℕ
digits_number base digits = fold (λ n c. n * base + digit c) 0 digits

-- the number of a text of 1 to `most` digits
abbrev pub number_of : ℕ → ℕ → List ℕ → Option ℕ
number_of base most text =
    if nat_le 1 (length text) && nat_le (length text) most && list_all (is_digit base) text then Some (digits_number base text) else None

abbrev pub up_to : ℕ → ℕ → Option ℕ
up_to greatest n = if nat_le n greatest then Some n else None

-- 1 to 10 decimal digits, of a number up to the greatest; leading zeros are allowed
abbrev pub decimal_of : ℕ → List ℕ → Option ℕ
decimal_of greatest text = option_and_then (up_to greatest) (number_of 10 10 text)

abbrev pub aligned : ℕ → Option ℕ
aligned n = if n % 4 == 0 then Some n else None

-- `0x` and 1 to 8 hexadecimal digits, of a multiple of 4
abbrev pub address_of : List ℕ → Option ℕ
address_of (a ∷ b ∷ digits) = if a == 48 && b == 120 then option_and_then aligned (number_of 16 8 digits) else None
address_of _ = None
