-- Addresses: an integer of 32 bits, or a text `0x` with 1 to 8 hexadecimal digits of either case.
use Rattle.std.specs.Prelude.{ℕ, ◌+◌, ◌-◌, ◌*◌, Bool, List, ◌∷◌, length, Option, Some, None, Result, Ok, nat_le, ◌==◌, ◌&&◌, ◌||◌, fold}
use Rattle.std.specs.Prelude.{if◌then◌else◌}
use Rattle.std.specs.List.{list_all}
use Rattle.serde_json.specs.Data.{Data}
use Rattle.serde_json.specs.Find.{as_str}
use Rattle.json_tree.specs.declared.fault.Cause.TheVariants.{OutOfRange}
use Rattle.json_tree.specs.declared.fault.Fault.{Fault}
use Rattle.json_tree.specs.Reading.{fail}
use Rattle.json_tree.specs.Numbers.{unsigned32}

abbrev pub is_hex_digit : ℕ → Bool
is_hex_digit c = (nat_le 0x30 c && nat_le c 0x39) || (nat_le 0x41 c && nat_le c 0x46) || (nat_le 0x61 c && nat_le c 0x66)

abbrev pub hex_digit : ℕ → ℕ
hex_digit c = if nat_le c 0x39 then c - 0x30 else (if nat_le c 0x46 then c - 0x41 + 10 else c - 0x61 + 10)

-- the number that hexadecimal digits write, the highest first
abbrev pub hex_number : List ℕ → ℕ
hex_number digits = fold (λ n c. 16 * n + hex_digit c) 0 digits

abbrev pub address_text : List ℕ → Result ℕ Fault
address_text (a ∷ b ∷ digits) = if a == 0x30 && b == 0x78 && nat_le 1 (length digits) && nat_le (length digits) 8 && list_all is_hex_digit
    digits then Ok (hex_number digits) else fail OutOfRange
address_text _ = fail OutOfRange

abbrev pub address_of : Option (List ℕ) → Data → Result ℕ Fault
address_of (Some bytes) d = address_text bytes
address_of None d = unsigned32 d

unfoldable pub address : Data → Result ℕ Fault
address d = address_of (as_str d) d
