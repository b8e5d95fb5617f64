-- Sets of addresses: a window of the cycle of 2 ^ 32, and in it those with one low half.
use Rattle.std.specs.Prelude.{ℕ, ◌+◌, ◌-◌, ◌%◌, ◌^◌, Bool, true, ◌&&◌, ◌||◌, ◌==◌, nat_lt, Option, Some, None}
use Rattle.symbol_bind.specs.declared.address_set.AddressSet.{AddressSet}

abbrev pub has_low : Option ℕ → ℕ → Bool
has_low None t = true
has_low (Some h) t = t % 2 ^ 16 == h

-- how far t is behind s on the cycle
abbrev pub distance : ℕ → ℕ → ℕ
distance s t = (t + (2 ^ 32 - s)) % 2 ^ 32

abbrev pub in_window : ℕ → ℕ → ℕ → Bool
in_window start size t = nat_lt (distance start t) size

unfoldable pub contains : AddressSet → ℕ → Bool
contains set t = has_low set.low t && (set.whole || in_window set.start set.size t)
