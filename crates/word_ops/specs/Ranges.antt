-- Ranges of addresses: from lo up to hi, which is not in it and may be 2 ^ 32.
use Rattle.std.specs.Prelude.{◌≡◌, ℕ, ◌^◌, ◌≤◌, Bool, true, nat_le, nat_lt, ◌&&◌, max, min}

-- the addresses from lo up to hi, which is not one of them
pub record Extent : Type 0 where
  pub lo : ℕ
  pub hi : ℕ

abbrev pub extent : ℕ → ℕ → Extent
extent lo hi = record { lo = lo; hi = hi }

-- the address is in the range
abbrev pub holds : ℕ → Extent → Bool
holds a range = nat_le range.lo a && nat_lt a range.hi

-- some address is in both; none is where one of them is empty
abbrev pub meets : Extent → Extent → Bool
meets p q = nat_lt (max p.lo q.lo) (min p.hi q.hi)

-- the range lies between the ends of the area
abbrev pub is_inside : Extent → Extent → Bool
is_inside range area = nat_le area.lo range.lo && nat_le range.hi area.hi

-- the two ends of a range of addresses of 32 bits
abbrev pub AreEnds : ℕ → ℕ → Type 0
AreEnds lo hi = (lo ≤ hi) × (hi ≤ 2 ^ 32)

-- some address is in both
abbrev pub HaveCommon : Extent → Extent → Type 0
HaveCommon p q = (a : ℕ) × (holds a p ≡ true) × (holds a q ≡ true)
