-- Counts of faults.
use Rattle.std.specs.Prelude.{ℕ, ◌+◌, ◌-◌, ◌^◌, ◌≤◌, min}

-- a count is a `u64`, and stays at its last value once it is there
abbrev pub last_count : ℕ
last_count = 2 ^ 64 - 1

abbrev pub next_count : ℕ → ℕ
next_count n = min (n + 1) last_count

-- the count rose, or stands at its last value
abbrev pub Rose : ℕ → ℕ → Type 0
Rose before now = next_count before ≤ now
