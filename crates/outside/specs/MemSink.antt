-- A sink in memory, and what a put to it changes.
use Rattle.std.specs.Prelude.{◌≡◌, ℕ, ◌-◌, min, List, ◌++◌, length, take, Result, Ok, Err, Contains, ◌⊎◌}
use Rattle.outside.specs.Faults.{next_count}

-- `room` is how many bytes are taken at most in all, and `most` in one put
pub record SinkState : Type 0 where
  pub taken : List ℕ
  pub room : ℕ
  pub most : ℕ
  pub failing : List ℕ
  pub puts : ℕ
  pub faults : ℕ

abbrev pub room_left : SinkState → ℕ
room_left s = s.room - length s.taken

-- the next put fails: its number is listed, or no room is left
abbrev pub IsNextFault : SinkState → Type 0
IsNextFault s = Contains s.failing (next_count s.puts) ⊎ (room_left s ≡ 0)

-- a put fails exactly where it has to, and else takes as many bytes as it may
abbrev pub IsPut : {E : Type 0} → SinkState → SinkState → List ℕ → Result ℕ E → Type 0
IsPut before now bytes (Err e) =
    IsNextFault before
    × (now ≡ record before { puts = next_count before.puts; faults = next_count before.faults })
IsPut before now bytes (Ok n) =
    ¬ IsNextFault before
    × (n ≡ min (length bytes) (min before.most (room_left before)))
    × (now ≡ record before { taken = before.taken ++ take n bytes; puts = next_count before.puts })
