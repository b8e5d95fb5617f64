-- A store in memory, and what a read of it changes.
use Rattle.std.specs.Prelude.{◌≡◌, ◌≢◌, ℕ, List, Some, Result, Err, find, option_map, Contains}
use Rattle.std.specs.Str.{bytes_eq}
use Rattle.outside.specs.Faults.{next_count}
use Rattle.outside.specs.Store.{Files}
use Rattle.outside.specs.declared.store.StoreError.{StoreError}
use Rattle.outside.specs.declared.store.StoreError.TheVariants.{Failed, Memory}

pub record HeldFile : Type 0 where
  pub name : List ℕ
  pub bytes : List ℕ

-- `files` has the newest first, and `reads` counts the reads that did not want memory
pub record StoreState : Type 0 where
  pub files : List HeldFile
  pub failing : List ℕ
  pub reads : ℕ
  pub faults : ℕ
  pub blamed : List ℕ

-- the newest bytes under each name
abbrev pub held_under : List HeldFile → Files
held_under files name = option_map (λ f. f.bytes) (find (λ f. bytes_eq f.name name) files)

abbrev pub held_by : StoreState → Files
held_by s = held_under s.files

-- the bytes are now those under the name, and every other name is as before
pub record SetsFile (before now : Files) (name bytes : List ℕ) : Type 0 where
  pub set : now name ≡ Some bytes
  pub others : (other : List ℕ) → other ≢ name → now other ≡ before other

-- the next read is one of those that fail
abbrev pub IsNextFailing : StoreState → Type 0
IsNextFailing s = Contains s.failing (next_count s.reads)

-- a read fails exactly where its number is listed, and want of memory leaves all as before
abbrev pub IsRead : {T : Type 0} → StoreState → StoreState → List ℕ → Result T StoreError → Type 0
IsRead before now name (Err Memory) = now ≡ before
IsRead before now name (Err Failed) =
    IsNextFailing before
    × (now ≡ record before { reads = next_count before.reads; faults = next_count before.faults; blamed = name })
IsRead before now name answer = ¬ IsNextFailing before × (now ≡ record before { reads = next_count before.reads })
