-- A store before and after a command.
use Rattle.std.specs.Prelude.{ℕ, List, Option}
use Rattle.outside.specs.Store.{Files}

-- what it holds, which no call changes; the count of its faults before and after; the name that it blames after
pub record StoreChange : Type 0 where
  pub holds : Option Files
  pub faults : ℕ
  pub faults_after : ℕ
  pub blamed : List ℕ
