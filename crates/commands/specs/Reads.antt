-- Files that were read, by what a store holds under the words that name them.
use Rattle.std.specs.Prelude.{◌≤◌, ℕ, List, [], ◌∷◌, Option, ⊤}
use Rattle.limits.specs.declared.TheConstants.{MOST_DUMPS_BYTES}
use Rattle.outside.specs.Store.{Files, IsHeld}
use Rattle.commands.specs.Words.{word_at}
use Rattle.commands.specs.Files.{limit_of, dumps_sum}
use Rattle.commands.specs.declared.file.CommandFile.{CommandFile}

-- a file's word names these bytes, which are within its limit
abbrev pub IsRead : Option Files → List (List ℕ) → CommandFile → List ℕ → Type 0
IsRead holds words f bytes = IsHeld holds (word_at words f.place) (limit_of f.kind) bytes

abbrev pub EachRead : Option Files → List (List ℕ) → List CommandFile → List (List ℕ) → Type 0
EachRead holds words [] [] = ⊤
EachRead holds words (f ∷ fs) (bytes ∷ more) = IsRead holds words f bytes × EachRead holds words fs more
EachRead holds words _ _ = ⊥

-- the files have these contents, each within its limit, and the dumps together within theirs
pub record AreRead (holds : Option Files) (words : List (List ℕ)) (fs : List CommandFile) (contents : List (List ℕ)) : Type 0 where
  pub each : EachRead holds words fs contents
  pub dumps : dumps_sum fs contents ≤ MOST_DUMPS_BYTES
