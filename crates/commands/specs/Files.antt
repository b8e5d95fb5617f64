-- The files that a command reads, in the order in which it reads them.
use Rattle.std.specs.Prelude.{ℕ, zero, suc, ◌+◌, List, [], ◌∷◌, length}
use Rattle.limits.specs.declared.TheConstants.{MOST_IMAGE_BYTES, MOST_LAYOUT_BYTES, MOST_REPLIES_BYTES, MOST_DUMP_BYTES}
use Rattle.commands.specs.declared.command.Command.{Command}
use Rattle.commands.specs.declared.command.Command.TheVariants.{Check, Run, Show, Upgrade}
use Rattle.commands.specs.declared.file.FileKind.{FileKind}
use Rattle.commands.specs.declared.file.FileKind.TheVariants.{Layout, Image, Replies, Dump}
use Rattle.commands.specs.declared.file.CommandFile.{CommandFile}

-- how many bytes a file may have
abbrev pub limit_of : FileKind → ℕ
limit_of Layout = MOST_LAYOUT_BYTES
limit_of Image = MOST_IMAGE_BYTES
limit_of Replies = MOST_REPLIES_BYTES
limit_of Dump = MOST_DUMP_BYTES

abbrev pub file : ℕ → FileKind → CommandFile
file place kind = record { place = place; kind = kind }

-- so many dumps, named by the words from a place on
abbrev pub dumps_from : ℕ → ℕ → List CommandFile
dumps_from place zero = []
dumps_from place (suc n) = file place Dump ∷ dumps_from (place + 1) n

abbrev pub files : Command → List CommandFile
files (Check units) = file 1 Layout ∷ file 2 Image ∷ dumps_from 3 units
files (Run steps units) = file 1 Layout ∷ file 2 Image ∷ file 3 Replies ∷ dumps_from 5 units
files (Show address count) = file 1 Image ∷ []
files Upgrade = file 1 Dump ∷ []

-- ---- the sum of dumps

-- what a file of so many bytes adds to the sum
abbrev pub dump_bytes : FileKind → ℕ → ℕ
dump_bytes Dump bytes = bytes
dump_bytes kind bytes = 0

-- the bytes of the dumps among files, by the files' contents
abbrev pub dumps_sum : List CommandFile → List (List ℕ) → ℕ
dumps_sum (f ∷ fs) (bytes ∷ more) = dump_bytes f.kind (length bytes) + dumps_sum fs more
dumps_sum _ _ = 0
