-- How many bytes the calls of a trace read.
use Rattle.std.specs.Prelude.{ℕ, ◌+◌, List, [], ◌∷◌}
use Rattle.call_bytes.specs.CallLists.{bytes_in}
use Rattle.machine_runs.specs.declared.trace.Seen.{Seen}

abbrev pub read_total : List Seen → ℕ
read_total [] = 0
read_total (e ∷ es) = bytes_in e.read + read_total es
