-- How many bytes are read with one event more.
use Rattle.std.proofs.Common.{◌≡◌, ◌+◌, List, [], ◌∷◌, ◌++◌, arith}
use Rattle.call_bytes.specs.CallLists.{bytes_in}
use Rattle.machine_runs.specs.declared.trace.Seen.{Seen}
use Rattle.machine_runs.specs.Sums.{read_total}

pub total_more : (es : List Seen) (e : Seen) → read_total (es ++ e ∷ []) ≡ read_total es + bytes_in e.read
total_more [] e = omega arith
total_more (x ∷ es) e = omega (arith, total_more es e)
