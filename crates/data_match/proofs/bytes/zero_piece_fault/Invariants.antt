use Rattle.std.proofs.Common.{◌≡◌, ◌+◌, ◌-◌, replicate}
use Rattle.data_match.specs.Stretches.{bytes_fault}
use Rattle.data_match.proofs.bytes.zero_piece_fault.Given as goal

abbrev pub invariant-loop-i : goal.invariant-loop-i
invariant-loop-i l =
    bytes_fault l.segments l.a (l.offset + l.from) (replicate (l.n - l.from) 0)
    ≡ bytes_fault l.segments l.a (l.offset + l.i) (replicate (l.n - l.i) 0)
