use Rattle.std.proofs.Common.{◌≡◌, ◌+◌, drop}
use Rattle.data_match.specs.Stretches.{bytes_fault}
use Rattle.data_match.proofs.bytes.piece_fault.Given as goal

abbrev pub invariant-loop-i : goal.invariant-loop-i
invariant-loop-i l =
    bytes_fault l.segments l.a (l.offset + l.from) (drop l.from l.bytes) ≡ bytes_fault l.segments l.a (l.offset + l.i) (drop l.i l.bytes)
