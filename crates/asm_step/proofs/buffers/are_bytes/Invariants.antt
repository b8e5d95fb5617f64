use Rattle.std.proofs.Common.{◌≡◌, ◌+◌, ◌-◌}
use Rattle.asm_step.specs.Bytes.{are_bytes_at}
use Rattle.asm_step.proofs.buffers.are_bytes.Given as goal

abbrev pub invariant-loop-i : goal.invariant-loop-i
invariant-loop-i l = are_bytes_at l.blocks.live l.b l.o l.n ≡ are_bytes_at l.blocks.live l.b (l.o + l.i) (l.n - l.i)
