use Rattle.std.proofs.Common.{◌≡◌, ◌++◌, ◌∷◌, []}
use Rattle.asm_step.specs.Bytes.{bytes_at}
use Rattle.asm_step.proofs.buffers.read_list.Given as goal

abbrev pub invariant-loop-i : goal.invariant-loop-i
invariant-loop-i l = l.bytes ≡ l.fn.bytes ++ bytes_at l.blocks.live l.b l.o l.i ∷ []
