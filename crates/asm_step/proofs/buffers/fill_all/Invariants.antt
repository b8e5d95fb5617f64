use Rattle.std.proofs.Common.{◌≡◌, ◌≤◌, drop}
use Rattle.asm_step.specs.Calls.{filled}
use Rattle.asm_step.proofs.buffers.fill_all.Given as goal

abbrev pub invariant-loop-b : goal.invariant-loop-b
invariant-loop-b l = record {
  next : l.blocks.next ≡ l.initial.blocks.next;
  most : l.used ≤ l.b-index;
  work : filled l.blocks.live l.file l.c (drop l.b-index l.buffers) (drop l.used l.fills)
      ≡ filled l.initial.blocks.live l.file l.c l.buffers l.fills;
}
