use Rattle.std.proofs.Common.{◌≡◌, ◌+◌, map, drop, replicate}
use Rattle.asm_mem.specs.declared.cell.Cell.TheVariants.{Byte}
use Rattle.asm_mem.specs.Blocks.{set_cells, update, with_bytes}
use Rattle.asm_mem.proofs.blocks.Blocks.set_zeros.Given as goal

abbrev pub invariant-loop-i : goal.invariant-loop-i
invariant-loop-i l = record {
  next : l.self.next ≡ l.initial.self.next;
  work : update l.block (λ k. set_cells k (l.offset + l.i) (map Byte (drop l.i (replicate l.n 0)))) l.self.live
      ≡ with_bytes l.initial.self.live l.block l.offset (replicate l.n 0);
}
