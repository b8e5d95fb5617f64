use Rattle.std.proofs.Common.{◌≡◌, ◌≤◌, ◌++◌, true, length, drop}
use Rattle.std.specs.List.{list_all}
use Rattle.asm_step.specs.Bytes.{is_short}
use Rattle.asm_step.specs.Calls.{buffer_fits, reads}
use Rattle.asm_step.proofs.buffers.read_all.Given as goal

abbrev pub invariant-loop-b : goal.invariant-loop-b
invariant-loop-b l = record {
  count : length l.bytes ≤ l.b-index;
  short : list_all is_short l.bytes ≡ true;
  fits : list_all (buffer_fits l.blocks.live l.file l.c) (drop l.b-index l.buffers) ≡ true;
  work : l.bytes ++ reads l.blocks.live l.file l.c (drop l.b-index l.buffers) ≡ reads l.blocks.live l.file l.c l.buffers;
}
