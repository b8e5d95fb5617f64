use Rattle.std.proofs.Common.{ℕ, ◌<◌, ◌≤◌, ◌-◌, length, slice_index_or}
use Rattle.asm_mem.specs.Blocks.{Live}
use Rattle.asm_mem.proofs.blocks.place_in.Given as goal

abbrev pub invariant-loop-lo : goal.invariant-loop-lo
invariant-loop-lo l = record {
  ends : l.hi ≤ length l.blocks;
  low : (k : ℕ) (d : Live) → k < l.lo → (slice_index_or l.blocks k d).number < l.b;
  high : (k : ℕ) (d : Live) → l.hi ≤ k → k < length l.blocks → l.b < (slice_index_or l.blocks k d).number;
}

abbrev pub decreases-loop-lo : goal.decreases-loop-lo
decreases-loop-lo l = l.hi - l.lo
