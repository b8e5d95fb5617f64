use Rattle.std.proofs.Common.{◌-◌, length}
use Rattle.symbol_index.proofs.Ranks.{rank, Narrowed, Spent}
use Rattle.symbol_index.proofs.index.SymIndex.find.Given as goal

abbrev pub invariant-loop-low : goal.invariant-loop-low
invariant-loop-low g l = record {
  narrowed : Narrowed (rank l.self l.name) (length l.self.places) l.low l.high l.hit;
  spent : Spent (length l.self.places) (l.high - l.low) l.fn.steps l.steps;
}

abbrev pub decreases-loop-low : goal.decreases-loop-low
decreases-loop-low g l = l.high - l.low
