use Rattle.std.proofs.Common.{arith}
use Rattle.asm_mem.proofs.Reversed.{low_next, high_next}
use Rattle.asm_mem.proofs.blocks.place_in.Goals as goal

pub loop-lo-preserved-then-n-b-2 : goal.loop-lo-preserved-then-n-b-2
loop-lo-preserved-then-n-b-2 c = record {
  ends = c.loop-lo.invariant.ends;
  low = low_next c.args.blocks.now _ c.args.b c.index-blocks-mid.result c.requires (omega arith) c.index-blocks-mid.is (omega arith);
  high = c.loop-lo.invariant.high;
}

pub loop-lo-preserved : goal.loop-lo-preserved
loop-lo-preserved c = record {
  ends = omega arith;
  low = c.loop-lo.invariant.low;
  high = high_next c.args.blocks.now _ c.args.b c.index-blocks-mid.result c.requires (omega arith) c.index-blocks-mid.is (omega arith);
}
