use Rattle.std.proofs.Common.{◌<◌, length, arith}
use Rattle.asm_program.proofs.SizeSteps.{size_passes}
use Rattle.asm_program.proofs.sizes.sizes_fit.Goals as goal

pub overflow_add-total : goal.overflow_add-total
overflow_add-total c = omega (arith, c.size-total.ensures.range, c.loop-d.invariant.small)

pub loop-d-preserved : goal.loop-d-preserved
loop-d-preserved c =
    let lt : c.loop-d.d-index < length c.args.keys.now = omega arith in
    record {
      left = size_passes c.args.keys.now c.loop-d.d-index c.d-item.result c.loop-d.total c.size-total.result _ lt c.d-item.is
          c.size-total.ensures.value (omega (arith, c.if-total-from.false, c.from.ensures)) c.loop-d.invariant.left;
      small = omega (arith, c.if-total-from.false, c.from.ensures);
    }
