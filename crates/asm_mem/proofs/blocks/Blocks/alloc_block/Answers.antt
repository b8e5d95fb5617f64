use Rattle.std.proofs.Common.{◌≡◌, ◌+◌, ◌<◌, List, arith, ap, sym, subst}
use Rattle.asm_mem.specs.Blocks.{Live, Memory}
use Rattle.asm_mem.specs.Order.{AreBlocks, HasCells}
use Rattle.asm_mem.proofs.Pushing.{pushed_blocks}
use Rattle.asm_mem.proofs.Counting.{pushed_empty}
use Rattle.asm_mem.proofs.blocks.Blocks.alloc_block.Goals as goal

pub invariant_of-self-2 : goal.invariant_of-self-2
invariant_of-self-2 c =
    let items = c.self.inside.blocks.items in
    let e = c.in_ok-push.ensures.items in
    let k = c.in_ok-k.k in
    let n = c.self.inside.next in
    let number : k.number ≡ n = ap (λ (j : Live). j.number) c.in_ok-k.ensures in
    let next : n ≡ c.args.self.now.next = ap (λ (m : Memory). m.next) c.self.view_is in
    let small : n < 4000000000 = omega (arith, c.requires, next) in (
      subst (λ (l : List Live). AreBlocks l (n + 1)) (sym e) (pushed_blocks items k n c.self.invariant.0 number),
      rw c.from.ensures (subst (λ (l : List Live). HasCells l (n + 1) (c.self.inside.cells + c.args.size)) (sym e)
          (pushed_empty items k n c.self.inside.cells c.args.size c.args.writable c.self.invariant.1 c.in_ok-k.ensures
          c.ranges.size.fits small)),
    )
