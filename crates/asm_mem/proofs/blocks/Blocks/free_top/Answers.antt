use Rattle.std.proofs.Common.{◌≡◌, List, length, arith, sym, subst}
use Rattle.asm_mem.specs.Blocks.{Live}
use Rattle.asm_mem.specs.Order.{AreBlocks, HasCells}
use Rattle.asm_mem.proofs.Counting.{popped_blocks, popped_most, popped_cells}
use Rattle.asm_mem.proofs.blocks.Blocks.free_top.Goals as goal

pub overflow_sub-self : goal.overflow_sub-self
overflow_sub-self c =
    let h = subst (λ (l : List Live). HasCells l c.self.inside.next c.self.inside.cells) c.in-Some.ensures.items c.self.invariant.1 in
    omega (arith, c.from.ensures, c.size.ensures, popped_most c.pop.new.self.items c.in-Some.k _ _ h)

pub invariant_of-self : goal.invariant_of-self
invariant_of-self c =
    let e = c.in-Some.ensures.items in
    let a = subst (λ (l : List Live). AreBlocks l c.self.inside.next) e c.self.invariant.0 in
    let h = subst (λ (l : List Live). HasCells l c.self.inside.next c.self.inside.cells) e c.self.invariant.1 in
    let n : length c.in-Some.k.cells ≡ c.from.result = omega (arith, c.from.ensures, c.size.ensures) in (
      popped_blocks c.pop.new.self.items c.in-Some.k c.self.inside.next a,
      rw (sym n) (popped_cells c.pop.new.self.items c.in-Some.k c.self.inside.next c.self.inside.cells h),
    )
