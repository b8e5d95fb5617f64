use Rattle.std.proofs.Common.{◌+◌, ℕ, List, drop, ap, arith, sym, ◌∙◌}
use Rattle.asm_mem.specs.Blocks.{Live, Memory, set_cells, update}
use Rattle.asm_machine.specs.Variables.{cells_from, named_value}
use Rattle.asm_machine.proofs.Cells.{items_end, items_step, size_more}
use Rattle.asm_machine.proofs.variables.put_items.Goals as goal

pub loop-item-preserved : goal.loop-item-preserved
loop-item-preserved g c =
    let f = named_value (g.P.KeyedProgram.program c.args.p.now).units c.args.unit in
    let i = c.loop-item.item-index in
    let o = c.loop-item.offset in
    let n = c.size.result in
    let b = c.args.b in
    let xs = c.args.init.now in
    let x = c.item-item.result in
    let rest : Live → Live = λ k. set_cells k (o + n) (cells_from f (o + n) (drop (i + 1) xs)) in
    record {
      size = omega (arith, size_more xs i x (omega arith) c.item-item.is, c.size.ensures, c.loop-item.invariant.size);
      next = ap (λ (m : Memory). m.next) c.put_item.ensures ∙ c.loop-item.invariant.next;
      work = ap (λ (m : Memory). update b rest m.live) c.put_item.ensures
          ∙ items_step f c.loop-item.blocks.live b o n i xs x (omega arith) c.item-item.is c.size.ensures ∙ c.loop-item.invariant.work;
    }

pub returns : goal.returns
returns g c =
    let f = named_value (g.P.KeyedProgram.program c.args.p.now).units c.args.unit in
    let done = items_end f c.loop-item.blocks.live c.args.b c.loop-item.offset c.loop-item.item-index c.args.init.now (omega arith) in
    let live = sym done ∙ c.loop-item.invariant.work in
    let made : List Live → ℕ → Memory = λ l n. record { live = l; next = n } in
    let full = update c.args.b (λ k. set_cells k 0 (cells_from f 0 c.args.init.now)) c.args.blocks.now.live in
    ap (λ (l : List Live). made l c.loop-item.blocks.next) live ∙ ap (λ (n : ℕ). made full n) c.loop-item.invariant.next
