use Rattle.std.proofs.Common.{◌+◌, ℕ, List, map, drop, arith, ap, sym, ◌∙◌}
use Rattle.asm_mem.specs.declared.cell.Cell.TheVariants.{Byte}
use Rattle.asm_mem.specs.Blocks.{Live, Memory, set_cells, update, with_bytes}
use Rattle.asm_mem.proofs.Filling.{all_filled, fill_step}
use Rattle.asm_mem.proofs.blocks.Blocks.set_bytes.Goals as goal

pub loop-i-preserved : goal.loop-i-preserved
loop-i-preserved c =
    let i = c.loop-i.i in
    let o = c.args.offset in
    let b = c.args.block in
    let bytes = c.args.bytes.now in
    let rest : Live → Live = λ k. set_cells k (o + (i + 1)) (map Byte (drop (i + 1) bytes)) in
    record {
      next = ap (λ (m : Memory). m.next) c.set_byte.ensures ∙ c.loop-i.invariant.next;
      work = ap (λ (m : Memory). update b rest m.live) c.set_byte.ensures
          ∙ fill_step c.loop-i.self.live b o i (c.from.result + i) 0 bytes (omega arith) (omega arith) ∙ c.loop-i.invariant.work;
    }

pub returns : goal.returns
returns c =
    let done = all_filled c.loop-i.self.live c.args.block c.args.offset c.loop-i.i c.args.bytes.now (omega arith) in
    let live = sym done ∙ c.loop-i.invariant.work in
    let next = c.loop-i.invariant.next in
    let made : List Live → ℕ → Memory = λ l n. record { live = l; next = n } in
    let full = with_bytes c.args.self.now.live c.args.block c.args.offset c.args.bytes.now in
    ap (λ (l : List Live). made l c.loop-i.self.next) live ∙ ap (λ (n : ℕ). made full n) next
