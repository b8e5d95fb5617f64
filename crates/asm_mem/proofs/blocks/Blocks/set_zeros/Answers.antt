use Rattle.std.proofs.Common.{◌≡◌, ◌+◌, ℕ, List, get_or, map, drop, replicate, Some, arith, ap, sym, ◌∙◌}
use Rattle.asm_mem.specs.declared.cell.Cell.TheVariants.{Byte}
use Rattle.asm_mem.specs.Blocks.{Live, Memory, set_cells, update, with_byte, with_bytes}
use Rattle.asm_mem.proofs.Filling.{all_filled, fill_step, zero_at, zeros_length}
use Rattle.asm_mem.proofs.blocks.Blocks.set_zeros.Goals as goal

pub loop-i-preserved : goal.loop-i-preserved
loop-i-preserved c =
    let i = c.loop-i.i in
    let o = c.args.offset in
    let b = c.args.block in
    let bytes : List ℕ = replicate c.args.n 0 in
    let a = c.from.result + c.from-in-loop-i.result in
    let rest : Live → Live = λ k. set_cells k (o + (i + 1)) (map Byte (drop (i + 1) bytes)) in
    let zero : get_or bytes i 0 ≡ 0 = zero_at c.args.n i 0 (omega arith) in
    let step = fill_step c.loop-i.self.live b o i a 0 bytes (omega (arith, zeros_length c.args.n)) (omega arith) in
    let set = ap (λ (x : ℕ). update b rest (with_byte c.loop-i.self.live b a (Some x))) (sym zero) in
    record {
      next = ap (λ (m : Memory). m.next) c.set_byte.ensures ∙ c.loop-i.invariant.next;
      work = ap (λ (m : Memory). update b rest m.live) c.set_byte.ensures ∙ set ∙ step ∙ c.loop-i.invariant.work;
    }

pub returns : goal.returns
returns c =
    let bytes : List ℕ = replicate c.args.n 0 in
    let done = all_filled c.loop-i.self.live c.args.block c.args.offset c.loop-i.i bytes (omega (arith, zeros_length c.args.n)) in
    let live = sym done ∙ c.loop-i.invariant.work in
    let next = c.loop-i.invariant.next in
    let made : List Live → ℕ → Memory = λ l n. record { live = l; next = n } in
    let full = with_bytes c.args.self.now.live c.args.block c.args.offset bytes in
    ap (λ (l : List Live). made l c.loop-i.self.next) live ∙ ap (λ (n : ℕ). made full n) next
