use Rattle.std.proofs.Common.{◌≡◌, ◌+◌, drop}
use Rattle.asm_syntax.specs.Sizes.{variable_size}
use Rattle.asm_mem.specs.Blocks.{set_cells, update}
use Rattle.asm_machine.specs.Variables.{cells_from, named_value}
use Rattle.asm_machine.proofs.variables.put_items.Given as goal

abbrev pub invariant-loop-item : goal.invariant-loop-item
invariant-loop-item g l = record {
  size : l.offset + variable_size (drop l.item-index l.init) ≡ variable_size l.init;
  next : l.blocks.next ≡ l.initial.blocks.next;
  work : update l.b (λ k.
      set_cells k l.offset (cells_from (named_value (g.P.KeyedProgram.program l.p).units l.unit) l.offset (drop l.item-index l.init)))
      l.blocks.live
      ≡ update l.b (λ k. set_cells k 0 (cells_from (named_value (g.P.KeyedProgram.program l.p).units l.unit) 0 l.init))
      l.initial.blocks.live;
}
