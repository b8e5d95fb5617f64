use Rattle.std.proofs.Common.{◌≡◌, List, subst}
use Rattle.asm_mem.specs.Blocks.{set_cells, update}
use Rattle.asm_syntax.specs.declared.unit.Init.{Init}
use Rattle.asm_machine.specs.Variables.{cells_from, named_value}
use Rattle.asm_machine.proofs.Cells.{variable_made}
use Rattle.asm_machine.proofs.variables.put_variable.Goals as goal

pub returns : goal.returns
returns g c =
    let f = named_value (g.P.KeyedProgram.program c.args.p.now).units c.args.unit in
    let m = c.alloc_block.new.self in
    let P : List Init → Type 0 = λ xs.
    c.put_items.new.blocks ≡ record m { live = update c.in_ok-b.b (λ k. set_cells k 0 (cells_from f 0 xs)) m.live } in
    variable_made f c.in_ok-b.b c.size_of.result c.args.x.now.writable c.args.blocks.now m c.put_items.new.blocks c.args.x.now.init
    c.in_ok-b.ensures.made.0 c.in_ok-b.ensures.made.1 c.size_of.ensures.value (subst P c.items.ensures c.put_items.ensures)
