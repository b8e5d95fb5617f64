use Rattle.std.proofs.Common.{◌∙◌}
use Rattle.asm_machine.proofs.Keys.{kinds_all, made_linked}
use Rattle.asm_machine.proofs.executable.executable.Goals as goal

pub returns : goal.returns
returns g c =
    let p = g.P.KeyedProgram.program c.args.p.now in
    let table = kinds_all p.units c.in_ok-table.table c.in_ok-table.ensures in
    c.new.ensures
    ∙ made_linked p c.in_ok-routines.routines.items c.in_ok-table.table.kinds.items c.in_ok-callees.callees.items
    c.in_ok-table.table.variables
    c.in_ok-routines.ensures table.0 c.in_ok-callees.ensures table.1
