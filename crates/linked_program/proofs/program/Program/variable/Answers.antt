use Rattle.std.proofs.Common.{map, arith}
use Rattle.linked_program.proofs.Opened.{opened}
use Rattle.link_model.specs.Numbers.{variables}
use Rattle.linked_program.specs.Kinds.{variable_of}
use Rattle.linked_program.proofs.ListReads.{kept_length, kept_read, variables_are}
use Rattle.linked_program.proofs.program.Program.variable.Goals as goal

pub index-requires : goal.index-requires
index-requires c =
    let o = opened c.self.inside c.args.self.now c.self.view_is c.self.invariant in
    let units = c.args.self.now.units in let table = c.self.inside.tables.variables in
    let all = variables_are units (map variable_of table.items) o.tables.variables in
    omega (arith, kept_length variable_of table.items (variables units) all, table.ok.0, c.requires)

pub returns : goal.returns
returns c =
    let o = opened c.self.inside c.args.self.now c.self.view_is c.self.invariant in
    let units = c.args.self.now.units in let table = c.self.inside.tables.variables in
    kept_read variable_of table.items (variables units) c.args.v c.index.result.now
    (variables_are units (map variable_of table.items) o.tables.variables)
    c.requires c.index.ensures
