use Rattle.std.proofs.Common.{map, arith}
use Rattle.linked_program.proofs.Opened.{opened}
use Rattle.link_model.specs.Numbers.{functions}
use Rattle.linked_program.specs.Kinds.{function_of}
use Rattle.linked_program.proofs.ListReads.{kept_length, kept_read, functions_are}
use Rattle.linked_program.proofs.program.Program.function.Goals as goal

pub index-requires : goal.index-requires
index-requires c =
    let o = opened c.self.inside c.args.self.now c.self.view_is c.self.invariant in
    let units = c.args.self.now.units in let table = c.self.inside.tables.functions in
    let all = functions_are units (map function_of table.items) o.tables.functions in
    omega (arith, kept_length function_of table.items (functions units) all, table.ok.0, c.requires)

pub returns : goal.returns
returns c =
    let o = opened c.self.inside c.args.self.now c.self.view_is c.self.invariant in
    let units = c.args.self.now.units in let table = c.self.inside.tables.functions in
    kept_read function_of table.items (functions units) c.args.f c.index.result.now
    (functions_are units (map function_of table.items) o.tables.functions)
    c.requires c.index.ensures
