use Rattle.std.proofs.Common.{arith}
use Rattle.link_model.specs.Program.{keys}
use Rattle.linked_program.proofs.Opened.{opened}
use Rattle.linked_program.proofs.ListReads.{kind_there, kind_read}
use Rattle.linked_program.proofs.program.Program.kind.Goals as goal

pub index-requires : goal.index-requires
index-requires c =
    let o = opened c.self.inside c.args.self.now c.self.view_is c.self.invariant in
    let table = c.self.inside.tables.kinds in
    omega (arith, kind_there (keys c.args.self.now.units) table.items o.tables.kinds c.args.key c.requires, table.ok.0)

pub returns : goal.returns
returns c =
    let o = opened c.self.inside c.args.self.now c.self.view_is c.self.invariant in
    kind_read c.args.self.now.units c.self.inside.tables.kinds.items c.args.key c.index.result.now o.tables.kinds c.requires c.index.ensures
