use Rattle.std.proofs.Common.{map, arith}
use Rattle.linked_program.proofs.Opened.{opened}
use Rattle.link_model.specs.Numbers.{externals}
use Rattle.linked_program.specs.Kinds.{external_of}
use Rattle.linked_program.proofs.ListReads.{kept_length, kept_read, externals_are}
use Rattle.linked_program.proofs.program.Program.external.Goals as goal

pub index-requires : goal.index-requires
index-requires c =
    let o = opened c.self.inside c.args.self.now c.self.view_is c.self.invariant in
    let units = c.args.self.now.units in let table = c.self.inside.tables.externals in
    let all = externals_are units (map external_of table.items) o.tables.externals in
    omega (arith, kept_length external_of table.items (externals units) all, table.ok.0, c.requires)

pub returns : goal.returns
returns c =
    let o = opened c.self.inside c.args.self.now c.self.view_is c.self.invariant in
    let units = c.args.self.now.units in let table = c.self.inside.tables.externals in
    kept_read external_of table.items (externals units) c.args.x c.index.result.now
    (externals_are units (map external_of table.items) o.tables.externals)
    c.requires c.index.ensures
