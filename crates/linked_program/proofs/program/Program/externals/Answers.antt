use Rattle.std.proofs.Common.{◌∙◌, map, arith}
use Rattle.link_model.specs.Program.{keys}
use Rattle.linked_program.proofs.Opened.{opened}
use Rattle.link_model.specs.Numbers.{externals}
use Rattle.linked_program.specs.Kinds.{external_of}
use Rattle.asm_program.specs.Seen.{declaration_seen}
use Rattle.linked_program.proofs.ListReads.{kept_length, externals_are, few_externals}
use Rattle.linked_program.proofs.program.Program.externals.Goals as goal

pub overflow_cast-result : goal.overflow_cast-result
overflow_cast-result c =
    let o = opened c.self.inside c.args.self.now c.self.view_is c.self.invariant in
    let units = c.args.self.now.units in let table = c.self.inside.tables.externals in
    let all = externals_are units (map external_of table.items) o.tables.externals in
    omega (
      arith,
      kept_length external_of table.items (externals units) all,
      table.ok.0,
      c.len.ensures,
      few_externals units,
      o.few_keys,
      kept_length declaration_seen c.self.inside.list.items (keys units) o.list,
    )

pub returns : goal.returns
returns c =
    let o = opened c.self.inside c.args.self.now c.self.view_is c.self.invariant in
    let units = c.args.self.now.units in let table = c.self.inside.tables.externals in
    let all = externals_are units (map external_of table.items) o.tables.externals in
    c.len.ensures ∙ (table.ok.0 ∙ kept_length external_of table.items (externals units) all)
