use Rattle.std.proofs.Common.{◌∙◌, map, arith}
use Rattle.link_model.specs.Program.{keys}
use Rattle.linked_program.proofs.Opened.{opened}
use Rattle.link_model.specs.Numbers.{variables}
use Rattle.linked_program.specs.Kinds.{variable_of}
use Rattle.asm_program.specs.Seen.{declaration_seen}
use Rattle.linked_program.proofs.ListReads.{kept_length, variables_are, few_variables}
use Rattle.linked_program.proofs.program.Program.variables.Goals as goal

pub overflow_cast-result : goal.overflow_cast-result
overflow_cast-result c =
    let o = opened c.self.inside c.args.self.now c.self.view_is c.self.invariant in
    let units = c.args.self.now.units in let table = c.self.inside.tables.variables in
    let all = variables_are units (map variable_of table.items) o.tables.variables in
    omega (
      arith,
      kept_length variable_of table.items (variables units) all,
      table.ok.0,
      c.len.ensures,
      few_variables units,
      o.few_keys,
      kept_length declaration_seen c.self.inside.list.items (keys units) o.list,
    )

pub returns : goal.returns
returns c =
    let o = opened c.self.inside c.args.self.now c.self.view_is c.self.invariant in
    let units = c.args.self.now.units in let table = c.self.inside.tables.variables in
    let all = variables_are units (map variable_of table.items) o.tables.variables in
    c.len.ensures ∙ (table.ok.0 ∙ kept_length variable_of table.items (variables units) all)
