use Rattle.std.proofs.Common.{◌<◌, length, map, arith}
use Rattle.link_model.specs.Program.{keys}
use Rattle.linked_program.proofs.Opened.{opened}
use Rattle.link_model.specs.Numbers.{variables, is_variable}
use Rattle.linked_program.specs.Kinds.{variable_of, variable_key, key_numbers}
use Rattle.linked_program.proofs.ListReads.{kept_length, kept_read, variables_are, number_below, variable_number, variable_aligned}
use Rattle.linked_program.proofs.program.Program.align_of.Goals as goal

pub index-requires : goal.index-requires
index-requires c =
    let o = opened c.self.inside c.args.self.now c.self.view_is c.self.invariant in
    let units = c.args.self.now.units in let table = c.self.inside.tables.variables in
    let all = variables_are units (map variable_of table.items) o.tables.variables in
    omega (arith, kept_length variable_of table.items (variables units) all, table.ok.0, c.requires)

pub alignment-requires : goal.alignment-requires
alignment-requires c =
    let o = opened c.self.inside c.args.self.now c.self.view_is c.self.invariant in
    let units = c.args.self.now.units in let items = c.self.inside.tables.variables.items in let row = c.index.result.now in
    let all = variables_are units (map variable_of items) o.tables.variables in
    let lt : c.args.v < length (key_numbers is_variable (keys units)) =
    omega (
      arith,
      kept_length variable_of items (variables units) all,
      kept_length variable_key items (key_numbers is_variable (keys units)) o.tables.variable_keys,
      c.requires,
    ) in
    number_below is_variable (keys units) c.args.v row.key
    (kept_read variable_key items (key_numbers is_variable (keys units)) c.args.v row o.tables.variable_keys lt c.index.ensures)

pub returns : goal.returns
returns c =
    let o = opened c.self.inside c.args.self.now c.self.view_is c.self.invariant in
    let units = c.args.self.now.units in let items = c.self.inside.tables.variables.items in let row = c.index.result.now in
    let all = variables_are units (map variable_of items) o.tables.variables in
    let lt : c.args.v < length (key_numbers is_variable (keys units)) =
    omega (
      arith,
      kept_length variable_of items (variables units) all,
      kept_length variable_key items (key_numbers is_variable (keys units)) o.tables.variable_keys,
      c.requires,
    ) in
    variable_aligned units c.args.v row.key c.alignment.result
    (variable_number units c.args.v row.key
    (kept_read variable_key items (key_numbers is_variable (keys units)) c.args.v row o.tables.variable_keys lt c.index.ensures))
    c.alignment.ensures.value
