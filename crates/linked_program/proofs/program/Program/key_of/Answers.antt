use Rattle.std.proofs.Common.{◌∙◌, ◌<◌, length, map, ap, subst, arith}
use Rattle.link_model.specs.Program.{keys}
use Rattle.linked_program.proofs.Opened.{opened}
use Rattle.link_model.specs.Program.{is_external}
use Rattle.link_model.specs.Numbers.{functions, variables, externals, is_function, is_variable, key_of}
use Rattle.linked_program.specs.Kinds.{function_of, function_key, variable_of, variable_key, external_of, external_key, key_numbers}
use Rattle.linked_program.specs.Kinds.{IsNumber}
use Rattle.linked_program.proofs.ListReads.{kept_length, kept_read, functions_are, variables_are, externals_are, number_below}
use Rattle.linked_program.proofs.ListReads.{function_number, variable_number, external_number}
use Rattle.linked_program.proofs.program.Program.key_of.Goals as goal

pub index-requires : goal.index-requires
index-requires c =
    let o = opened c.self.inside c.args.self.now c.self.view_is c.self.invariant in
    let units = c.args.self.now.units in let table = c.self.inside.tables.functions in
    let all = functions_are units (map function_of table.items) o.tables.functions in
    let lt = subst (IsNumber units) c.in-Function.is c.requires in
    omega (arith, kept_length function_of table.items (functions units) all, table.ok.0, lt)

pub returns-in-Function-clause-key : goal.returns-in-Function-clause-key
returns-in-Function-clause-key c =
    let o = opened c.self.inside c.args.self.now c.self.view_is c.self.invariant in
    let units = c.args.self.now.units in let items = c.self.inside.tables.functions.items in let row = c.index.result.now in
    let all = functions_are units (map function_of items) o.tables.functions in
    let below = subst (IsNumber units) c.in-Function.is c.requires in
    let lt : c.in-Function.n < length (key_numbers is_function (keys units)) =
    omega (
      arith,
      kept_length function_of items (functions units) all,
      kept_length function_key items
          (key_numbers is_function (keys units)) o.tables.function_keys,
      below,
    ) in
    ap (key_of units) c.in-Function.is
    ∙ function_number units c.in-Function.n row.key
    (kept_read function_key items (key_numbers is_function (keys units)) c.in-Function.n row o.tables.function_keys lt c.index.ensures)

pub returns-in-Function-clause-range : goal.returns-in-Function-clause-range
returns-in-Function-clause-range c =
    let o = opened c.self.inside c.args.self.now c.self.view_is c.self.invariant in
    let units = c.args.self.now.units in let items = c.self.inside.tables.functions.items in let row = c.index.result.now in
    let all = functions_are units (map function_of items) o.tables.functions in
    let below = subst (IsNumber units) c.in-Function.is c.requires in
    let lt : c.in-Function.n < length (key_numbers is_function (keys units)) =
    omega (
      arith,
      kept_length function_of items (functions units) all,
      kept_length function_key items
          (key_numbers is_function (keys units)) o.tables.function_keys,
      below,
    ) in
    number_below is_function (keys units) c.in-Function.n row.key
    (kept_read function_key items (key_numbers is_function (keys units)) c.in-Function.n row o.tables.function_keys lt c.index.ensures)

pub index-requires-in-Variable : goal.index-requires-in-Variable
index-requires-in-Variable c =
    let o = opened c.self.inside c.args.self.now c.self.view_is c.self.invariant in
    let units = c.args.self.now.units in let table = c.self.inside.tables.variables in
    let all = variables_are units (map variable_of table.items) o.tables.variables in
    let lt = subst (IsNumber units) c.in-Variable.is c.requires in
    omega (arith, kept_length variable_of table.items (variables units) all, table.ok.0, lt)

pub returns-in-Variable-clause-key : goal.returns-in-Variable-clause-key
returns-in-Variable-clause-key c =
    let o = opened c.self.inside c.args.self.now c.self.view_is c.self.invariant in
    let units = c.args.self.now.units in let items = c.self.inside.tables.variables.items in let row = c.index-in-Variable.result.now in
    let all = variables_are units (map variable_of items) o.tables.variables in
    let below = subst (IsNumber units) c.in-Variable.is c.requires in
    let lt : c.in-Variable.n < length (key_numbers is_variable (keys units)) =
    omega (
      arith,
      kept_length variable_of items (variables units) all,
      kept_length variable_key items
          (key_numbers is_variable (keys units)) o.tables.variable_keys,
      below,
    ) in
    ap (key_of units) c.in-Variable.is
    ∙ variable_number units c.in-Variable.n row.key
    (kept_read variable_key items (key_numbers is_variable (keys units)) c.in-Variable.n row o.tables.variable_keys lt
    c.index-in-Variable.ensures)

pub returns-in-Variable-clause-range : goal.returns-in-Variable-clause-range
returns-in-Variable-clause-range c =
    let o = opened c.self.inside c.args.self.now c.self.view_is c.self.invariant in
    let units = c.args.self.now.units in let items = c.self.inside.tables.variables.items in let row = c.index-in-Variable.result.now in
    let all = variables_are units (map variable_of items) o.tables.variables in
    let below = subst (IsNumber units) c.in-Variable.is c.requires in
    let lt : c.in-Variable.n < length (key_numbers is_variable (keys units)) =
    omega (
      arith,
      kept_length variable_of items (variables units) all,
      kept_length variable_key items
          (key_numbers is_variable (keys units)) o.tables.variable_keys,
      below,
    ) in
    number_below is_variable (keys units) c.in-Variable.n row.key
    (kept_read variable_key items (key_numbers is_variable (keys units)) c.in-Variable.n row o.tables.variable_keys lt
    c.index-in-Variable.ensures)

pub index-requires-in-External : goal.index-requires-in-External
index-requires-in-External c =
    let o = opened c.self.inside c.args.self.now c.self.view_is c.self.invariant in
    let units = c.args.self.now.units in let table = c.self.inside.tables.externals in
    let all = externals_are units (map external_of table.items) o.tables.externals in
    let lt = subst (IsNumber units) c.in-External.is c.requires in
    omega (arith, kept_length external_of table.items (externals units) all, table.ok.0, lt)

pub returns-in-External-clause-key : goal.returns-in-External-clause-key
returns-in-External-clause-key c =
    let o = opened c.self.inside c.args.self.now c.self.view_is c.self.invariant in
    let units = c.args.self.now.units in let items = c.self.inside.tables.externals.items in let row = c.index-in-External.result.now in
    let all = externals_are units (map external_of items) o.tables.externals in
    let below = subst (IsNumber units) c.in-External.is c.requires in
    let lt : c.in-External.n < length (key_numbers is_external (keys units)) =
    omega (
      arith,
      kept_length external_of items (externals units) all,
      kept_length external_key items
          (key_numbers is_external (keys units)) o.tables.external_keys,
      below,
    ) in
    ap (key_of units) c.in-External.is
    ∙ external_number units c.in-External.n row.key
    (kept_read external_key items (key_numbers is_external (keys units)) c.in-External.n row o.tables.external_keys lt
    c.index-in-External.ensures)

pub returns-in-External-clause-range : goal.returns-in-External-clause-range
returns-in-External-clause-range c =
    let o = opened c.self.inside c.args.self.now c.self.view_is c.self.invariant in
    let units = c.args.self.now.units in let items = c.self.inside.tables.externals.items in let row = c.index-in-External.result.now in
    let all = externals_are units (map external_of items) o.tables.externals in
    let below = subst (IsNumber units) c.in-External.is c.requires in
    let lt : c.in-External.n < length (key_numbers is_external (keys units)) =
    omega (
      arith,
      kept_length external_of items (externals units) all,
      kept_length external_key items
          (key_numbers is_external (keys units)) o.tables.external_keys,
      below,
    ) in
    number_below is_external (keys units) c.in-External.n row.key
    (kept_read external_key items (key_numbers is_external (keys units)) c.in-External.n row o.tables.external_keys lt
    c.index-in-External.ensures)
