-- Accounts as contracts see them.
use Rattle.std.specs.Prelude.{ℕ, ◌-◌, Bool, map, if◌then◌else◌}
use Rattle.link_model.specs.declared.owner.Owner.{Owner}
use Rattle.link_model.specs.Claims.{Claim}
use Rattle.link_model.specs.Account as model
use Rattle.coverage.specs.declared.account.Account.{Account}
use Rattle.coverage.specs.declared.account.Part.{Part}
use Rattle.coverage.specs.declared.account.Part.TheVariants as parts
use Rattle.coverage.specs.Orders.{claim_seen}

abbrev pub is_part : Part → Owner → Bool
is_part parts.Functions owner = model.is_function_owner owner
is_part parts.Tables owner = model.is_table_owner owner
is_part parts.Variables owner = model.is_variable_owner owner

-- what a claim adds to a part
abbrev pub part_claims : Part → Claim → ℕ
part_claims part c = if is_part part c.owner then 1 else 0

abbrev pub part_bytes : Part → Claim → ℕ
part_bytes part c = if is_part part c.owner then c.range.hi - c.range.lo else 0

abbrev pub account_seen : Account → model.Account
account_seen a = record {
  functions = a.functions;
  function_bytes = a.function_bytes;
  tables = a.tables;
  table_bytes = a.table_bytes;
  variables = a.variables;
  variable_bytes = a.variable_bytes;
  externals = a.externals;
  padding = a.padding;
  foreign = a.foreign;
  loaded = a.loaded;
  spans = map claim_seen a.spans;
}
