use Rattle.std.proofs.Common.{◌≡◌, ◌++◌, map, take}
use Rattle.link_model.specs.declared.owner.Owner.TheVariants as owners
use Rattle.expansions.specs.Tables.{table_claim}
use Rattle.key_passes.proofs.claims.add_tables.Given as goal

abbrev pub invariant-loop-table : goal.invariant-loop-table
invariant-loop-table l = record {
  claims : l.claims ≡ l.fn.claims ++ map (table_claim (owners.Table l.unit l.name)) (take l.table-index l.tables);
}
