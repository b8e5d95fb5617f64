-- In areas of which kinds a part of a function may stand.
use Rattle.std.specs.Prelude.{Bool}
use Rattle.layout_model.specs.declared.kind.AreaKind.{AreaKind}
use Rattle.code_model.specs.Areas.{is_code_kind, is_table_kind}
use Rattle.expansions.specs.declared.area.Part.{Part}
use Rattle.expansions.specs.declared.area.Part.TheVariants.{Code, Table}

abbrev pub is_kind_of : Part → AreaKind → Bool
is_kind_of Code = is_code_kind
is_kind_of Table = is_table_kind
