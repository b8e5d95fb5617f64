-- An array that is being built.
use Rattle.std.specs.Prelude.{List, map}
use Rattle.serde_json.specs.Data.{Data}
use Rattle.serde_json.specs.View.{view}
use Rattle.dump_writer.specs.declared.tree.Row.{Row}

-- the trees of its items so far
abbrev pub row_items : Row → List Data
row_items row = map view row.values.items
