-- In which areas of a layout code, tables and variables may stand.
use Rattle.std.specs.Prelude.{Bool, true, false, not, ◌&&◌}
use Rattle.std.specs.List.{list_any}
use Rattle.word_ops.specs.Ranges.{Extent, is_inside}
use Rattle.layout_model.specs.declared.kind.AreaKind.{AreaKind}
use Rattle.layout_model.specs.declared.kind.AreaKind.TheVariants.{Code, Fixed, Writable, Sda13, Sda2, Sda0}
use Rattle.layout_model.specs.Layouts.{Area, Layout}

abbrev pub is_code_kind : AreaKind → Bool
is_code_kind Code = true
is_code_kind _ = false

-- a table of addresses may stand among code or among constant data
abbrev pub is_table_kind : AreaKind → Bool
is_table_kind Code = true
is_table_kind Fixed = true
is_table_kind _ = false

-- a variable that the program may write stands among data that it may write, another one in any data
abbrev pub is_data_kind : Bool → AreaKind → Bool
is_data_kind writable Writable = true
is_data_kind writable Sda13 = true
is_data_kind writable Sda0 = true
is_data_kind writable Fixed = not writable
is_data_kind writable Sda2 = not writable
is_data_kind writable Code = false

-- one area of a kind has the whole range
abbrev pub is_in_one_area : Layout → (AreaKind → Bool) → Extent → Bool
is_in_one_area l is_kind range = list_any (λ (area : Area). is_kind area.kind && is_inside range area.range) l.areas
