-- A symbol without its name, and the start of its name. System V gABI, "Symbol Table", "String Table".
use Rattle.std.specs.Prelude.{ℕ, List, [], take, slice_get}
use Rattle.std.specs.Option.{option_map_or}
use Rattle.image_model.specs.declared.symbol.SymbolFields.{SymbolFields}
use Rattle.image_model.specs.declared.symbol.TheConstants.{NAME_START_BYTES}
use Rattle.image_model.specs.Image.{Symbol}

abbrev pub fields_of : Symbol → SymbolFields
fields_of s = record { value = s.value; size = s.size; binding = s.binding; kind = s.kind; shndx = s.shndx }

-- the first bytes of a symbol's name, which are the name where it has no more
abbrev pub name_start : Symbol → List ℕ
name_start s = take NAME_START_BYTES s.name

-- the start of the name of symbol i; past the last symbol it is empty
abbrev pub name_start_at : List Symbol → ℕ → List ℕ
name_start_at symbols i = option_map_or name_start (slice_get symbols i) []
