-- The number of an error, and the offset in the file that it names.
use Rattle.std.specs.Prelude.{ℕ}
use Rattle.image_model.specs.declared.error.ElfError.{ElfError}
use Rattle.image_model.specs.declared.error.ElfError.TheVariants.{Short, Ident, Kind, Machine, EntrySize, Dynamic, SegRange, SegOverlap}
use Rattle.image_model.specs.declared.error.ElfError.TheVariants.{NoSymtab, TwoSymtabs, SymRange, NameEnd, Limit}

abbrev pub offset_of : ElfError → ℕ
offset_of (Short at) = at
offset_of (Ident at) = at
offset_of (Kind at) = at
offset_of (Machine at) = at
offset_of (EntrySize at) = at
offset_of (Dynamic at) = at
offset_of (SegRange at) = at
offset_of (SegOverlap at) = at
offset_of (NoSymtab at) = at
offset_of (TwoSymtabs at) = at
offset_of (SymRange at) = at
offset_of (NameEnd at) = at
offset_of (Limit at most) = at

abbrev pub number_of : ElfError → ℕ
number_of (Short at) = 1
number_of (Ident at) = 2
number_of (Kind at) = 3
number_of (Machine at) = 4
number_of (EntrySize at) = 5
number_of (Dynamic at) = 6
number_of (SegRange at) = 7
number_of (SegOverlap at) = 8
number_of (NoSymtab at) = 9
number_of (TwoSymtabs at) = 10
number_of (SymRange at) = 11
number_of (NameEnd at) = 12
number_of (Limit at most) = 13
