-- In which version a unit is written, and the law of writing and reading.
use Rattle.std.specs.Prelude.{ℕ, Bool, false, not, ◌==◌, nat_le, length, IsTrue, if◌then◌else◌}
use Rattle.std.specs.List.{list_any}
use Rattle.std.specs.Option.{option_map_or}
use Rattle.asm_syntax.specs.declared.unit.Sig.{Sig}
use Rattle.asm_syntax.specs.declared.unit.External.{External}
use Rattle.asm_syntax.specs.declared.unit.Unit.{Unit}
use Rattle.asm_shapes.specs.Units.{unit_fits}
use Rattle.dump_reader.specs.declared.profile.TheConstants.{NEWEST}
use Rattle.dump_reader.specs.UnitTree as reader
use Rattle.dump_model.specs.Types.{is_typed_unit}
use Rattle.dump_model.specs.UnitTree.{unit_data}

abbrev pub sig_has_buffer : Sig → Bool
sig_has_buffer sig = not (length sig.buffers == 0)

abbrev pub has_buffer : External → Bool
has_buffer e = option_map_or sig_has_buffer e.sig false

-- the oldest version that has all of a unit: version 2 where some signature has a buffer
abbrev pub version_of : Unit → ℕ
version_of u = if list_any has_buffer u.externals then 2 else 1

-- the tree of a unit that fits is the tree of that unit, in every version that has all of it
abbrev pub UnitsReadBack : Type 0
UnitsReadBack =
    (u : Unit) (version : ℕ) → IsTrue (is_typed_unit u) → IsTrue (unit_fits u)
    → IsTrue (nat_le (version_of u) version) → IsTrue (nat_le version NEWEST) → reader.UnitTree (unit_data version u) u
