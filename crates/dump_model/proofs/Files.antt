-- The text of a unit is read as the unit.
use Rattle.std.proofs.Common.{◌≡◌, ◌≤◌, true, List, ℕ, Some, Ok, refl}
use Rattle.std.specs.Prelude.{nat_le}
use Rattle.std.specs.Str.{IsUtf8}
use Rattle.std.proofs.lemmas.Str.{is_utf8-from_IsUtf8}
use Rattle.serde_json.specs.Data.{Data, depth}
use Rattle.serde_json.specs.Read.{max_depth, read}
use Rattle.asm_syntax.specs.declared.unit.Unit.{Unit}
use Rattle.asm_shapes.specs.Units.{unit_fits}
use Rattle.json_tree.specs.Profile.{tree_of}
use Rattle.dump_reader.specs.declared.profile.TheConstants.{NEWEST}
use Rattle.dump_reader.specs.DumpFile.{unit_file}
use Rattle.dump_model.specs.Types.{is_typed_unit}
use Rattle.dump_model.specs.UnitTree.{unit_data}
use Rattle.dump_model.specs.Written.{version_of}
use Rattle.dump_model.proofs.Units.{unit_back}
use Rattle.dump_model.proofs.Depths.{shallow, no_float}

pub file_back : (u : Unit) (version : ℕ) (bytes : List ℕ) (d : Data) → is_typed_unit u ≡ true → unit_fits u ≡ true
    → nat_le (version_of u) version ≡ true → nat_le version NEWEST ≡ true → d ≡ unit_data version u → IsUtf8 bytes
    → (depth d ≤ max_depth → read bytes ≡ Some d) → unit_file bytes ≡ Ok u
unfolding tree_of
file_back u version bytes d typed fits old new is text reads =
    let found : read bytes ≡ Some (unit_data version u) = rw is at reads (shallow version u) in
    rw (is_utf8-from_IsUtf8 bytes text, found, unit_back u version typed fits old new) refl

pub ruleset back = (file_back, no_float)
