-- What keys stand for.
use Rattle.std.specs.Prelude.{◌≡◌, true}
use Rattle.link_model.specs.Program.{Item, OfFunction, OfVariable, OfExternal, Declaration}
use Rattle.asm_shapes.specs.Units.{function_fits, variable_fits, external_fits}
use Rattle.name_addresses.specs.declared.keys.Key.{Key}
use Rattle.name_addresses.specs.declared.keys.KeyItem.{KeyItem}
use Rattle.name_addresses.specs.declared.keys.KeyItem.TheVariants as items

abbrev pub declared_item : KeyItem → Item
declared_item (items.Function f) = OfFunction f.now
declared_item (items.Variable x) = OfVariable x.now
declared_item (items.External x) = OfExternal x.now

-- the declaration of a key
abbrev pub declared : Key → Declaration
declared key = record { unit = key.unit; item = declared_item key.item }

-- a dump may have it
abbrev pub ItemFits : KeyItem → Type 0
ItemFits (items.Function f) = function_fits f.now ≡ true
ItemFits (items.Variable x) = variable_fits x.now ≡ true
ItemFits (items.External x) = external_fits x.now ≡ true
