-- What linking answers.
use Rattle.std.specs.Prelude.{◌≡◌, ℕ, true, ◌||◌, List, ◌++◌, map, position, Option, None, Result, Ok, if◌then◌else◌}
use Rattle.std.specs.Map.{lookup}
use Rattle.ordered_tests.specs.Checks.{Check}
use Rattle.ordered_tests.specs.Steps.{◌>>◌, all_pass}
use Rattle.asm_syntax.specs.declared.unit.Unit.{Unit}
use Rattle.asm_shapes.specs.Units.{function_fits, variable_fits, external_fits}
use Rattle.link_model.specs.declared.link_error.LinkError.{LinkError}
use Rattle.link_model.specs.Program.{Program, Item, OfFunction, OfVariable, OfExternal, keys, defines_global, unit_declares}
use Rattle.link_model.specs.Program.{is_global_named}
use Rattle.asm_program.specs.declared.keys.Keys.{Keys}
use Rattle.asm_program.specs.Scopes.{is_same, is_of}
use Rattle.asm_program.specs.Seen.{declaration_seen}
use Rattle.link_model.specs.LinkTests.{unit_tests, definition_tests, name_tests, sig_tests, link_tests}

-- the program of units that pass the tests of linking, or the first fault
abbrev pub linked : List Unit → List ℕ → Result Program LinkError
linked units entry = all_pass (link_tests units entry) >> Ok (record { units = units; entry = entry })

-- the tests before those of the entry and of sizes
abbrev pub all_name_tests : List Unit → List (Check LinkError)
all_name_tests units = unit_tests units ++ (definition_tests units ++ (name_tests units ++ sig_tests units))

-- what a name means in a unit that has no static definition of it
abbrev pub resolve_global : List Unit → ℕ → List ℕ → Option ℕ
resolve_global units u n =
    if defines_global units n || unit_declares units u n then position (is_global_named n) (keys units) else None

-- the keys of units, and the number of each name in its scope
pub record AreKeys (units : List Unit) (found : Keys) : Type 0 where
  pub list : map declaration_seen found.list.items ≡ keys units
  pub numbers : (q : ℕ × List ℕ) → lookup (is_same q) found.numbers ≡ position (is_of q) (keys units)

-- a dump may have it
abbrev pub Fits : Item → Type 0
Fits (OfFunction f) = function_fits f ≡ true
Fits (OfVariable x) = variable_fits x ≡ true
Fits (OfExternal x) = external_fits x ≡ true
