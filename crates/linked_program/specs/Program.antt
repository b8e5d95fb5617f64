-- The program that is seen of a linked one, and what holds of its tables.
use Rattle.std.specs.Prelude.{◌≡◌, ◌≤◌, ◌+◌, ◌*◌, ℕ, List, length, map, position, Some}
use Rattle.std.specs.Map.{lookup}
use Rattle.limits.specs.declared.TheConstants.{MOST_UNITS, MOST_FUNCTIONS, MOST_VARIABLES, MOST_EXTERNALS}
use Rattle.link_model.specs.Program.{Program, declarations, keys}
use Rattle.link_model.specs.Numbers as numbers
use Rattle.link_model.specs.LinkTests.{IsLinked}
use Rattle.asm_program.specs.Scopes.{is_same, is_of}
use Rattle.asm_program.specs.Seen.{declaration_seen}
use Rattle.linked_program.specs.Tables.{AreTables}
use Rattle.linked_program.specs.declared.program.Program.TheInside.{Inside}

abbrev pub program_of : Inside → Program
program_of p = record { units = p.units.now; entry = p.entry }

pub record IsProgram (p : Inside) : Type 0 where
  pub linked : IsLinked (program_of p)
  pub few : length p.units.now ≤ MOST_UNITS
  pub list : map declaration_seen p.list.items ≡ keys p.units.now
  pub few_keys : length p.list.items ≤ MOST_UNITS * (MOST_FUNCTIONS + MOST_VARIABLES + MOST_EXTERNALS)
  pub entry : numbers.entry_key p.units.now p.entry ≡ Some p.entry_key
  pub names : (q : ℕ × List ℕ) → lookup (is_same q) p.numbers ≡ position (is_of q) (keys p.units.now)
  pub tables : AreTables (declarations p.units.now) (keys p.units.now) p.tables
