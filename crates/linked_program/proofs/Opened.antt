-- What a program's fields hold, by the value that it is seen as.
use Rattle.std.proofs.Common.{◌≡◌, ◌≤◌, ◌+◌, ◌*◌, ℕ, List, length, map, position, Some, subst}
use Rattle.std.specs.Map.{lookup}
use Rattle.limits.specs.declared.TheConstants.{MOST_UNITS, MOST_FUNCTIONS, MOST_VARIABLES, MOST_EXTERNALS}
use Rattle.link_model.specs.Program.{Program, declarations, keys}
use Rattle.link_model.specs.Numbers as numbers
use Rattle.link_model.specs.LinkTests.{IsLinked}
use Rattle.asm_program.specs.Scopes.{is_same, is_of}
use Rattle.asm_program.specs.Seen.{declaration_seen}
use Rattle.linked_program.specs.Tables.{AreTables}
use Rattle.linked_program.specs.Program.{program_of, IsProgram}
use Rattle.linked_program.specs.declared.program.Program.TheInside.{Inside}

pub record Opened (v : Program) (p : Inside) : Type 0 where
  pub linked : IsLinked v
  pub few : length v.units ≤ MOST_UNITS
  pub list : map declaration_seen p.list.items ≡ keys v.units
  pub few_keys : length p.list.items ≤ MOST_UNITS * (MOST_FUNCTIONS + MOST_VARIABLES + MOST_EXTERNALS)
  pub entry : numbers.entry_key v.units v.entry ≡ Some p.entry_key
  pub names : (q : ℕ × List ℕ) → lookup (is_same q) p.numbers ≡ position (is_of q) (keys v.units)
  pub tables : AreTables (declarations v.units) (keys v.units) p.tables

pub opened : (p : Inside) (v : Program) → program_of p ≡ v → IsProgram p → Opened v p
opened p v e h = subst (λ (v : Program). Opened v p) e record {
  linked = h.linked;
  few = h.few;
  list = h.list;
  few_keys = h.few_keys;
  entry = h.entry;
  names = h.names;
  tables = h.tables;
}
