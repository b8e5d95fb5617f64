use Rattle.std.proofs.Common.{◌≡◌, ℕ, List, map, take}
use Rattle.std.specs.Prelude.{is_some}
use Rattle.std.specs.List.{list_any}
use Rattle.std.specs.Map.{lookup}
use Rattle.asm_program.specs.Scopes.{is_same}
use Rattle.asm_program.specs.Seen.{declaration_seen}
use Rattle.linked_program.specs.Tables.{is_external_of}
use Rattle.linked_program.proofs.tables.declared_names.Given as goal

abbrev pub invariant-loop-d : goal.invariant-loop-d
invariant-loop-d l = record {
  names : (q : ℕ × List ℕ)
      → is_some (lookup (is_same q) l.names) ≡ list_any (is_external_of q) (take l.d-index (map declaration_seen l.all));
}
