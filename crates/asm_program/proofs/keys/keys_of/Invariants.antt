use Rattle.std.proofs.Common.{◌≡◌, ◌≤◌, ℕ, List, [], length, map}
use Rattle.std.specs.List.{position_from}
use Rattle.std.specs.Map.{lookup}
use Rattle.link_model.specs.Sets.{first_of_each}
use Rattle.link_model.specs.Program.{same_key}
use Rattle.asm_program.specs.Scopes.{is_same, is_of}
use Rattle.asm_program.specs.Seen.{declaration_seen}
use Rattle.asm_program.proofs.KeySteps.{keys_with}
use Rattle.asm_program.proofs.keys.keys_of.Given as goal

abbrev pub invariant-loop-d : goal.invariant-loop-d
invariant-loop-d l = record {
  list : keys_with (map declaration_seen l.list.items) (map declaration_seen l.standing) l.d-index
      ≡ first_of_each same_key [] (map declaration_seen l.standing);
  numbers : (q : ℕ × List ℕ) → lookup (is_same q) l.numbers ≡ position_from (is_of q) 0 (map declaration_seen l.list.items);
  few : length l.list.items ≤ l.d-index;
}
