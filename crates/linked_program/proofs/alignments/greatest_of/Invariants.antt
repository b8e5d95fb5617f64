use Rattle.std.proofs.Common.{◌≡◌, ◌≤◌, ℕ, List, map, take}
use Rattle.std.specs.Map.{lookup}
use Rattle.std.specs.Option.{unwrap_or}
use Rattle.asm_program.specs.Scopes.{is_same}
use Rattle.asm_program.specs.Seen.{declaration_seen}
use Rattle.linked_program.specs.Alignments.{greatest}
use Rattle.linked_program.proofs.alignments.greatest_of.Given as goal

abbrev pub invariant-loop-d : goal.invariant-loop-d
invariant-loop-d l = record {
  value : (q : ℕ × List ℕ) → unwrap_or (lookup (is_same q) l.numbers) 1 ≡ greatest q (take l.d-index (map declaration_seen l.all));
  range : (q : ℕ × List ℕ) → unwrap_or (lookup (is_same q) l.numbers) 1 ≤ 255;
}
