use Rattle.std.proofs.Common.{◌≡◌, ℕ, List, map, take}
use Rattle.std.specs.List.{list_any}
use Rattle.std.specs.Str.{bytes_eq}
use Rattle.asm_program.specs.Seen.{declaration_seen}
use Rattle.asm_program.proofs.StandingNames.{is_global_of}
use Rattle.asm_program.proofs.standing.global_names.Given as goal

abbrev pub invariant-loop-d : goal.invariant-loop-d
invariant-loop-d l = record {
  set : (v : List ℕ) → list_any (bytes_eq v) l.set ≡ list_any (is_global_of v) (take l.d-index (map declaration_seen l.all));
}
