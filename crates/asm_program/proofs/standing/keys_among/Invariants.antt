use Rattle.std.proofs.Common.{◌≡◌, ◌++◌, map, drop}
use Rattle.std.specs.Prelude.{filter}
use Rattle.asm_program.specs.Seen.{declaration_seen}
use Rattle.asm_program.specs.Standing.{stands_by}
use Rattle.asm_program.proofs.standing.keys_among.Given as goal

abbrev pub invariant-loop-d : goal.invariant-loop-d
invariant-loop-d l = record {
  list : map declaration_seen l.list.items ++ filter (stands_by l.defined l.referred) (map declaration_seen (drop l.d-index l.all))
      ≡ filter (stands_by l.defined l.referred) (map declaration_seen l.all);
}
