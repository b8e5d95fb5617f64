use Rattle.std.proofs.Common.{◌≡◌, map, drop}
use Rattle.std.specs.List.{position_from}
use Rattle.asm_program.specs.Seen.{declaration_seen}
use Rattle.linked_program.proofs.LoopSteps.{is_entry_of}
use Rattle.linked_program.proofs.tables.entry_of.Given as goal

abbrev pub invariant-loop-k : goal.invariant-loop-k
invariant-loop-k l = record {
  place : position_from (is_entry_of l.entry) l.k (drop l.k (map declaration_seen l.keys))
      ≡ position_from (is_entry_of l.entry) 0 (map declaration_seen l.keys);
}
