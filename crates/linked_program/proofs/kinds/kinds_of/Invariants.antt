use Rattle.std.proofs.Common.{◌≡◌, ◌≤◌, ◌++◌, map, drop}
use Rattle.asm_program.specs.Seen.{declaration_seen}
use Rattle.linked_program.proofs.KindLists.{kinds_behind}
use Rattle.linked_program.proofs.kinds.kinds_of.Given as goal

abbrev pub invariant-loop-d : goal.invariant-loop-d
invariant-loop-d l = record {
  list : l.list.items ++ kinds_behind l.functions l.variables l.externals (drop l.d-index (map declaration_seen l.keys))
      ≡ kinds_behind 0 0 0 (map declaration_seen l.keys);
  functions : l.functions ≤ l.d-index;
  variables : l.variables ≤ l.d-index;
  externals : l.externals ≤ l.d-index;
}
