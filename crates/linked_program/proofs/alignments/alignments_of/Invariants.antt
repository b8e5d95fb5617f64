use Rattle.std.proofs.Common.{◌≡◌, ◌++◌, map, drop}
use Rattle.asm_program.specs.Seen.{declaration_seen}
use Rattle.linked_program.specs.Alignments.{alignment_in}
use Rattle.linked_program.proofs.alignments.alignments_of.Given as goal

abbrev pub invariant-loop-d : goal.invariant-loop-d
invariant-loop-d l = record {
  list : l.list.items ++ map (alignment_in (map declaration_seen l.all)) (map declaration_seen (drop l.d-index l.keys))
      ≡ map (alignment_in (map declaration_seen l.all)) (map declaration_seen l.keys);
}
