use Rattle.std.proofs.Common.{◌≡◌, ◌++◌, take, string_bytes}
use Rattle.std.specs.List.{flat_map}
use Rattle.run_text.specs.Texts.{read_text}
use Rattle.run_text.proofs.event.push_reads.Given as goal

abbrev pub invariant-loop-list : goal.invariant-loop-list
invariant-loop-list l = string_bytes l.out ≡ string_bytes l.initial.out ++ flat_map read_text (take l.list-index l.lists)
