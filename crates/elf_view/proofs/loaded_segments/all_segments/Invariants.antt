use Rattle.std.proofs.Common.{◌≡◌, take, map}
use Rattle.std.specs.Prelude.{All}
use Rattle.elf_view.specs.ByAddress.{IsNumbered, numbered_seen}
use Rattle.elf_view.proofs.loaded_segments.all_segments.Given as goal

abbrev pub invariant-loop-number : goal.invariant-loop-number
invariant-loop-number l = record {
  seen : map numbered_seen l.list.items ≡ take l.number l.view.segments;
  numbers : All (IsNumbered l.view.segments) l.list.items;
}
