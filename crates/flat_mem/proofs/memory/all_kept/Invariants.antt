use Rattle.std.proofs.Common.{◌≡◌, map, take}
use Rattle.flat_mem.specs.Built.{kept}
use Rattle.flat_mem.proofs.memory.all_kept.Given as goal

abbrev pub invariant-loop-i : goal.invariant-loop-i
invariant-loop-i l = l.regions.items ≡ map kept (take l.i l.view.segments)
