use Rattle.std.proofs.Common.{◌≡◌, ◌-◌}
use Rattle.flat_mem.specs.Memory.{is_mapped, each_from}
use Rattle.flat_mem.proofs.memory.FlatMem.are_mapped.Given as goal

abbrev pub invariant-loop-i : goal.invariant-loop-i
invariant-loop-i l = each_from (is_mapped l.self) l.n l.a ≡ each_from (is_mapped l.self) (l.n - l._i) l.at
