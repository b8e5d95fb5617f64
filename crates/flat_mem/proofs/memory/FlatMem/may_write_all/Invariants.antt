use Rattle.std.proofs.Common.{◌≡◌, ◌-◌}
use Rattle.flat_mem.specs.Memory.{may_write, each_from}
use Rattle.flat_mem.proofs.memory.FlatMem.may_write_all.Given as goal

abbrev pub invariant-loop-i : goal.invariant-loop-i
invariant-loop-i l = each_from (may_write l.self) l.n l.a ≡ each_from (may_write l.self) (l.n - l._i) l.at
