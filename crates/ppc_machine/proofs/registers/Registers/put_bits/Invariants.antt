use Rattle.std.proofs.Common.{◌≡◌}
use Rattle.effect_model.specs.Files.{put_bits}
use Rattle.ppc_machine.proofs.registers.Registers.put_bits.Given as goal

abbrev pub invariant-loop-n : goal.invariant-loop-n
invariant-loop-n l = l.self ≡ put_bits l.initial.self l.w l.from l.n
