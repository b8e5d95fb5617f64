use Rattle.std.proofs.Common.{◌≡◌, map, take}
use Rattle.asm_machine.specs.Executables.{key_named}
use Rattle.asm_machine.proofs.executable.keys_named.Given as goal

abbrev pub invariant-loop-x : goal.invariant-loop-x
invariant-loop-x g l = l.named.items ≡ map (key_named (g.P.KeyedProgram.program l.p).units l.unit) (take l.x-index l.code)
