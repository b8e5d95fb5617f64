use Rattle.std.proofs.Common.{◌≡◌, map, take}
use Rattle.link_model.specs.Program.{Declaration, keys}
use Rattle.asm_machine.specs.Executables.{item_sig}
use Rattle.asm_machine.proofs.executable.callees.Given as goal

abbrev pub invariant-loop-k : goal.invariant-loop-k
invariant-loop-k g l = l.all.items ≡ map (λ (d : Declaration). item_sig d.item) (take l.k (keys (g.P.KeyedProgram.program l.p).units))
