use Rattle.std.proofs.Common.{◌≡◌, take}
use Rattle.std.specs.Prelude.{flat_map}
use Rattle.link_model.specs.Program.{Declaration, keys}
use Rattle.asm_machine.specs.Executables.{item_routines}
use Rattle.asm_machine.proofs.executable.routines.Given as goal

abbrev pub invariant-loop-k : goal.invariant-loop-k
invariant-loop-k g l =
    l.all.items ≡ flat_map (λ (d : Declaration). item_routines (g.P.KeyedProgram.program l.p).units d.unit d.item)
    (take l.k (keys (g.P.KeyedProgram.program l.p).units))
