use Rattle.std.proofs.Common.{take}
use Rattle.std.specs.Prelude.{filter}
use Rattle.link_model.specs.Numbers.{is_variable}
use Rattle.link_model.specs.Program.{Declaration, keys}
use Rattle.asm_machine.specs.Parts.{HasVariables}
use Rattle.asm_machine.proofs.variables.variable_blocks.Given as goal

abbrev pub invariant-loop-k : goal.invariant-loop-k
invariant-loop-k g l =
    HasVariables (g.P.KeyedProgram.program l.p).units
    (filter (λ (d : Declaration). is_variable d.item) (take l.k (keys (g.P.KeyedProgram.program l.p).units))) l.blocks
