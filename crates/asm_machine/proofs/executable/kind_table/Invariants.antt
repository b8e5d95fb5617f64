use Rattle.asm_machine.specs.Parts.{HasKinds}
use Rattle.asm_machine.proofs.executable.kind_table.Given as goal

abbrev pub invariant-loop-k : goal.invariant-loop-k
invariant-loop-k g l = HasKinds (g.P.KeyedProgram.program l.p).units l.k l.table
