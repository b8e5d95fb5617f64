use Rattle.std.proofs.Common.{◌≡◌, ℕ, take}
use Rattle.std.specs.List.{enumerate_from}
use Rattle.link_model.specs.Program.{keys}
use Rattle.ppc_machine.specs.Externals.{external_at}
use Rattle.machine_runs.proofs.Outsides.{first_at}
use Rattle.machine_runs.proofs.externals.outside.Given as goal

abbrev pub invariant-loop-k : goal.invariant-loop-k
invariant-loop-k l = (a : ℕ) → external_at l.table a ≡ first_at l.addresses a (take l.k (enumerate_from 0 (keys l.program.units)))
