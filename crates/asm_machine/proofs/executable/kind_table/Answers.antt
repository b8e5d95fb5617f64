use Rattle.std.proofs.Common.{arith}
use Rattle.link_model.specs.Numbers.{is_function, is_variable}
use Rattle.link_model.specs.Program.{is_external}
use Rattle.name_addresses.specs.Keys.{declared}
use Rattle.asm_machine.proofs.Keys.{kinds_step, number_few}
use Rattle.asm_machine.proofs.executable.kind_table.Goals as goal

pub push-requires-clause-functions : goal.push-requires-clause-functions
push-requires-clause-functions g c =
    omega (arith, number_few is_function (g.P.KeyedProgram.program c.args.p.now).units c.loop-k.k, c.loop-k.invariant.functions)

pub push-requires-clause-variables : goal.push-requires-clause-variables
push-requires-clause-variables g c =
    omega (arith, number_few is_variable (g.P.KeyedProgram.program c.args.p.now).units c.loop-k.k, c.loop-k.invariant.variables)

pub push-requires-clause-externals : goal.push-requires-clause-externals
push-requires-clause-externals g c =
    omega (arith, number_few is_external (g.P.KeyedProgram.program c.args.p.now).units c.loop-k.k, c.loop-k.invariant.externals)

pub loop-k-preserved : goal.loop-k-preserved
loop-k-preserved g c =
    kinds_step (g.P.KeyedProgram.program c.args.p.now).units c.loop-k.k c.loop-k.table c.push.new.self (declared c.key-key.result)
    c.loop-k.invariant c.key-key.ensures.declared c.in_ok-push.ensures.kinds c.push.ensures.functions c.push.ensures.variables
    c.push.ensures.externals
