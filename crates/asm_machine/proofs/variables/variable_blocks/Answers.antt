use Rattle.std.proofs.Common.{[], arith, subst, sym}
use Rattle.asm_mem.specs.Blocks.{Memory}
use Rattle.link_model.specs.Numbers.{is_variable}
use Rattle.link_model.specs.Program.{keys}
use Rattle.name_addresses.specs.Keys.{declared}
use Rattle.asm_machine.specs.Parts.{HasVariables}
use Rattle.asm_machine.proofs.Keys.{all_variables, no_variables, number_few, variables_step}
use Rattle.asm_machine.proofs.variables.variable_blocks.Goals as goal

pub loop-k-init : goal.loop-k-init
loop-k-init g c =
    let units = (g.P.KeyedProgram.program c.args.p.now).units in
    let P = λ (m : Memory). HasVariables units [] m in
    subst P (sym c.new-blocks.ensures) (no_variables units)

pub put_key-requires-clause-next : goal.put_key-requires-clause-next
put_key-requires-clause-next g c =
    omega (
      arith,
      number_few is_variable (g.P.KeyedProgram.program c.args.p.now).units c.loop-k.k,
      c.loop-k.invariant.next,
      c.key_count-k-end.ensures.few,
    )

pub loop-k-preserved : goal.loop-k-preserved
loop-k-preserved g c =
    let units = (g.P.KeyedProgram.program c.args.p.now).units in
    variables_step units (keys units) c.loop-k.k (declared c.key-key.result) c.loop-k.blocks c.put_key.new.blocks c.key-key.ensures.declared
    c.loop-k.invariant c.in_ok-put_key.ensures

pub returns-clause-made : goal.returns-clause-made
returns-clause-made g c =
    let units = (g.P.KeyedProgram.program c.args.p.now).units in
    all_variables units c.loop-k.k c.key_count-k-end.result c.loop-k.blocks c.key_count-k-end.ensures.count (omega arith) c.loop-k.invariant

pub returns-clause-few : goal.returns-clause-few
returns-clause-few g c =
    omega (
      arith,
      number_few is_variable (g.P.KeyedProgram.program c.args.p.now).units c.loop-k.k,
      c.loop-k.invariant.next,
      c.key_count-k-end.ensures.few,
    )
