use Rattle.std.proofs.Common.{ap, arith, ◌∙◌}
use Rattle.asm_step.specs.LinkedCode.{Linked}
use Rattle.asm_step.specs.State.{State}
use Rattle.asm_machine.specs.Cpus.{Cpu}
use Rattle.asm_machine.proofs.Starting.{first_counted, first_is}
use Rattle.asm_machine.proofs.machine.AsmCpu.start.Goals as goal

pub alloc_block-requires : goal.alloc_block-requires
alloc_block-requires g c = omega (arith, c.in_ok-blocks.ensures.few)

pub invariant_of-result : goal.invariant_of-result
invariant_of-result g c =
    first_counted c.in_ok-blocks.blocks c.alloc_block.new.self c.new.result c.made-variables.result c.cells-base.result
    c.made-variables.ensures.value
    c.in_ok-blocks.ensures.made.below c.in_ok-blocks.ensures.few c.in_ok-root.ensures.made.1 c.cells-base.ensures
    (ap (λ (s : State). s.live) c.new.ensures) (ap (λ (s : State). s.next) c.new.ensures)

pub returns : goal.returns
returns g c =
    let p = g.P.KeyedProgram.program c.args.p.now in
    let made : State → Cpu = λ s. record { state = s; variables = c.made-variables.result; deepest = 0 } in
    let kinds = c.kinds-2.ensures ∙ ap (λ (l : Linked). l.kinds) c.requires.code in
    ap made c.new.ensures
    ∙ first_is p c.in_ok-blocks.blocks c.alloc_block.new.self c.made-variables.result c.in_ok-root.root c.args.entry c.first_file.result
    c.symbol_value-place.result c.kinds-2.result.now c.in_ok-blocks.ensures.made c.made-variables.ensures.value c.in_ok-root.ensures.made.0
    c.in_ok-root.ensures.made.1 c.first_file.ensures c.symbol_value-place.ensures kinds c.requires.entry
