use Rattle.std.proofs.Common.{List, ◌++◌, ap, arith, sym, ◌∙◌}
use Rattle.std.specs.Prelude.{flat_map}
use Rattle.asm_step.specs.LinkedCode.{Routine}
use Rattle.link_model.specs.Program.{Declaration, keys}
use Rattle.name_addresses.specs.Keys.{declared}
use Rattle.asm_machine.specs.Executables.{item_routines, routines}
use Rattle.asm_machine.proofs.Keys.{all_taken, flat_map_with}
use Rattle.asm_machine.proofs.executable.routines.Goals as goal

pub loop-k-preserved : goal.loop-k-preserved
loop-k-preserved g c =
    let units = (g.P.KeyedProgram.program c.args.p.now).units in
    let d = declared c.key-key.result in
    let f : Declaration → List Routine = λ e. item_routines units e.unit e.item in
    c.in_ok-push_routine.ensures ∙ ap (λ (l : List Routine). l ++ f d) c.loop-k.invariant
    ∙ sym (flat_map_with f (keys units) c.loop-k.k d c.key-key.ensures.declared)

pub returns : goal.returns
unfolding routines
returns g c =
    let units = (g.P.KeyedProgram.program c.args.p.now).units in
    let f : Declaration → List Routine = λ e. item_routines units e.unit e.item in
    c.loop-k.invariant ∙ ap (flat_map f)
    (all_taken (keys units) c.loop-k.k c.key_count-k-end.result c.key_count-k-end.ensures.count (omega arith))
