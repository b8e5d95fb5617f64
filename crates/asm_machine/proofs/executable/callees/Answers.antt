use Rattle.std.proofs.Common.{List, Option, [], ◌∷◌, ◌++◌, ap, arith, map, sym, ◌∙◌}
use Rattle.asm_syntax.specs.declared.unit.Sig.{Sig}
use Rattle.link_model.specs.Program.{Declaration, keys}
use Rattle.name_addresses.specs.Keys.{declared}
use Rattle.asm_machine.specs.Executables.{item_sig, sigs}
use Rattle.asm_machine.proofs.Keys.{all_taken, map_with}
use Rattle.asm_machine.proofs.executable.callees.Goals as goal

pub loop-k-preserved : goal.loop-k-preserved
loop-k-preserved g c =
    let ks = keys (g.P.KeyedProgram.program c.args.p.now).units in
    let d = declared c.key-key.result in
    let f : Declaration → Option Sig = λ e. item_sig e.item in
    c.in_ok-push.ensures.items
    ∙ ap (λ (x : Option Sig). c.loop-k.all.items ++ x ∷ []) c.item_callee.ensures
    ∙ ap (λ (l : List (Option Sig)). l ++ f d ∷ []) c.loop-k.invariant
    ∙ sym (map_with f ks c.loop-k.k d c.key-key.ensures.declared)

pub returns : goal.returns
unfolding sigs
returns g c =
    let ks = keys (g.P.KeyedProgram.program c.args.p.now).units in
    let f : Declaration → Option Sig = λ e. item_sig e.item in
    c.loop-k.invariant ∙ ap (map f) (all_taken ks c.loop-k.k c.key_count-k-end.result c.key_count-k-end.ensures.count (omega arith))
