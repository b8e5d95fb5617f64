use Rattle.std.proofs.Common.{◌≡◌, ◌∙◌, ◌<◌, ◌≤◌, length, get_or, map, ap, sym, arith}
use Rattle.std.proofs.Math.Seq.{take_all}
use Rattle.std.specs.Prelude.{is_some}
use Rattle.std.specs.List.{list_any}
use Rattle.std.specs.Map.{lookup}
use Rattle.asm_program.specs.Scopes.{is_same}
use Rattle.asm_program.specs.Seen.{declaration_seen}
use Rattle.asm_program.proofs.SeenLists.{seen_at, seen_length}
use Rattle.linked_program.specs.Tables.{is_external_of}
use Rattle.linked_program.proofs.LoopSteps.{external_set, external_passed}
use Rattle.linked_program.proofs.tables.declared_names.Goals as goal
use Rattle.linked_program.proofs.tables.declared_names.Goals.{then-is_external+in_ok-set, else-is_external}

pub returns : goal.returns
returns c = λ q.
    let ds = map declaration_seen c.args.all.now in
    let le : length ds ≤ c.loop-d.d-index = omega (arith, seen_length c.args.all.now) in
    ap (λ t. is_some (lookup (is_same q) t)) c.in_ok-table.ensures
    ∙ (c.loop-d.invariant.names q ∙ ap (list_any (is_external_of q)) (take_all c.loop-d.d-index ds le))

pub loop-d-preserved : goal.loop-d-preserved
loop-d-preserved c =
    let all = c.args.all.now in let ds = map declaration_seen all in let i = c.loop-d.d-index in let d = declaration_seen c.d-item.result in
    let short : i < length all = omega arith in
    let lt : i < length ds = omega (arith, seen_length all) in
    let at : get_or ds i d ≡ d = seen_at all i c.d-item.result short c.d-item.is in
    record {
      names = λ q. elim c.if-is_external.branch [
        | then-is_external+in_ok-set w ↦
            ap (λ t. is_some (lookup (is_same q) t)) w.names-is
            ∙ external_set q c.loop-d.names ds i d lt at (c.loop-d.invariant.names q) w.set.new.self (w.from.result, w.bytes.result.now) 0
            (λ j. (w.from.ensures j, (w.bytes.ensures.text ∙ w.name.ensures) j))
            (sym c.is_external.ensures ∙ w.if-is_external.true) (w.in_ok-set.ensures q)
        | else-is_external w ↦
            ap (λ t. is_some (lookup (is_same q) t)) w.names-is
            ∙ external_passed q c.loop-d.names ds i d lt at (c.loop-d.invariant.names q)
            (sym c.is_external.ensures ∙ w.if-is_external.false)
      ];
    }
