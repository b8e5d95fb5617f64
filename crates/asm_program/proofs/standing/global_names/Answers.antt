use Rattle.std.proofs.Common.{◌≡◌, ◌∙◌, ◌<◌, ◌≤◌, length, get_or, map, ap, sym, arith}
use Rattle.std.proofs.Math.Seq.{take_all}
use Rattle.std.specs.List.{list_any}
use Rattle.std.specs.Str.{bytes_eq}
use Rattle.asm_program.specs.Seen.{declaration_seen}
use Rattle.asm_program.proofs.SeenLists.{seen_at, seen_length}
use Rattle.asm_program.proofs.StandingNames.{is_global_of, name_added, name_passed}
use Rattle.asm_program.proofs.standing.global_names.Goals as goal
use Rattle.asm_program.proofs.standing.global_names.Goals.{then-is_global_definition+in_ok-add, else-is_global_definition}

pub returns : goal.returns
returns c = λ v.
    let ds = map declaration_seen c.args.all.now in let i = c.loop-d.d-index in
    let le : length ds ≤ i = omega (arith, seen_length c.args.all.now) in
    c.loop-d.invariant.set v ∙ ap (list_any (is_global_of v)) (take_all i ds le)

pub loop-d-preserved : goal.loop-d-preserved
loop-d-preserved c =
    let all = c.args.all.now in let ds = map declaration_seen all in let i = c.loop-d.d-index in
    let d = declaration_seen c.d-item.result in
    let short : i < length all = omega arith in
    let lt : i < length ds = omega (arith, seen_length all) in
    let at : get_or ds i d ≡ d = seen_at all i c.d-item.result short c.d-item.is in
    record {
      set = λ v. elim c.if-is_global_definition.branch [
        | then-is_global_definition+in_ok-add w ↦
            ap (list_any (bytes_eq v)) w.set-is
            ∙ name_added v c.loop-d.set ds i d lt at (c.loop-d.invariant.set v) w.bytes.result.now w.add.new.self
            (w.bytes.ensures.text ∙ w.name.ensures)
            (sym c.is_global_definition.ensures ∙ w.if-is_global_definition.true) (w.in_ok-add.ensures v)
        | else-is_global_definition w ↦
            ap (list_any (bytes_eq v)) w.set-is
            ∙ name_passed v c.loop-d.set ds i d lt at (c.loop-d.invariant.set v)
            (sym c.is_global_definition.ensures ∙ w.if-is_global_definition.false)
      ];
    }
