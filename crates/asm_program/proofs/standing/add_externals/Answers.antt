use Rattle.std.proofs.Common.{◌≡◌, ◌∙◌, ◌<◌, ◌≤◌, ℕ, List, length, get_or, ap, sym, arith, Bor}
use Rattle.std.proofs.Math.Seq.{take_all}
use Rattle.std.proofs.lemmas.List.{get_or-map, length-map}
use Rattle.std.specs.List.{list_any}
use Rattle.std.specs.Str.{bytes_eq}
use Rattle.asm_program.specs.Texts.{texts}
use Rattle.asm_program.proofs.StandingNames.{are_externals, used_added, used_passed, not_declared, defined_too}
use Rattle.asm_program.proofs.standing.add_externals.Goals as goal
use Rattle.asm_program.proofs.standing.add_externals.Goals.{then-contains+then-not-contains+in_ok-add, else-contains}
use Rattle.asm_program.proofs.standing.add_externals.Goals.{else-contains-via-then-contains+else-not-contains}
use Rattle.asm_program.proofs.standing.add_externals.Goals.{else-contains-via-else-contains}

pub returns : goal.returns
returns c = λ v.
    let names = c.args.names.now in let i = c.loop-name.name-index in
    let le : length (texts names) ≤ i = omega (arith, length-map names (λ (n : Bor (List ℕ)). n.now)) in
    c.loop-name.invariant.set v
    ∙ ap (λ used. are_externals (list_any (bytes_eq v) c.args.referred.now) v used c.args.declared.now c.args.defined.now)
    (take_all i (texts names) le)

pub loop-name-preserved : goal.loop-name-preserved
loop-name-preserved c =
    let names = c.args.names.now in let ns = texts names in let i = c.loop-name.name-index in let m = c.bytes-name.result.now in
    let declared = c.args.declared.now in let defined = c.args.defined.now in
    let short : i < length names = omega arith in
    let lt : i < length ns = omega (arith, length-map names (λ (n : Bor (List ℕ)). n.now)) in
    let at : get_or ns i m ≡ m =
    get_or-map (λ (n : Bor (List ℕ)). n.now) names i c.name-item.result m short
    ∙ (ap (λ (n : Bor (List ℕ)). n.now) (sym c.name-item.is) ∙ sym c.bytes-name.ensures.text) in
    record {
      set = λ v.
          let o = list_any (bytes_eq v) c.args.referred.now in
          elim c.if-contains.branch [
            | then-contains+then-not-contains+in_ok-add w ↦
                ap (list_any (bytes_eq v)) w.referred-is
                ∙ used_added o v m c.loop-name.referred declared defined ns i lt at (c.loop-name.invariant.set v) w.add.new.self
                (sym c.contains.ensures ∙ w.if-contains.true)
                (sym w.contains-then-contains.ensures ∙ w.if-not-contains.true) (w.in_ok-add.ensures v)
            | else-contains w ↦
                ap (list_any (bytes_eq v)) w.referred-is
                ∙ used_passed o v m c.loop-name.referred declared defined ns i lt at (c.loop-name.invariant.set v)
                (elim w.else-contains.branch [
                  | else-contains-via-then-contains+else-not-contains u ↦
                      defined_too (list_any (bytes_eq m) declared) (list_any (bytes_eq m) defined)
                      (sym u.contains-then-contains.ensures ∙ u.if-not-contains.false)
                  | else-contains-via-else-contains u ↦
                      not_declared (list_any (bytes_eq m) declared) (list_any (bytes_eq m) defined)
                      (sym c.contains.ensures ∙ u.if-contains.false)
                ])
          ];
    }
