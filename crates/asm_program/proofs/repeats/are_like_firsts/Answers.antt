use Rattle.std.proofs.Common.{◌≡◌, ◌∙◌, ◌<◌, ◌||◌, ℕ, [], ◌∷◌, ◌++◌, length, get_or, map, take, sym, ap, arith}
use Rattle.std.specs.Prelude.{not, Result, Err, ⊤}
use Rattle.std.specs.List.{list_all}
use Rattle.std.specs.Str.{bytes_eq}
use Rattle.std.proofs.lemmas.List.{take_more, get_or-map, length-map}
use Rattle.ordered_tests.specs.Checks.{check, first_fault}
use Rattle.link_model.specs.declared.link_error.LinkError.{LinkError}
use Rattle.link_model.specs.Program.{Declaration, name_of}
use Rattle.link_model.specs.LinkTests.{is_like_earlier, repeat_tests}
use Rattle.asm_program.specs.Faults.{told}
use Rattle.asm_program.specs.Seen.{declaration_seen}
use Rattle.asm_program.specs.Repeats.{alike_by, fault_by}
use Rattle.asm_program.proofs.Places.{place_passes, place_fails, told_fault}
use Rattle.asm_program.proofs.FirstsJoin.{alike_meet, stand_more}
use Rattle.asm_program.proofs.repeats.are_like_firsts.Goals as goal

pub returns-then-not-is_like_first : goal.returns-then-not-is_like_first
returns-then-not-is_like_first c =
    let alike = alike_by c.args.rule in let fault = fault_by c.args.rule in
    let ds = map declaration_seen c.args.list.now in let i = c.loop-d.d-index in let d = declaration_seen c.d-item.result in
    let short : i < length c.args.list.now = omega arith in
    let long : length ds ≡ length c.args.list.now = length-map c.args.list.now declaration_seen in
    let at : get_or ds i d ≡ d = get_or-map declaration_seen c.args.list.now i c.d-item.result d short
    ∙ ap declaration_seen (sym c.d-item.is) in
    let wrong : Declaration → Result ⊤ LinkError = λ d. Err (fault d) in
    told_fault (told c.fault_of.result) (fault d) _ c.fault_of.ensures
    (place_fails (λ (d : ℕ × Declaration). check (is_like_earlier alike (take d.0 ds) d.1) (fault d.1)) ds
    (first_fault (repeat_tests alike fault ds)) i d (omega (arith, long))
    (ap (is_like_earlier alike (take i ds)) at
    ∙ (c.loop-d.invariant.firsts (name_of d) d.item ∙ (sym c.is_like_first.ensures ∙ c.if-not-is_like_first.true)))
    c.loop-d.invariant.left
    ∙ ap wrong at)

pub loop-d-preserved : goal.loop-d-preserved
loop-d-preserved c =
    let alike = alike_by c.args.rule in let fault = fault_by c.args.rule in
    let ds = map declaration_seen c.args.list.now in let i = c.loop-d.d-index in let d = declaration_seen c.d-item.result in
    let short : i < length c.args.list.now = omega arith in
    let long : length ds ≡ length c.args.list.now = length-map c.args.list.now declaration_seen in
    let lt : i < length ds = omega (arith, long) in
    let at : get_or ds i d ≡ d = get_or-map declaration_seen c.args.list.now i c.d-item.result d short
    ∙ ap declaration_seen (sym c.d-item.is) in
    record {
      firsts = λ v p.
          ap (list_all (λ e. not (bytes_eq (name_of e) v) || alike e.item p)) (take_more ds i d lt ∙ ap (λ e. take i ds ++ e ∷ []) at)
          ∙ stand_more alike (alike_meet c.args.rule) c.loop-d.firsts c.add.new.self (take i ds) d c.loop-d.invariant.firsts
          (sym c.is_like_first.ensures ∙ c.if-not-is_like_first.false) c.in-Ok.ensures v p;
      left = place_passes (λ (d : ℕ × Declaration). check (is_like_earlier alike (take d.0 ds) d.1) (fault d.1)) ds
          (first_fault (repeat_tests alike fault ds)) i d lt
          (ap (is_like_earlier alike (take i ds)) at
          ∙ (c.loop-d.invariant.firsts (name_of d) d.item ∙ (sym c.is_like_first.ensures ∙ c.if-not-is_like_first.false)))
          c.loop-d.invariant.left;
    }
