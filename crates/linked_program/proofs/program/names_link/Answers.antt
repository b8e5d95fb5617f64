use Rattle.std.proofs.Common.{◌≡◌, ◌∙◌, ◌++◌, ap, sym, subst, map}
use Rattle.std.specs.Prelude.{⊤, Result}
use Rattle.ordered_tests.specs.Answers.{Answers, IsTold}
use Rattle.ordered_tests.specs.Steps.{all_pass}
use Rattle.link_model.specs.declared.link_error.LinkError.{LinkError}
use Rattle.link_model.specs.LinkTests.{unit_tests, definition_tests, name_tests, sig_tests}
use Rattle.asm_program.specs.Faults.{told}
use Rattle.asm_program.specs.Seen.{declaration_seen}
use Rattle.linked_program.proofs.InOrder.{told_first, told_past, past, definitions_are, signatures_are}
use Rattle.linked_program.proofs.program.names_link.Goals as goal

pub returns-in-Err : goal.returns-in-Err
returns-in-Err c =
    let units = c.args.units.now in
    told_first (told c.in-Err.e) (unit_tests units) (definition_tests units ++ (name_tests units ++ sig_tests units)) c.in-Err.ensures

pub returns-in-Err-definitions_join : goal.returns-in-Err-definitions_join
returns-in-Err-definitions_join c =
    let units = c.args.units.now in let rest = name_tests units ++ sig_tests units in let o = told c.in-Err-definitions_join.e in
    told_past o (unit_tests units) (definition_tests units ++ rest) c.in-Ok.ensures
    (told_first o (definition_tests units) rest
    (subst (λ tests. IsTold {T = ⊤} o (all_pass tests)) (definitions_are units (map declaration_seen c.args.all.now) c.requires.all)
    c.in-Err-definitions_join.ensures))

pub returns-in-Err-names_are_known : goal.returns-in-Err-names_are_known
returns-in-Err-names_are_known c =
    let units = c.args.units.now in let o = told c.in-Err-names_are_known.e in
    let joined = sym (ap all_pass (definitions_are units (map declaration_seen c.args.all.now) c.requires.all))
    ∙ c.in-Ok-definitions_join.ensures in
    told_past o (unit_tests units) (definition_tests units ++ (name_tests units ++ sig_tests units)) c.in-Ok.ensures
    (told_past o (definition_tests units) (name_tests units ++ sig_tests units) joined
    (told_first o (name_tests units) (sig_tests units) c.in-Err-names_are_known.ensures))

pub returns : goal.returns
returns c =
    let units = c.args.units.now in
    let joined = sym (ap all_pass (definitions_are units (map declaration_seen c.args.all.now) c.requires.all))
    ∙ c.in-Ok-definitions_join.ensures in
    let left : all_pass (unit_tests units ++ (definition_tests units ++ (name_tests units ++ sig_tests units)))
    ≡ all_pass (sig_tests units) =
    past (unit_tests units) (definition_tests units ++ (name_tests units ++ sig_tests units)) c.in-Ok.ensures
    ∙ (past (definition_tests units) (name_tests units ++ sig_tests units) joined
    ∙ past (name_tests units) (sig_tests units) c.in-Ok-names_are_known.ensures) in
    subst (λ (due : Result ⊤ LinkError). Answers told c.signatures_agree.result due)
    (ap all_pass (signatures_are units (map declaration_seen c.args.standing.now) c.requires.standing) ∙ sym left)
    c.signatures_agree.ensures
