use Rattle.std.proofs.Common.{◌∙◌, ◌++◌, ◌∷◌, [], length, map, position, ap, sym, subst, arith}
use Rattle.std.specs.Prelude.{⊤}
use Rattle.ordered_tests.specs.Answers.{IsTold}
use Rattle.ordered_tests.specs.Steps.{all_pass}
use Rattle.link_model.specs.Program.{keys}
use Rattle.link_model.specs.LinkTests.{entry_test, size_tests}
use Rattle.asm_program.specs.Faults.{told}
use Rattle.asm_program.specs.Scopes.{is_of}
use Rattle.asm_program.specs.Seen.{declaration_seen}
use Rattle.asm_program.proofs.SeenLists.{seen_length}
use Rattle.linked_program.specs.Linked.{all_name_tests}
use Rattle.linked_program.proofs.Counts.{few_standing, keys_are}
use Rattle.linked_program.proofs.InOrder.{told_first, told_past, past, tests_are}
use Rattle.linked_program.proofs.program.linked_keys.Goals as goal

pub returns-in-Err-names_link-clause-answer : goal.returns-in-Err-names_link-clause-answer
returns-in-Err-names_link-clause-answer c =
    let units = c.args.units.now in let entry = c.args.entry.now in let o = told c.in-Err-names_link.e in
    subst (λ tests. IsTold {T = ⊤} o (all_pass tests)) (tests_are units entry)
    (told_first o (all_name_tests units) (entry_test units entry ∷ [] ++ size_tests 0 (keys units)) c.in-Err-names_link.ensures)

pub returns-in-Err-entry_is_function-clause-answer : goal.returns-in-Err-entry_is_function-clause-answer
returns-in-Err-entry_is_function-clause-answer c =
    let units = c.args.units.now in let entry = c.args.entry.now in let o = told c.in-Err-entry_is_function.e in
    subst (λ tests. IsTold {T = ⊤} o (all_pass tests)) (tests_are units entry)
    (told_past o (all_name_tests units) (entry_test units entry ∷ [] ++ size_tests 0 (keys units)) c.in-Ok-names_link.ensures
    (told_first o (entry_test units entry ∷ []) (size_tests 0 (keys units)) c.in-Err-entry_is_function.ensures))

pub keys_of-requires : goal.keys_of-requires
keys_of-requires c =
    omega (
      arith,
      ap length c.deref-2.ensures.value,
      seen_length c.in-Ok.standing.items,
      ap length c.in-Ok.ensures,
      few_standing c.args.units.now c.requires.fit c.requires.few,
    )

pub returns-in-Ok-sizes_fit-clause-answer : goal.returns-in-Ok-sizes_fit-clause-answer
returns-in-Ok-sizes_fit-clause-answer c =
    let units = c.args.units.now in let entry = c.args.entry.now in
    let kept = ap (map declaration_seen) c.deref-2.ensures.value ∙ c.in-Ok.ensures in
    let list = ap (map declaration_seen) c.deref-3.ensures.value
    ∙ (c.in-Ok-keys_of.ensures.list ∙ keys_are units (map declaration_seen c.deref-2.result.now) kept) in
    ap all_pass (sym (tests_are units entry))
    ∙ (past (all_name_tests units) (entry_test units entry ∷ [] ++ size_tests 0 (keys units)) c.in-Ok-names_link.ensures
    ∙ (past (entry_test units entry ∷ []) (size_tests 0 (keys units)) c.in-Ok-entry_is_function.ensures
    ∙ (ap (λ ks. all_pass (size_tests 0 ks)) (sym list) ∙ c.in-Ok-sizes_fit.ensures)))

pub returns-in-Ok-sizes_fit-clause-found : goal.returns-in-Ok-sizes_fit-clause-found
returns-in-Ok-sizes_fit-clause-found c =
    let units = c.args.units.now in
    let kept = ap (map declaration_seen) c.deref-2.ensures.value ∙ c.in-Ok.ensures in
    let list = c.in-Ok-keys_of.ensures.list ∙ keys_are units (map declaration_seen c.deref-2.result.now) kept in
    record {
      list = list;
      numbers = λ q. c.in-Ok-keys_of.ensures.numbers q ∙ ap (position (is_of q)) list;
    }

pub returns-clause-answer : goal.returns-clause-answer
returns-clause-answer c =
    let units = c.args.units.now in let entry = c.args.entry.now in let o = told c.in-Err-sizes_fit.e in
    let kept = ap (map declaration_seen) c.deref-2.ensures.value ∙ c.in-Ok.ensures in
    let list = ap (map declaration_seen) c.deref-3.ensures.value
    ∙ (c.in-Ok-keys_of.ensures.list ∙ keys_are units (map declaration_seen c.deref-2.result.now) kept) in
    subst (λ tests. IsTold {T = ⊤} o (all_pass tests)) (tests_are units entry)
    (told_past o (all_name_tests units) (entry_test units entry ∷ [] ++ size_tests 0 (keys units)) c.in-Ok-names_link.ensures
    (told_past o (entry_test units entry ∷ []) (size_tests 0 (keys units)) c.in-Ok-entry_is_function.ensures
    (subst (λ ks. IsTold {T = ⊤} o (all_pass (size_tests 0 ks))) list c.in-Err-sizes_fit.ensures)))
