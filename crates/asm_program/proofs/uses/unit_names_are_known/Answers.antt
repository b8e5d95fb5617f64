use Rattle.std.proofs.Common.{◌∙◌, ap, subst, map}
use Rattle.std.specs.List.{list_any}
use Rattle.std.specs.Str.{bytes_eq}
use Rattle.ordered_tests.specs.Checks.{check}
use Rattle.ordered_tests.specs.Steps.{all_pass}
use Rattle.ordered_tests.specs.Answers.{Answers}
use Rattle.link_model.specs.declared.link_error.LinkError.TheVariants.{Undeclared}
use Rattle.link_model.specs.Program.{names_used}
use Rattle.asm_program.specs.Faults.{told}
use Rattle.asm_program.proofs.UsedNames.{tests_by_set}
use Rattle.asm_program.proofs.uses.unit_names_are_known.Goals as goal

pub returns : goal.returns
returns c =
    let unit = c.args.unit.now in let set = c.in-Ok.known in
    subst (λ tests. Answers told c.names_are_among.result (all_pass tests))
    (ap (λ names. map (λ n. check (list_any (bytes_eq n) set) (Undeclared c.args.u n)) names) (c.items.ensures ∙ c.in-Ok-names_used.ensures)
    ∙ tests_by_set c.args.u unit set (names_used unit) c.in-Ok.ensures)
    c.names_are_among.ensures
