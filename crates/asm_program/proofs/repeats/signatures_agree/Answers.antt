use Rattle.std.proofs.Common.{◌∙◌, ap, map, subst}
use Rattle.ordered_tests.specs.Answers.{Answers}
use Rattle.ordered_tests.specs.Steps.{all_pass}
use Rattle.link_model.specs.LinkTests.{repeat_tests}
use Rattle.asm_program.specs.declared.repeats.Rule.TheVariants.{Externals}
use Rattle.asm_program.specs.Faults.{told}
use Rattle.asm_program.specs.Repeats.{has_same_sig, fault_by}
use Rattle.asm_program.specs.Seen.{declaration_seen}
use Rattle.asm_program.proofs.SameExternals.{externals_alike}
use Rattle.asm_program.proofs.repeats.signatures_agree.Goals as goal

pub returns : goal.returns
returns c =
    let fault = fault_by Externals in
    subst (λ tests. Answers told c.are_like_firsts.result (all_pass tests))
    (ap (repeat_tests has_same_sig fault) (ap (map declaration_seen) c.deref.ensures.value ∙ c.in-Ok.ensures)
    ∙ externals_alike fault (map declaration_seen c.args.standing.now))
    c.are_like_firsts.ensures
