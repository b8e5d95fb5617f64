use Rattle.std.proofs.Common.{◌≡◌, ◌∙◌, ap, sym, subst, Ok}
use Rattle.std.specs.Prelude.{⊤, Result}
use Rattle.ordered_tests.specs.Checks.{first_fault}
use Rattle.ordered_tests.specs.Steps.{◌>>◌, all_pass}
use Rattle.ordered_tests.proofs.Answers.{no_fault}
use Rattle.link_model.specs.declared.link_error.LinkError.{LinkError}
use Rattle.link_model.specs.Program.{Program}
use Rattle.link_model.specs.LinkTests.{link_tests, IsLinked}
use Rattle.asm_program.specs.Faults.{told}
use Rattle.linked_program.proofs.InOrder.{told_then}
use Rattle.linked_program.proofs.program.Program.link.Goals as goal

pub returns-in-Err-linked_keys : goal.returns-in-Err-linked_keys
returns-in-Err-linked_keys c =
    let p : Program = record { units = c.args.units.now; entry = c.args.entry.now } in
    record {
      answer = told_then (told c.in-Err-linked_keys.e) (all_pass (link_tests p.units p.entry)) (Ok p) c.in-Err-linked_keys.ensures.answer;
      linked = tt;
    }

pub returns-in-Ok-of : goal.returns-in-Ok-of
returns-in-Ok-of c =
    let p : Program = record { units = c.args.units.now; entry = c.args.entry.now } in
    let passed : all_pass (link_tests p.units p.entry) ≡ Ok tt = c.in-Ok-linked_keys.ensures.answer in
    let fine : IsLinked p = record { fit = c.requires.fit; passes = no_fault (first_fault (link_tests p.units p.entry)) passed } in
    record {
      answer = ap (λ (r : Result ⊤ LinkError). r >> Ok p) passed ∙ ap (λ (p : Program). Ok p) (sym c.in-Ok-of.ensures);
      linked = subst (λ (p : Program). IsLinked p) (sym c.in-Ok-of.ensures) fine;
    }
