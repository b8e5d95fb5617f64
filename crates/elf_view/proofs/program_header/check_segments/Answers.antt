use Rattle.std.proofs.Common.{◌≡◌, arith, Some, sym}
use Rattle.ordered_tests.specs.Checks.{first_fault}
use Rattle.ordered_tests.proofs.Faults.{each_number_fails}
use Rattle.image_model.specs.FileHeader.{e_phnum}
use Rattle.image_model.specs.Tests.{numbered_segment_tests}
use Rattle.elf_view.proofs.program_header.check_segments.Goals as goal

pub returns-in_err-loaded-clause-tests : goal.returns-in_err-loaded-clause-tests
returns-in_err-loaded-clause-tests c =
    let b = c.args.b.now in
    let here : first_fault (numbered_segment_tests b c.loop-i.i) ≡ Some c.in_err-loaded.field-0.0 = sym c.in_err-loaded.ensures.tests in
    let all = each_number_fails (numbered_segment_tests b) c.loop-i.i (e_phnum b) c.in_err-loaded.field-0.0 (omega arith) here in
    grind (arith, all)
