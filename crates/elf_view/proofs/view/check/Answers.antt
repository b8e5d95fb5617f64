use Rattle.std.proofs.Common.{◌≡◌, arith, Some, None, sym}
use Rattle.ordered_tests.specs.Checks.{first_fault}
use Rattle.image_model.specs.Tests.{header_tests, segments_tests}
use Rattle.elf_view.proofs.Facts.{headers_fail, segments_fail, bytes_are, readable_on}
use Rattle.elf_view.proofs.view.check.Goals as goal

pub returns-in_err-check_header-clause-tests : goal.returns-in_err-check_header-clause-tests
returns-in_err-check_header-clause-tests c =
    let here : first_fault (header_tests c.args.image.now)
    ≡ Some c.in_err-check_header.field-0.0 = sym c.in_err-check_header.ensures.tests in
    let all = headers_fail c.args.image.now c.in_err-check_header.field-0.0 here in
    grind (arith, all)

pub returns-in_err-check_segments-clause-tests : goal.returns-in_err-check_segments-clause-tests
returns-in_err-check_segments-clause-tests c =
    let before : first_fault (header_tests c.args.image.now) ≡ None = sym c.in_ok-check_header.ensures.tests in
    let here : first_fault (segments_tests c.args.image.now)
    ≡ Some c.in_err-check_segments.field-0.0 = sym c.in_err-check_segments.ensures.tests in
    let all = segments_fail c.args.image.now c.in_err-check_segments.field-0.0 before here in
    grind (arith, all)

pub returns-clause-readable : goal.returns-clause-readable
returns-clause-readable c =
    let b = c.args.image.now in
    let bytes = bytes_are b c.type_inv.image in
    let headers : first_fault (header_tests b) ≡ None = sym c.in_ok-check_header.ensures.tests in
    let segments : first_fault (segments_tests b) ≡ None = sym c.in_ok-check_segments.ensures.tests in
    readable_on b bytes c.in_ok-check_header.ensures.headed headers segments c.check_symbols.result
    c.check_symbols.ensures.tables c.check_symbols.ensures.tests
