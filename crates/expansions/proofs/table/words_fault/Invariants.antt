use Rattle.std.proofs.Common.{◌≡◌, ◌+◌, ◌*◌, drop}
use Rattle.ordered_tests.specs.Checks.{first_fault}
use Rattle.code_model.specs.Addresses.{label_address}
use Rattle.code_model.specs.FunctionChecks.{table_word_checks}
use Rattle.expansions.proofs.table.words_fault.Given as goal

abbrev pub invariant-loop-j : goal.invariant-loop-j
invariant-loop-j l =
    let label_at = label_address l.standing.words l.standing.base l.standing.code.now in
    first_fault (table_word_checks l.standing.words label_at l.offset (l.t + 4 * l.j) l.j (drop l.j l.labels))
    ≡ first_fault (table_word_checks l.standing.words label_at l.offset l.t 0 l.labels)
