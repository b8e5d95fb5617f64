use Rattle.std.proofs.Common.{◌≡◌, ◌++◌, take, string_bytes}
use Rattle.std.specs.List.{flat_map}
use Rattle.text_model.specs.Lines.{lines}
use Rattle.coverage.specs.Accounts.{account_seen}
use Rattle.coverage.specs.Orders.{claim_seen}
use Rattle.report_text.specs.Reports.{count_lines, span_text}
use Rattle.report_text.proofs.report.report_text.Given as goal

abbrev pub invariant-loop-span : goal.invariant-loop-span
invariant-loop-span l =
    string_bytes l.out
    ≡ lines (count_lines (account_seen l.account)) ++ flat_map (λ c. span_text (claim_seen c)) (take l.span-index l.account.spans)
