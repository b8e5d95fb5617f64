use Rattle.std.proofs.Common.{◌≡◌, ◌∙◌, length, ap, arith}
use Rattle.text_model.specs.Lines.{lines}
use Rattle.coverage.specs.Accounts.{account_seen}
use Rattle.report_text.specs.Reports.{count_lines}
use Rattle.report_text.proofs.Spans.{all_spans}
use Rattle.report_text.proofs.report.report_text.Goals as goal

pub returns : goal.returns
returns c =
    let same : length c.items-span-items.result.now ≡ length c.args.account.now.spans = ap length c.items-span-items.ensures in
    c.loop-span.invariant
    ∙ all_spans (lines (count_lines (account_seen c.args.account.now))) c.args.account.now.spans c.loop-span.span-index (omega arith)
