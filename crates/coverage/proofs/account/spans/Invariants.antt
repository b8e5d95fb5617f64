use Rattle.std.proofs.Common.{◌≡◌, map, take}
use Rattle.link_model.specs.Account.{span_of}
use Rattle.coverage.specs.Orders.{claim_seen, kept_seen}
use Rattle.coverage.specs.Tallies.{run_seen}
use Rattle.coverage.proofs.account.spans.Given as goal

abbrev pub invariant-loop-run : goal.invariant-loop-run
invariant-loop-run l =
    map claim_seen l.spans.items ≡ map (span_of (map kept_seen l.kept)) (map run_seen (take l.run-index l.runs))
