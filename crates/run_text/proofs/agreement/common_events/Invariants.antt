use Rattle.std.proofs.Common.{◌≡◌, ◌+◌, drop}
use Rattle.run_text.specs.Agreement.{common_events}
use Rattle.run_text.proofs.agreement.common_events.Given as goal

-- the first events agree
abbrev pub invariant-loop-i : goal.invariant-loop-i
invariant-loop-i l = common_events l.a l.b ≡ l.i + common_events (drop l.i l.a) (drop l.i l.b)
