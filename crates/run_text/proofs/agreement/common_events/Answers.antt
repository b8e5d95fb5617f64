use Rattle.std.proofs.Common.{arith}
use Rattle.run_text.proofs.Prefixes.{at_end}
use Rattle.run_text.proofs.agreement.common_events.Goals as goal

pub returns : goal.returns
returns c =
    let none = at_end c.args.a.now c.args.b.now c.loop-i.i (omega (arith, c.loop-i-test.false, c.min-both.ensures)) in
    omega (arith, none, c.loop-i.invariant, c.loop-i-test.false, c.loop-i.auto.i-end)
