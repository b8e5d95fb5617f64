use Rattle.std.proofs.Common.{◌+◌, sym, ◌∙◌, arith}
use Rattle.data_match.proofs.Stretches.{zero_missing, zeros_end}
use Rattle.data_match.proofs.bytes.zeros_fault.Goals as goal

pub returns-in_default-clause-first : goal.returns-in_default-clause-first
returns-in_default-clause-first c =
    sym (zero_missing c.args.segments.now c.args.a c.args.offset c.loop-i.i c.args.n
    (c.from.result + c.from-in-loop-i.result + c.from-in-loop-i-2.result) (omega arith)
    (c.in_default.ensures.found) (omega arith))
    ∙ c.loop-i.invariant.same

pub returns-clause-first : goal.returns-clause-first
returns-clause-first c =
    sym (zeros_end c.args.segments.now c.args.a (c.args.offset + c.loop-i.i) c.loop-i.i c.args.n (omega arith))
    ∙ c.loop-i.invariant.same
