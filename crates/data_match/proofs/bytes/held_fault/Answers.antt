use Rattle.std.proofs.Common.{◌+◌, sym, ◌∙◌, arith}
use Rattle.data_match.proofs.Stretches.{listed_missing, listed_end}
use Rattle.data_match.proofs.bytes.held_fault.Goals as goal

pub returns-in_default-clause-first : goal.returns-in_default-clause-first
returns-in_default-clause-first c =
    sym (listed_missing c.args.segments.now c.args.a c.args.offset c.loop-i.i
    (c.from.result + c.from-in-loop-i.result + c.from-in-loop-i-2.result) c.args.bytes.now (omega arith)
    (c.in_default.ensures.found) (omega arith))
    ∙ c.loop-i.invariant.same

pub returns-clause-first : goal.returns-clause-first
returns-clause-first c =
    sym (listed_end c.args.segments.now c.args.a (c.args.offset + c.loop-i.i) c.loop-i.i c.args.bytes.now (omega arith))
    ∙ c.loop-i.invariant.same
