use Rattle.std.proofs.Common.{◌<◌, ◌∙◌, arith}
use Rattle.coverage.proofs.KindStretches.{not_zero, not_in_area}
use Rattle.coverage.proofs.kinds.zero_padding_end.Goals as goal

pub returns-then-here-clause-next : goal.returns-then-here-clause-next
returns-then-here-clause-next c = λ same. not_zero _ _ (c.zeros_end.ensures.next same)

pub returns-clause-next : goal.returns-clause-next
returns-clause-next c = λ same. not_in_area _ _
    (let some : c.args.a < c.args.here.now.area.end = omega arith in c.requires.area.area c.args.a (omega arith) some ∙ c.if-here.false)
