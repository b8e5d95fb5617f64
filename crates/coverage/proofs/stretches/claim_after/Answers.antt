use Rattle.std.proofs.Common.{get_or, arith}
use Rattle.std.proofs.lemmas.List.{get_or_default}
use Rattle.coverage.proofs.Outside.{all_past, comes_next, holds_here}
use Rattle.coverage.proofs.stretches.claim_after.Goals as goal

pub returns-then-passed-kept-clause-holds : goal.returns-then-passed-kept-clause-holds
returns-then-passed-kept-clause-holds c =
    all_past c.args.kept.now c.args.passed c.args.a 4294967296 c.requires.passed (omega arith) (omega arith)

pub returns-then-a-range-clause-holds : goal.returns-then-a-range-clause-holds
returns-then-a-range-clause-holds c =
    let ks = c.args.kept.now in
    let j = c.args.passed in
    let r = c.index-kept-passed.result in
    comes_next ks j c.args.a (get_or ks j r) c.requires.passed c.requires.rise c.requires.stands c.if-passed-kept.false
    (get_or_default ks j (get_or ks j r) r c.if-passed-kept.false) c.if-a-range.true

pub returns-clause-holds : goal.returns-clause-holds
returns-clause-holds c =
    let ks = c.args.kept.now in
    let j = c.args.passed in
    let r = c.index-kept-passed.result in
    holds_here ks j c.args.a (get_or ks j r) c.requires.passed c.if-passed-kept.false
    (get_or_default ks j (get_or ks j r) r c.if-passed-kept.false) c.if-a-range.false
