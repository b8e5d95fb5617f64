use Rattle.std.proofs.Common.{◌∙◌, arith}
use Rattle.coverage.proofs.Counting.{all_bytes, all_claims}
use Rattle.coverage.proofs.account.claims_of.Goals as goal

pub returns-clause-claims : goal.returns-clause-claims
returns-clause-claims c = c.loop-k.invariant.claims ∙ all_claims c.args.part c.args.kept.now c.loop-k.k-index (omega arith)

pub returns-clause-bytes : goal.returns-clause-bytes
returns-clause-bytes c = c.loop-k.invariant.bytes ∙ all_bytes c.args.part c.args.kept.now c.loop-k.k-index (omega arith)
