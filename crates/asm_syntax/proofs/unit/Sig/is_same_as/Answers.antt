use Rattle.std.proofs.Common.{rules}
use Rattle.asm_syntax.proofs.SigLemmas.{sigs_equal}
use Rattle.asm_syntax.proofs.unit.Sig.is_same_as.Goals as goal

pub returns-clause-equal : goal.returns-clause-equal
returns-clause-equal c = sigs_equal c.args.self.now c.args.other.now c.eq.result (search rules)
