use Rattle.commands.proofs.DigitLemmas.{more_digits}
use Rattle.commands.proofs.number.number_of.Goals as goal

pub returns-then-are_digits-clause-bound : goal.returns-then-are_digits-clause-bound
returns-then-are_digits-clause-bound c = more_digits _ _ _ c.digits_number.ensures.bound c.if-text-most.true
