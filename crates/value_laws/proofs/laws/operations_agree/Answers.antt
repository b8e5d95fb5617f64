use Rattle.value_laws.proofs.OpLaws.{op_law}
use Rattle.value_laws.proofs.laws.operations_agree.Goals as goal

pub returns : goal.returns
returns c = λ w ok live next laid. op_law w ok live next laid
