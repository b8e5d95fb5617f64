use Rattle.std.proofs.Common.{refl}
use Rattle.mnemonics.specs.Mnemonics.{mnemonics}
use Rattle.mnemonics.proofs.table.mnemonics.Goals as goal

pub returns : goal.returns
unfolding mnemonics
returns c = refl
