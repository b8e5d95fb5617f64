use Rattle.std.proofs.Common.{arith}
use Rattle.expansions.proofs.table.words_fault.Goals as goal

pub overflow_cast-wanted : goal.overflow_cast-wanted
overflow_cast-wanted c = let h = c.label-wanted.ensures.within in let e = c.requires.end in omega arith
