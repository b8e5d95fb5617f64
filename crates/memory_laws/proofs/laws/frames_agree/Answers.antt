use Rattle.memory_laws.proofs.FrameLaws.{push_law, pop_law}
use Rattle.memory_laws.proofs.laws.frames_agree.Goals as goal

pub returns-clause-made : goal.returns-clause-made
returns-clause-made c = λ w ok live next mem g k number fits blank. push_law w ok live next g.laid k number fits mem g.cells g.same blank

pub returns-clause-freed : goal.returns-clause-freed
returns-clause-freed c = λ w k live next mem g frame. pop_law w k live next mem g frame
