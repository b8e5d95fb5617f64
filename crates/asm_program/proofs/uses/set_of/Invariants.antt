use Rattle.std.proofs.Common.{take}
use Rattle.asm_program.proofs.NameSets.{AreNames}
use Rattle.asm_program.specs.Texts.{texts}
use Rattle.asm_program.proofs.uses.set_of.Given as goal

abbrev pub invariant-loop-name : goal.invariant-loop-name
invariant-loop-name l = record {
  set : AreNames l.set (texts (take l.name-index l.name-items));
}
