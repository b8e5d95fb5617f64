-- Frames that are made and freed: the image follows, in each spelling.
use Rattle.asm_syntax.specs.declared.instr.Instr.{Instr}
use Rattle.machine_model.specs.Worlds.{World}
use Rattle.machine_model.specs.Fits.{Fits}
use Rattle.step_laws.specs.Laws.{IsFrame, IsFollowed}

abbrev pub FramesAreFollowed : Type 0
FramesAreFollowed = (w : World) → Fits w → (x : Instr) → IsFrame x → IsFollowed w x
