-- What calls no external function leaves no bytes.
use Rattle.std.proofs.Common.{◌≡◌, false, [], refl}
use Rattle.asm_step.specs.declared.answer.Asm.{Asm}
use Rattle.asm_step.specs.declared.answer.Asm.TheVariants.{Went, Called, Ended, Starved, Undefined, Memory}
use Rattle.asm_step.specs.Answers.{Shows, is_call}
use Rattle.asm_step.specs.State.{Next}

pub quiet : (a : Asm) (n : Next) → is_call a ≡ false → Shows a n []
quiet Went n h = refl
quiet (Called e) n h = cc
quiet (Ended w) n h = refl
quiet Starved n h = refl
quiet (Undefined why) n h = refl
quiet Memory n h = refl
