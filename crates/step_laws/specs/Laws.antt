-- A step of the assembly machine inside the code is followed by up to five steps of the image, and the states are related again.
use Rattle.std.specs.Prelude.{◌≡◌, ◌<◌, ℕ, List, length, Some, slice_get}
use Rattle.asm_syntax.specs.declared.instr.Instr.{Instr}
use Rattle.asm_syntax.specs.declared.instr.Instr.TheVariants as instrs
use Rattle.asm_step.specs.LinkedCode.{key_at}
use Rattle.asm_step.specs.State.{State}
use Rattle.asm_step.specs.Steps.{act}
use Rattle.ppc_machine.specs.State.{FlatState}
use Rattle.machine_model.specs.Worlds.{World, code_of, place_at}
use Rattle.machine_model.specs.Fits.{Fits, InstrIs}
use Rattle.machine_model.specs.Relation.{Related}
use Rattle.machine_model.specs.Leads.{Goes}

-- an instruction stands at the place of the two states
pub record Stands (w : World) (t : FlatState) (f i : ℕ) (x : Instr) : Type 0 where
  pub known : f < length w.program.routines
  pub here : t.pc ≡ place_at w f i
  pub is : slice_get (code_of w.program f) i ≡ Some x
  pub facts : InstrIs w f i x

-- from related states where it stands, the image follows it
abbrev pub IsFollowed : World → Instr → Type 0
IsFollowed w x = (s : State) (t : FlatState) → Related w s t → (f i : ℕ) → Stands w t f i x →
    Goes w t (act w.program f i s (key_at w.program f i) x)

-- ---- all instructions but those that make and free frames

abbrev pub IsFrame : Instr → Type 0
IsFrame (instrs.AllocFrame n) = Unit {0}
IsFrame (instrs.FreeFrame n) = Unit {0}
IsFrame _ = ⊥

abbrev pub StepsAreFollowed : Type 0
StepsAreFollowed = (w : World) → Fits w → (x : Instr) → (IsFrame x → ⊥) → IsFollowed w x
