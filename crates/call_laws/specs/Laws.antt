-- Calls of external functions, with their buffers, and the end of a run: the image does the same.
use Rattle.std.specs.Prelude.{◌≡◌, ℕ, Option, Some}
use Rattle.effect_model.specs.declared.Place.TheVariants.{Gpr}
use Rattle.effect_model.specs.Files.{get}
use Rattle.asm_syntax.specs.declared.unit.Reply.{Reply}
use Rattle.asm_syntax.specs.declared.unit.Sig.{Sig}
use Rattle.asm_mem.specs.declared.value.Val.TheVariants.{Undef, Ext, Stop}
use Rattle.asm_step.specs.LinkedCode.{sig_of}
use Rattle.asm_step.specs.State.{State}
use Rattle.asm_step.specs.Calls.{called}
use Rattle.asm_step.specs.Steps.{finish}
use Rattle.ppc_machine.specs.State.{FlatState}
use Rattle.machine_model.specs.Worlds.{World}
use Rattle.machine_model.specs.Fits.{Fits}
use Rattle.machine_model.specs.Relation.{Related}
use Rattle.machine_model.specs.Leads.{Leads}

-- where control is at an external function: the same event, memory filled alike, the same results, or both are starved
abbrev pub CallsAgree : Type 0
CallsAgree = (w : World) → Fits w → (s : State) (t : FlatState) → Related w s t →
    (key o : ℕ) (sig : Sig) → s.place ≡ Ext key o → sig_of w.program key ≡ Some sig → (reply : Option Reply) →
    Leads w s t reply (called w.program key s reply (Some sig))

-- where control is at the end: the same word
abbrev pub EndsAgree : Type 0
EndsAgree = (w : World) (s : State) (t : FlatState) → Related w s t → s.place ≡ Stop → (reply : Option Reply) →
    Leads w s t reply (finish (get Undef s.file (Gpr 3)))
