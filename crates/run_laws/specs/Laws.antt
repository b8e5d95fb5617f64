-- Whole runs: from related states the image does what the assembly does.
use Rattle.std.specs.Prelude.{Option}
use Rattle.asm_syntax.specs.declared.unit.Reply.{Reply}
use Rattle.asm_step.specs.State.{State}
use Rattle.asm_step.specs.Steps.{asm_step}
use Rattle.ppc_machine.specs.State.{FlatState}
use Rattle.machine_model.specs.Worlds.{World}
use Rattle.machine_model.specs.Fits.{Fits}
use Rattle.machine_model.specs.Relation.{Related}
use Rattle.machine_model.specs.Leads.{Leads}
use Rattle.machine_model.specs.Faithful.{Simulates}

-- each step of the assembly from related states
abbrev pub EachStepLeads : Type 0
EachStepLeads = (w : World) → Fits w → (s : State) (t : FlatState) (reply : Option Reply) → Related w s t →
    Leads w s t reply (asm_step w.program s reply)

-- and any number of them
abbrev pub RunsFollow : Type 0
RunsFollow = (w : World) → Fits w → Simulates w
