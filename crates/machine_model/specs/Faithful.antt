-- What an image that matches does: whatever the assembly does, as long as it is defined and its frames fit the stack.
use Rattle.std.specs.Prelude.{◌≡◌, ℕ, ◌+◌, ◌*◌, ◌≤◌, List, length}
use Rattle.asm_syntax.specs.declared.unit.Reply.{Reply}
use Rattle.link_model.specs.Binding.{addresses}
use Rattle.link_model.specs.Candidates.{Inputs}
use Rattle.asm_step.specs.State.{State}
use Rattle.ppc_machine.specs.declared.cpu.Junk.{Junk}
use Rattle.ppc_machine.specs.State.{FlatState, FlatEvent}
use Rattle.machine_model.specs.AsmRuns as asm
use Rattle.machine_model.specs.AsmRuns.{AsmOutcome, AsmEvent, AsmRun, asm_run, program_run}
use Rattle.machine_model.specs.FlatRuns.{FlatOutcome, FlatRun, Going, Ended, Starved, flat_run, image_run}
use Rattle.machine_model.specs.Worlds.{World, world_of}
use Rattle.machine_model.specs.Relation.{Both, Related}
use Rattle.machine_model.specs.Leads.{EventShows}

-- how the image stands where the assembly stands so: it goes on where the assembly is undefined
abbrev pub seen : AsmOutcome → FlatOutcome
seen asm.Going = Going
seen (asm.Ended n) = Ended n
seen asm.Starved = Starved
seen (asm.Undefined why) = Going

abbrev pub Shows : World → AsmEvent → FlatEvent → Type 0
Shows w a e = EventShows w a.before.live a.call e

-- whatever n steps of the assembly do, as many as 5 n of the image do
pub record Follows (w : World) (n : ℕ) (run : AsmRun) (image : ℕ → FlatRun) : Type 0 where
  pub steps : ℕ
  pub few : steps ≤ 5 * n
  pub outcome : (image steps).outcome ≡ seen run.outcome
  pub events : Both (Shows w) run.events (image steps).events

-- the frames of a run and the root fit the stack
abbrev pub FitsStack : World → AsmRun → Type 0
FitsStack w run = run.deepest + 16 + w.layout.stack.lo ≤ w.layout.stack.hi

-- from related states
abbrev pub Simulates : World → Type 0
Simulates w = (s : State) (t : FlatState) → Related w s t → (replies : List Reply) (n : ℕ) → FitsStack w (asm_run w.program n s replies) →
    Follows w n (asm_run w.program n s replies) (λ m. flat_run w.layout.stop w.outside m t replies)

-- for every n, all replies, whatever the registers hold at first, and all bytes on the stack
abbrev pub Faithful : Inputs → Type 0
Faithful g = (stack : List ℕ) → length stack + g.layout.stack.lo ≡ g.layout.stack.hi → (junk : Junk) → length junk.regs ≡ 32 →
    (replies : List Reply) (n : ℕ) →
    let w = world_of g (addresses g) stack in
    FitsStack w (program_run g.program replies n) →
    Follows w n (program_run g.program replies n) (λ m. image_run g (addresses g) junk stack replies m)
