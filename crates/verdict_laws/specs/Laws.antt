-- Two runs side by side: n steps of the assembly, and 5 n of an image that matches.
use Rattle.std.specs.Prelude.{◌≡◌, ◌+◌, ◌*◌, ℕ, List, ◌++◌, length, Option}
use Rattle.image_model.specs.Segments.{IsLoadable}
use Rattle.layout_model.specs.Facts.{IsLayout}
use Rattle.asm_syntax.specs.declared.unit.Reply.{Reply}
use Rattle.link_model.specs.Binding.{addresses}
use Rattle.link_model.specs.Candidates.{Inputs}
use Rattle.link_model.specs.LinkTests.{IsLinked}
use Rattle.link_model.specs.Parts.{Matches}
use Rattle.ppc_machine.specs.declared.cpu.Junk.{Junk}
use Rattle.ppc_machine.specs.declared.externals.External.{External}
use Rattle.ppc_machine.specs.State.{FlatState, FlatEvent}
use Rattle.machine_model.specs.AsmRuns as asm
use Rattle.machine_model.specs.AsmRuns.{AsmOutcome, AsmRun, program_run}
use Rattle.machine_model.specs.FlatRuns.{FlatOutcome, FlatRun, Going, flat_run, image_run}
use Rattle.machine_model.specs.Worlds.{World, world_of}
use Rattle.machine_model.specs.Relation.{Both}
use Rattle.machine_model.specs.Faithful.{Shows, FitsStack, Faithful, seen}

-- ---- a run of more steps

abbrev pub IsOver : FlatOutcome → Type 0
IsOver Going = ⊥
IsOver _ = Unit {0}

-- the longer run has the events of the shorter one first, and is the same where that one is over
pub record Extends (a b : FlatRun) : Type 0 where
  pub more : List FlatEvent
  pub events : b.events ≡ a.events ++ more
  pub over : IsOver a.outcome → b ≡ a

abbrev pub LongerRunsExtend : Type 0
LongerRunsExtend = (stop : ℕ) (outside : ℕ → Option External) (m k : ℕ) (t : FlatState) (replies : List Reply) →
    Extends (flat_run stop outside m t replies) (flat_run stop outside (m + k) t replies)

-- ---- the two runs

-- the assembly has ended or is starved
abbrev pub HasEnded : AsmOutcome → Type 0
HasEnded (asm.Ended word) = Unit {0}
HasEnded asm.Starved = Unit {0}
HasEnded _ = ⊥

-- where the assembly has ended or is starved so has the image, with the same word and the same events; else the events of the assembly
-- are the first of the image
pub record Agree (w : World) (run : AsmRun) (image : FlatRun) : Type 0 where
  pub ended : HasEnded run.outcome → (image.outcome ≡ seen run.outcome) × Both (Shows w) run.events image.events
  pub front : List FlatEvent
  pub more : List FlatEvent
  pub events : image.events ≡ front ++ more
  pub shown : Both (Shows w) run.events front

abbrev pub RunsAgree : Inputs → Type 0
RunsAgree g = (stack : List ℕ) → length stack + g.layout.stack.lo ≡ g.layout.stack.hi → (junk : Junk) → length junk.regs ≡ 32 →
    (replies : List Reply) (n : ℕ) →
    let w = world_of g (addresses g) stack in
    FitsStack w (program_run g.program replies n) →
    Agree w (program_run g.program replies n) (image_run g (addresses g) junk stack replies (5 * n))

abbrev pub MatchingRunsAgree : Type 0
MatchingRunsAgree = (g : Inputs) → IsLoadable g.image → IsLayout g.layout → IsLinked g.program → Matches g → RunsAgree g
