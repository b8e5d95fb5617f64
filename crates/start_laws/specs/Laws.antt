-- The first states of the two machines are related, and so an image that matches is faithful.
use Rattle.std.specs.Prelude.{◌≡◌, ◌+◌, ℕ, List, length}
use Rattle.image_model.specs.Segments.{IsLoadable}
use Rattle.layout_model.specs.Facts.{IsLayout}
use Rattle.link_model.specs.Binding.{addresses}
use Rattle.link_model.specs.Candidates.{Inputs}
use Rattle.link_model.specs.LinkTests.{IsLinked}
use Rattle.link_model.specs.Parts.{Matches}
use Rattle.link_laws.specs.Facts.{Facts}
use Rattle.link_laws.specs.Laws.{LinkedFacts}
use Rattle.asm_machine.specs.Starts as asm
use Rattle.ppc_machine.specs.declared.cpu.Junk.{Junk}
use Rattle.machine_model.specs.FlatRuns.{first_state}
use Rattle.machine_model.specs.Worlds.{world_of}
use Rattle.machine_model.specs.Relation.{Related}
use Rattle.machine_model.specs.Faithful.{Faithful}

-- what is known of the inputs, where the keys have the addresses bs
pub record IsKnown (g : Inputs) (bs : List ℕ) : Type 0 where
  pub loadable : IsLoadable g.image
  pub layout : IsLayout g.layout
  pub linked : LinkedFacts g.program
  pub facts : Facts g bs

abbrev pub FirstStatesRelate : Type 0
FirstStatesRelate = (g : Inputs) (bs : List ℕ) → IsKnown g bs → (stack : List ℕ) → length stack + g.layout.stack.lo ≡ g.layout.stack.hi →
    (junk : Junk) → length junk.regs ≡ 32 →
    Related (world_of g bs stack) (asm.first_state g.program) (first_state g bs junk stack)

abbrev pub KnownIsFaithful : Type 0
KnownIsFaithful = (g : Inputs) → IsKnown g (addresses g) → Faithful g

-- an image that matches does what its assembly does
abbrev pub MatchesAreFaithful : Type 0
MatchesAreFaithful = (g : Inputs) → IsLoadable g.image → IsLayout g.layout → IsLinked g.program → Matches g → Faithful g
