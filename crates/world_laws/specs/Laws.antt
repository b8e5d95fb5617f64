-- The world of an image that matches has all that the steps of the two machines need.
use Rattle.std.specs.Prelude.{◌≡◌, ◌+◌, ℕ, List, length}
use Rattle.layout_model.specs.Facts.{IsLayout}
use Rattle.link_model.specs.Candidates.{Inputs}
use Rattle.link_laws.specs.Facts.{Facts}
use Rattle.link_laws.specs.Laws.{LinkedFacts}
use Rattle.machine_model.specs.Worlds.{world_of}
use Rattle.machine_model.specs.Fits.{Fits}

-- with any bytes on the stack
abbrev pub WorldsFit : Type 0
WorldsFit = (g : Inputs) (bs stack : List ℕ) → IsLayout g.layout → LinkedFacts g.program → Facts g bs →
    length stack + g.layout.stack.lo ≡ g.layout.stack.hi → Fits (world_of g bs stack)
