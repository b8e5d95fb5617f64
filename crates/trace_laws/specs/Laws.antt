-- The traces of a program and of an image that matches it.
use Rattle.std.specs.Prelude.{◌≡◌, ℕ, ◌+◌, ◌*◌, true, List, length}
use Rattle.limits.specs.declared.TheConstants.{IMAGE_STEPS_A_STEP}
use Rattle.image_model.specs.Segments.{IsLoadable}
use Rattle.layout_model.specs.Facts.{IsLayout}
use Rattle.asm_syntax.specs.declared.unit.Reply.{Reply}
use Rattle.link_model.specs.LinkTests.{IsLinked}
use Rattle.link_model.specs.Binding.{addresses}
use Rattle.link_model.specs.Candidates.{Inputs}
use Rattle.link_model.specs.Parts.{Matches}
use Rattle.ppc_machine.specs.declared.cpu.Junk.{Junk}
use Rattle.machine_model.specs.AsmRuns.{program_run}
use Rattle.machine_model.specs.FlatRuns.{image_run}
use Rattle.machine_runs.specs.Traces.{asm_trace, flat_trace}
use Rattle.run_text.specs.Agreement.{is_same}

-- of so many steps of the assembly, and of five times as many of the image
abbrev pub MatchingTracesAgree : Type 0
MatchingTracesAgree = (g : Inputs) → IsLoadable g.image → IsLayout g.layout → IsLinked g.program → Matches g →
    (stack : List ℕ) → length stack + g.layout.stack.lo ≡ g.layout.stack.hi → (junk : Junk) → length junk.regs ≡ 32 →
    (replies : List Reply) (steps : ℕ) →
    is_same (asm_trace g (addresses g) (program_run g.program replies) steps)
    (flat_trace (image_run g (addresses g) junk stack replies) (IMAGE_STEPS_A_STEP * steps)) ≡ true
