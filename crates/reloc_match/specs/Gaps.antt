-- Which instructions leave something open in their words, and which gaps are judged by a layout.
use Rattle.std.specs.Prelude.{Bool, true, false}
use Rattle.asm_syntax.specs.declared.instr.Plain.{Plain}
use Rattle.asm_syntax.specs.declared.instr.Plain.TheVariants.{AluImm, Load, Store, Jump}
use Rattle.code_model.specs.declared.gap.Gap.{Gap}
use Rattle.code_model.specs.declared.gap.Gap.TheVariants.{SmallData}

-- an instruction with a constant or with a target
abbrev pub has_gap : Plain → Bool
has_gap (AluImm op d a c) = true
has_gap (Load op d c a) = true
has_gap (Store op s c a) = true
has_gap (Jump jump) = true
has_gap _ = false

-- small data is reached from the bases of a layout
abbrev pub needs_layout : Gap → Bool
needs_layout (SmallData a) = true
needs_layout _ = false
