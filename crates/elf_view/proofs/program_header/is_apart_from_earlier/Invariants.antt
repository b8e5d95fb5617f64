use Rattle.std.proofs.Common.{◌≡◌}
use Rattle.std.specs.List.{list_all}
use Rattle.image_model.specs.ProgramHeader.{loads_before}
use Rattle.image_model.specs.Tests.{are_apart}
use Rattle.elf_view.proofs.ProgramHeaders.{loads_between}
use Rattle.elf_view.proofs.program_header.is_apart_from_earlier.Given as goal

-- the headers from j on decide
abbrev pub invariant-loop-j : goal.invariant-loop-j
invariant-loop-j l = list_all (are_apart l.b l.at) (loads_before l.b l.i) ≡ list_all (are_apart l.b l.at) (loads_between l.b l.j l.i)
