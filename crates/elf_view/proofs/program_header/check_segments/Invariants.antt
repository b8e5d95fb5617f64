use Rattle.std.proofs.Common.{◌≡◌, ◌≤◌}
use Rattle.ordered_tests.specs.Checks.{first_fault, each_check, from_to}
use Rattle.image_model.specs.FileHeader.{e_phnum}
use Rattle.image_model.specs.ProgramHeader.{loads_before}
use Rattle.image_model.specs.Tests.{total_memsz, numbered_segment_tests, segments_tests}
use Rattle.limits.specs.declared.TheConstants.{MOST_LOADED_BYTES}
use Rattle.elf_view.proofs.program_header.check_segments.Given as goal

-- the headers from i on decide
abbrev pub invariant-loop-i : goal.invariant-loop-i
invariant-loop-i l = record {
  rest : first_fault (segments_tests l.b) ≡ first_fault (each_check (numbered_segment_tests l.b) (from_to l.i (e_phnum l.b)));
  total : l.loaded ≡ total_memsz l.b (loads_before l.b l.i);
  most : l.loaded ≤ MOST_LOADED_BYTES;
}
