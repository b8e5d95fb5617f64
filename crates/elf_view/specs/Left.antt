-- What is left of the lists of headers, from a number on.
use Rattle.std.specs.Prelude.{ℕ, List, map, filter}
use Rattle.ordered_tests.specs.Checks.{from_to}
use Rattle.image_model.specs.FileHeader.{e_phnum, e_shnum}
use Rattle.image_model.specs.ProgramHeader.{program_header, is_loaded}
use Rattle.image_model.specs.SectionHeader.{section_header, is_symtab}
use Rattle.image_model.specs.Image.{Segment, segment_at}

unfoldable pub segments_from : List ℕ → ℕ → List Segment
segments_from b i = map (segment_at b) (filter (is_loaded b) (map (program_header b) (from_to i (e_phnum b))))

abbrev pub symtabs_from : List ℕ → ℕ → List ℕ
symtabs_from b i = filter (is_symtab b) (map (section_header b) (from_to i (e_shnum b)))
