-- What the file header of an executable tells of where its headers lie.
use Rattle.std.proofs.Common.{◌≡◌, ℕ, ◌+◌, ◌*◌, ◌<◌, ◌≤◌, List, ◌++◌, length, None, refl, arith}
use Rattle.std.proofs.lemmas.Bool.Decides.{nat_tests}
use Rattle.ordered_tests.specs.Checks.{first_fault}
use Rattle.ordered_tests.proofs.Faults.{front_passes, rest_passes}
use Rattle.image_model.specs.FileHeader.{e_phoff, e_phnum, e_shoff, e_shnum}
use Rattle.image_model.specs.SectionHeader.{symtabs}
use Rattle.image_model.specs.Tests.{elf_tests, header_tests, size_tests, ident_tests, kind_tests, place_tests, segments_tests}
use Rattle.image_model.specs.Tests.{symtab_tests, table_tests, names_tests}

pub record HeadersLie (b : List ℕ) : Type 0 where
  pub least : 52 ≤ length b
  pub sections : 0 < e_shnum b
  pub sections_lie : e_shoff b + 40 * e_shnum b ≤ length b
  pub programs_lie : 0 < e_phnum b → e_phoff b + 32 * e_phnum b ≤ length b

size_passes : (b : List ℕ) → first_fault (elf_tests b) ≡ None → first_fault (size_tests b) ≡ None
unfolding elf_tests
size_passes b h =
    front_passes (size_tests b) (ident_tests b ++ (kind_tests b ++ place_tests b))
    (front_passes (header_tests b) (segments_tests b ++ (symtab_tests b ++ (table_tests b ++ names_tests b))) h)

places_pass : (b : List ℕ) → first_fault (elf_tests b) ≡ None → first_fault (place_tests b) ≡ None
unfolding elf_tests
places_pass b h =
    rest_passes (kind_tests b) (place_tests b)
    (rest_passes (ident_tests b) (kind_tests b ++ place_tests b)
    (rest_passes (size_tests b) (ident_tests b ++ (kind_tests b ++ place_tests b))
    (front_passes (header_tests b) (segments_tests b ++ (symtab_tests b ++ (table_tests b ++ names_tests b))) h)))

symtab_passes : (b : List ℕ) → first_fault (elf_tests b) ≡ None → first_fault (symtab_tests b) ≡ None
unfolding elf_tests
symtab_passes b h =
    front_passes (symtab_tests b) (table_tests b ++ names_tests b)
    (rest_passes (segments_tests b) (symtab_tests b ++ (table_tests b ++ names_tests b))
    (rest_passes (header_tests b) (segments_tests b ++ (symtab_tests b ++ (table_tests b ++ names_tests b))) h))

no_symtabs : (b : List ℕ) → e_shnum b ≡ 0 → length (symtabs b) ≡ 0
no_symtabs b e = rw e refl

pub headers_lie : (b : List ℕ) → first_fault (elf_tests b) ≡ None → HeadersLie b
headers_lie b h =
    let size : first_fault (size_tests b) ≡ None = size_passes b h in
    let places : first_fault (place_tests b) ≡ None = places_pass b h in
    let tables : first_fault (symtab_tests b) ≡ None = symtab_passes b h in
    let sections : 0 < e_shnum b = grind (arith, nat_tests, no_symtabs b, tables) in
    record {
      least = grind (arith, nat_tests, size);
      sections = sections;
      sections_lie = grind (arith, nat_tests, places, sections);
      programs_lie = grind (arith, nat_tests, places);
    }
