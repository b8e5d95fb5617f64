-- What tests that pass tell of the places that are read.
use Rattle.std.proofs.Common.{◌≡◌, ℕ, ◌<◌, ◌≤◌, true, List, ◌++◌, length, drop, get_or, Some, None, Ok, Err, arith, sym, subst, ◌∙◌, inl}
use Rattle.std.proofs.Common.{inr, Fits, w8}
use Rattle.std.specs.Prelude.{OnOk, Result, slice_index}
use Rattle.std.proofs.lemmas.List.{length-take, get_or_default}
use Rattle.std.proofs.Common.{length-drop}
use Rattle.std.proofs.lemmas.Bool.{cases_lt}
use Rattle.std.proofs.lemmas.Bool.Decides.{nat_tests}
use Rattle.ordered_tests.specs.Checks.{first_fault, fault_of}
use Rattle.ordered_tests.proofs.Faults.{number_passes, rest_passes, front_passes, first_fault_before, first_fault_after}
use Rattle.image_model.specs.declared.error.ElfError.{ElfError}
use Rattle.image_model.specs.Bytes.{AreBytes, half, word}
use Rattle.image_model.specs.Image.{Image, image_of}
use Rattle.image_model.specs.Segments.{IsLoadable}
use Rattle.image_model.proofs.SegmentFacts.{image_loadable}
use Rattle.image_model.specs.SectionHeader.{sh_offset, sh_size, symtab, strtab, section_bytes}
use Rattle.image_model.specs.FileHeader.{e_phnum}
use Rattle.image_model.specs.ProgramHeader.{program_header, is_load}
use Rattle.image_model.specs.SymbolTable.{symbol_count, symbol_place, st_name}
use Rattle.image_model.specs.Tests.{has_range, has_name, header_tests, size_tests, ident_tests, kind_tests, place_tests}
use Rattle.image_model.specs.Tests.{numbered_segment_tests, segments_tests, symtab_tests, table_tests, name_tests, names_tests, elf_tests}
use Rattle.elf_view.specs.Facts.{IsHeaded, AreTablesPlaced, IsReadable}

ranges : (b : List ℕ) → first_fault (segments_tests b) ≡ None → (i : ℕ) → i < e_phnum b → is_load b (program_header b i) ≡ true
    → has_range b (program_header b i) ≡ true
ranges b h i l t =
    let passes : first_fault (numbered_segment_tests b i) ≡ None = number_passes (numbered_segment_tests b) (e_phnum b) i h l in
    grind (arith, nat_tests, passes, t)

pub named : (b : List ℕ) → first_fault (names_tests b) ≡ None → (i : ℕ) → i < symbol_count b → has_name b (symbol_place b i) ≡ true
named b h i l =
    let passes : first_fault (name_tests b i) ≡ None = number_passes (name_tests b) (symbol_count b) i h l in
    grind (arith, nat_tests, passes)

-- the parts of the tests, one after the other
pub headers_fail : (b : List ℕ) (e : ElfError) → first_fault (header_tests b) ≡ Some e → first_fault (elf_tests b) ≡ Some e
unfolding elf_tests
headers_fail b e h = first_fault_before (header_tests b) (segments_tests b ++ (symtab_tests b ++ (table_tests b ++ names_tests b))) e h

pub segments_fail : (b : List ℕ) (e : ElfError) → first_fault (header_tests b) ≡ None → first_fault (segments_tests b) ≡ Some e
    → first_fault (elf_tests b) ≡ Some e
unfolding elf_tests
segments_fail b e h s =
    first_fault_after (header_tests b) (segments_tests b ++ (symtab_tests b ++ (table_tests b ++ names_tests b))) h
    ∙ first_fault_before (segments_tests b) (symtab_tests b ++ (table_tests b ++ names_tests b)) e s

pub symbols_decide : (b : List ℕ) → first_fault (header_tests b) ≡ None → first_fault (segments_tests b) ≡ None
    → first_fault (elf_tests b) ≡ first_fault (symtab_tests b ++ (table_tests b ++ names_tests b))
unfolding elf_tests
symbols_decide b h s =
    first_fault_after (header_tests b) (segments_tests b ++ (symtab_tests b ++ (table_tests b ++ names_tests b))) h
    ∙ first_fault_after (segments_tests b) (symtab_tests b ++ (table_tests b ++ names_tests b)) s

readable : (b : List ℕ) → AreBytes b → IsHeaded b → AreTablesPlaced b → first_fault (header_tests b) ≡ None →
    first_fault (segments_tests b) ≡ None
    → first_fault (symtab_tests b ++ (table_tests b ++ names_tests b)) ≡ None → IsReadable b
readable b bytes headed tables headers segments symbols = record {
  bytes = bytes;
  passes = symbols_decide b headers segments ∙ symbols;
  headed = headed;
  ranges = ranges b segments;
  tables = tables;
  names = named b (rest_passes (table_tests b) (names_tests b) (rest_passes (symtab_tests b) (table_tests b ++ names_tests b) symbols));
}

-- the name of a symbol begins in the string table, or at its end
pub name_lies : (b : List ℕ) (i at : ℕ) (texts : List ℕ) → IsReadable b → i < symbol_count b → at ≡ symbol_place b i →
    texts ≡ section_bytes b (strtab b)
    → st_name b at ≤ length texts
name_lies b i at texts r l e t =
    let size : length (section_bytes b (strtab b)) ≡ sh_size b (strtab b) =
    omega (
      arith,
      length-take (sh_size b (strtab b)) (drop (sh_offset b (strtab b)) b),
      length-drop (sh_offset b
          (strtab b)) b,
      r.tables.texts,
    ) in
    rw (e, t) (grind (arith, nat_tests, r.names i l, size))

pub readable_on : (b : List ℕ) → AreBytes b → IsHeaded b → first_fault (header_tests b) ≡ None → first_fault (segments_tests b) ≡ None
    → (r : Result ℕ ElfError) → OnOk r (AreTablesPlaced b) →
    fault_of r ≡ first_fault (symtab_tests b ++ (table_tests b ++ names_tests b)) → OnOk r (IsReadable b)
readable_on b bytes headed headers segments (Ok at) tables symbols = readable b bytes headed tables headers segments (sym symbols)
readable_on b bytes headed headers segments (Err e) tables symbols = tt

-- the numbers of a slice of bytes
pub bytes_are : (b : List ℕ) → ((i : ℕ) → Fits w8 (get_or b i 0)) → AreBytes b
bytes_are b h i d within =
    let fits = h i in
    let small : get_or b i 0 < 256 = omega (arith, fits) in
    rw (get_or_default b i d 0 within) small

idents_pass : (b : List ℕ) → first_fault (elf_tests b) ≡ None → first_fault (ident_tests b) ≡ None
unfolding elf_tests
idents_pass b h =
    front_passes (ident_tests b) (kind_tests b ++ place_tests b)
    (rest_passes (size_tests b) (ident_tests b ++ (kind_tests b ++ place_tests b))
    (front_passes (header_tests b) (segments_tests b ++ (symtab_tests b ++ (table_tests b ++ names_tests b))) h))

-- a symbol table from the file's first byte on would begin with a name at the magic number, which is past the string table
pub few_symbols : (b : List ℕ) → IsReadable b → symbol_count b < 2097152
unfolding word half
few_symbols b r = elim (cases_lt 0 (sh_offset b (symtab b))) [
  | inl behind ↦ omega (arith, r.tables.symbols, r.headed.most)
  | inr start ↦ elim (cases_lt 0 (symbol_count b)) [
    | inr none ↦ omega arith
    | inl some ↦ (
        let at : symbol_place b 0 ≡ 0 = omega arith in
        let named : has_name b 0 ≡ true = subst (λ n. has_name b n ≡ true) at (r.names 0 some) in
        let magic : slice_index b 0 ≡ 127 = grind (arith, nat_tests, idents_pass b r.passes) in
        absurd (grind (arith, nat_tests, named, magic, r.tables.texts, r.headed.most))
        )
  ]
]

pub loadable : (b : List ℕ) (v : Image) → IsReadable b → image_of b ≡ v → IsLoadable v
loadable b v r e = image_loadable v (b, record { bytes = r.bytes; passes = r.passes; image = sym e })
