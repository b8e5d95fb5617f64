-- The tests that the bytes of an executable pass, in their order, each with its error.
-- System V gABI, "ELF Header", "Program Header", "Sections", "Symbol Table", "String Table"; PowerPC psABI, "ELF Header".
use Rattle.std.specs.Prelude.{◌≡◌, ℕ, ◌+◌, ◌*◌, ◌-◌, ◌%◌, ◌^◌, Bool, not, ◌&&◌, ◌||◌, nat_lt, nat_le, ◌==◌, if◌then◌else◌, List, [], ◌∷◌}
use Rattle.std.specs.Prelude.{◌++◌, length, slice_index, None}
use Rattle.std.specs.List.{sum_by, list_all}
use Rattle.ordered_tests.specs.Checks.{Check, check, first_fault, each_check, from_to}
use Rattle.image_model.specs.declared.error.ElfError.{ElfError}
use Rattle.image_model.specs.declared.error.ElfError.TheVariants.{Short, Ident, Kind, Machine, EntrySize, Dynamic, SegRange, SegOverlap}
use Rattle.image_model.specs.declared.error.ElfError.TheVariants.{NoSymtab, TwoSymtabs, SymRange, NameEnd, Limit}
use Rattle.limits.specs.declared.TheConstants.{MOST_IMAGE_BYTES, MOST_PROGRAM_HEADERS, MOST_LOADED_BYTES}
use Rattle.image_model.specs.Bytes.{AreBytes, lies_in}
use Rattle.image_model.specs.FileHeader.{e_type, e_machine, e_phoff, e_shoff, e_ehsize, e_phentsize, e_phnum, e_shentsize, e_shnum}
use Rattle.image_model.specs.ProgramHeader.{program_header, p_type, p_offset, p_vaddr, p_filesz, p_memsz, is_load, loads_before}
use Rattle.image_model.specs.SectionHeader.{sh_type, sh_offset, sh_size, sh_link, sh_entsize, symtabs, symtab, strtab, second_place}
use Rattle.image_model.specs.SymbolTable.{symbol_count, symbol_place, st_name}
use Rattle.image_model.specs.Image.{Image, image_of}

-- ---- the file header

abbrev pub size_tests : List ℕ → List (Check ElfError)
size_tests b =
    check (nat_le (length b) MOST_IMAGE_BYTES) (Limit 0 MOST_IMAGE_BYTES)
    ∷ check (nat_le 52 (length b)) (Short (length b))
    ∷ []

-- the magic number, ELFCLASS32, ELFDATA2MSB and EV_CURRENT
abbrev pub ident_tests : List ℕ → List (Check ElfError)
ident_tests b =
    check (slice_index b 0 == 0x7f) (Ident 0)
    ∷ check (slice_index b 1 == 0x45) (Ident 1)
    ∷ check (slice_index b 2 == 0x4c) (Ident 2)
    ∷ check (slice_index b 3 == 0x46) (Ident 3)
    ∷ check (slice_index b 4 == 1) (Ident 4)
    ∷ check (slice_index b 5 == 2) (Ident 5)
    ∷ check (slice_index b 6 == 1) (Ident 6)
    ∷ []

-- ET_EXEC and EM_PPC
abbrev pub kind_tests : List ℕ → List (Check ElfError)
kind_tests b =
    check (e_type b == 2) (Kind 16)
    ∷ check (e_machine b == 20) (Machine 18)
    ∷ check (e_ehsize b == 52) (EntrySize 40)
    ∷ check (nat_le (e_phnum b) MOST_PROGRAM_HEADERS) (Limit 44 MOST_PROGRAM_HEADERS)
    ∷ []

-- where the program headers and the section headers lie
abbrev pub place_tests : List ℕ → List (Check ElfError)
place_tests b =
    check (e_phnum b == 0 || e_phentsize b == 32) (EntrySize 42)
    ∷ check (e_shnum b == 0 || e_shentsize b == 40) (EntrySize 46)
    ∷ check (e_phnum b == 0 || lies_in b (e_phoff b) (32 * e_phnum b)) (Short 28)
    ∷ check (e_shnum b == 0 || lies_in b (e_shoff b) (40 * e_shnum b)) (Short 32)
    ∷ []

abbrev pub header_tests : List ℕ → List (Check ElfError)
header_tests b = size_tests b ++ (ident_tests b ++ (kind_tests b ++ place_tests b))

-- ---- the program headers

-- PT_DYNAMIC and PT_INTERP
abbrev pub is_dynamic : List ℕ → ℕ → Bool
is_dynamic b at = p_type b at == 2 || p_type b at == 3

-- the file holds no more of the segment than memory, what it holds lies in the file, and the addresses are below 2 ^ 32
abbrev pub has_range : List ℕ → ℕ → Bool
has_range b at =
    nat_le (p_filesz b at) (p_memsz b at)
    && (p_filesz b at == 0 || lies_in b (p_offset b at) (p_filesz b at))
    && nat_le (p_vaddr b at + p_memsz b at) (2 ^ 32)

-- the bytes in memory of program headers together
abbrev pub total_memsz : List ℕ → List ℕ → ℕ
total_memsz b ats = sum_by (p_memsz b) ats

-- n addresses from a on and m addresses from c on have one in common
abbrev pub ranges_meet : ℕ → ℕ → ℕ → ℕ → Bool
ranges_meet a n c m = nat_lt 0 n && nat_lt 0 m && nat_lt a (c + m) && nat_lt c (a + n)

abbrev pub are_apart : List ℕ → ℕ → ℕ → Bool
are_apart b at other = not (ranges_meet (p_vaddr b at) (p_memsz b at) (p_vaddr b other) (p_memsz b other))

-- the tests of the program header at a place, behind these PT_LOAD headers
abbrev pub segment_tests : List ℕ → List ℕ → ℕ → List (Check ElfError)
segment_tests b earlier at =
    check (not (is_dynamic b at)) (Dynamic at)
    ∷ (if is_load b at then
    check (has_range b at) (SegRange at)
    ∷ check (nat_le (total_memsz b earlier + p_memsz b at) MOST_LOADED_BYTES) (Limit at MOST_LOADED_BYTES)
    ∷ check (list_all (are_apart b at) earlier) (SegOverlap at)
    ∷ []
    else [])

abbrev pub numbered_segment_tests : List ℕ → ℕ → List (Check ElfError)
numbered_segment_tests b i = segment_tests b (loads_before b i) (program_header b i)

abbrev pub segments_tests : List ℕ → List (Check ElfError)
segments_tests b = each_check (numbered_segment_tests b) (from_to 0 (e_phnum b))

-- ---- the symbol table and its string table

-- the symbol table lies in the file, and so does a section of type SHT_STRTAB that it is linked to
abbrev pub are_tables_placed : List ℕ → Bool
are_tables_placed b =
    lies_in b (sh_offset b (symtab b)) (sh_size b (symtab b))
    && sh_size b (symtab b) % 16 == 0
    && nat_lt (sh_link b (symtab b)) (e_shnum b)
    && sh_type b (strtab b) == 3
    && lies_in b (sh_offset b (strtab b)) (sh_size b (strtab b))

-- the string table is empty or ends with a zero byte
abbrev pub are_texts_ended : List ℕ → Bool
are_texts_ended b = sh_size b (strtab b) == 0 || slice_index b (sh_offset b (strtab b) + sh_size b (strtab b) - 1) == 0

-- one section is the symbol table
abbrev pub symtab_tests : List ℕ → List (Check ElfError)
symtab_tests b =
    check (nat_lt 0 (length (symtabs b))) (NoSymtab 32)
    ∷ check (nat_le (length (symtabs b)) 1) (TwoSymtabs (second_place (symtabs b)))
    ∷ []

abbrev pub table_tests : List ℕ → List (Check ElfError)
table_tests b =
    check (sh_entsize b (symtab b) == 16) (EntrySize (symtab b + 36))
    ∷ check (are_tables_placed b) (SymRange (symtab b))
    ∷ check (are_texts_ended b) (NameEnd (strtab b))
    ∷ []

-- the name of the symbol at a place is in the string table
abbrev pub has_name : List ℕ → ℕ → Bool
has_name b at = st_name b at == 0 || nat_lt (st_name b at) (sh_size b (strtab b))

abbrev pub name_tests : List ℕ → ℕ → List (Check ElfError)
name_tests b i = check (has_name b (symbol_place b i)) (NameEnd (symbol_place b i)) ∷ []

abbrev pub names_tests : List ℕ → List (Check ElfError)
names_tests b = each_check (name_tests b) (from_to 0 (symbol_count b))

-- ---- all tests

unfoldable pub elf_tests : List ℕ → List (Check ElfError)
elf_tests b = header_tests b ++ (segments_tests b ++ (symtab_tests b ++ (table_tests b ++ names_tests b)))

-- the bytes are an executable, which stands for this image
pub record IsElf (b : List ℕ) (v : Image) : Type 0 where
  pub bytes : AreBytes b
  pub passes : first_fault (elf_tests b) ≡ None
  pub image : v ≡ image_of b

-- some bytes are an executable that stands for the image
abbrev pub IsImage : Image → Type 0
IsImage v = (b : List ℕ) × IsElf b v
