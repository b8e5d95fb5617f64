-- What tests that pass tell of the places that are read.
use Rattle.std.specs.Prelude.{◌≡◌, ◌≤◌, ◌<◌, ℕ, ◌+◌, ◌*◌, ◌/◌, true, List, length, None}
use Rattle.ordered_tests.specs.Checks.{first_fault}
use Rattle.limits.specs.declared.TheConstants.{MOST_IMAGE_BYTES}
use Rattle.image_model.specs.Bytes.{AreBytes}
use Rattle.image_model.specs.FileHeader.{e_phoff, e_phnum, e_shoff, e_shnum}
use Rattle.image_model.specs.ProgramHeader.{program_header, is_load}
use Rattle.image_model.specs.SectionHeader.{sh_offset, sh_size, sh_link, symtab, strtab, section_bytes}
use Rattle.image_model.specs.SymbolTable.{symbol_count, symbol_place}
use Rattle.image_model.specs.Tests.{has_range, has_name, elf_tests}

-- the headers lie in the file
pub record ArePlaced (b : List ℕ) : Type 0 where
  pub programs : 0 < e_phnum b → e_phoff b + 32 * e_phnum b ≤ length b
  pub sections : 0 < e_shnum b → e_shoff b + 40 * e_shnum b ≤ length b

pub record IsHeaded (b : List ℕ) : Type 0 where
  pub least : 52 ≤ length b
  pub most : length b ≤ MOST_IMAGE_BYTES
  pub placed : ArePlaced b

-- the symbol table and its string table lie in the file
pub record AreTablesPlaced (b : List ℕ) : Type 0 where
  pub symbols : sh_offset b (symtab b) + sh_size b (symtab b) ≤ length b
  pub link : sh_link b (symtab b) < e_shnum b
  pub texts : sh_offset b (strtab b) + sh_size b (strtab b) ≤ length b

-- the tests pass, and all that a view reads lies in the file
pub record IsReadable (b : List ℕ) : Type 0 where
  pub bytes : AreBytes b
  pub passes : first_fault (elf_tests b) ≡ None
  pub headed : IsHeaded b
  pub ranges : (i : ℕ) → i < e_phnum b → is_load b (program_header b i) ≡ true → has_range b (program_header b i) ≡ true
  pub tables : AreTablesPlaced b
  pub names : (i : ℕ) → i < symbol_count b → has_name b (symbol_place b i) ≡ true

-- the fields of a view: where its symbols stand, how many there are, and the bytes of its string table
pub record IsView (b : List ℕ) (symbols_at symbol_count : ℕ) (texts : List ℕ) : Type 0 where
  pub readable : IsReadable b
  pub symbols : symbols_at ≡ sh_offset b (symtab b)
  pub count : symbol_count ≡ sh_size b (symtab b) / 16
  pub table : texts ≡ section_bytes b (strtab b)
