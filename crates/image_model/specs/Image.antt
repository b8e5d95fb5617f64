-- What the bytes of an executable stand for. System V gABI, "Program Loading", "Symbol Table".
use Rattle.std.specs.Prelude.{ℕ, List, map}
use Rattle.image_model.specs.Bytes.{part}
use Rattle.image_model.specs.FileHeader.{e_entry}
use Rattle.image_model.specs.ProgramHeader.{p_offset, p_vaddr, p_filesz, p_memsz, p_flags, loaded_headers}
use Rattle.image_model.specs.SectionHeader.{section_bytes, strtab}
use Rattle.image_model.specs.SymbolTable.{symbol_places, st_name, st_value, st_size, st_bind, st_type, st_shndx, text_at}

-- a segment: its address, the bytes that the file holds of it, its size in memory, its flags
pub record Segment : Type 0 where
  pub vaddr : ℕ
  pub held : List ℕ
  pub memsz : ℕ
  pub flags : ℕ

pub record Symbol : Type 0 where
  pub name : List ℕ
  pub value : ℕ
  pub size : ℕ
  pub binding : ℕ
  pub kind : ℕ
  pub shndx : ℕ

pub record Image : Type 0 where
  pub entry : ℕ
  pub segments : List Segment
  pub symbols : List Symbol

-- the segment of the program header at a place
abbrev pub segment_at : List ℕ → ℕ → Segment
segment_at b at = record {
  vaddr = p_vaddr b at;
  held = part b (p_offset b at) (p_filesz b at);
  memsz = p_memsz b at;
  flags = p_flags b at;
}

-- the symbol at a place
abbrev pub symbol_at : List ℕ → ℕ → Symbol
symbol_at b at = record {
  name = text_at (section_bytes b (strtab b)) (st_name b at);
  value = st_value b at;
  size = st_size b at;
  binding = st_bind b at;
  kind = st_type b at;
  shndx = st_shndx b at;
}

abbrev pub segments_of : List ℕ → List Segment
segments_of b = map (segment_at b) (loaded_headers b)

abbrev pub symbols_of : List ℕ → List Symbol
symbols_of b = map (symbol_at b) (symbol_places b)

unfoldable pub image_of : List ℕ → Image
image_of b = record { entry = e_entry b; segments = segments_of b; symbols = symbols_of b }
