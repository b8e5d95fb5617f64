-- Program headers: the fields of one at its place, and the lists of places. System V gABI, "Program Header".
use Rattle.std.specs.Prelude.{ℕ, ◌+◌, ◌*◌, Bool, ◌&&◌, nat_lt, ◌==◌, List, map, filter}
use Rattle.ordered_tests.specs.Checks.{from_to}
use Rattle.image_model.specs.Bytes.{word}
use Rattle.image_model.specs.FileHeader.{e_phoff, e_phnum}

-- the place of program header i
abbrev pub program_header : List ℕ → ℕ → ℕ
program_header b i = e_phoff b + 32 * i

abbrev pub program_headers : List ℕ → List ℕ
program_headers b = map (program_header b) (from_to 0 (e_phnum b))

abbrev pub p_type : List ℕ → ℕ → ℕ
p_type b at = word b at

abbrev pub p_offset : List ℕ → ℕ → ℕ
p_offset b at = word b (at + 4)

abbrev pub p_vaddr : List ℕ → ℕ → ℕ
p_vaddr b at = word b (at + 8)

abbrev pub p_filesz : List ℕ → ℕ → ℕ
p_filesz b at = word b (at + 16)

abbrev pub p_memsz : List ℕ → ℕ → ℕ
p_memsz b at = word b (at + 20)

abbrev pub p_flags : List ℕ → ℕ → ℕ
p_flags b at = word b (at + 24)

-- PT_LOAD
abbrev pub is_load : List ℕ → ℕ → Bool
is_load b at = p_type b at == 1

-- the PT_LOAD headers before header i
abbrev pub loads_before : List ℕ → ℕ → List ℕ
loads_before b i = filter (is_load b) (map (program_header b) (from_to 0 i))

-- a PT_LOAD header with a byte in memory
abbrev pub is_loaded : List ℕ → ℕ → Bool
is_loaded b at = is_load b at && nat_lt 0 (p_memsz b at)

abbrev pub loaded_headers : List ℕ → List ℕ
loaded_headers b = filter (is_loaded b) (program_headers b)
