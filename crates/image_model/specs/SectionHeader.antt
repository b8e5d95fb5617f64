-- Section headers: the fields of one at its place, and the lists of places. System V gABI, "Sections".
use Rattle.std.specs.Prelude.{ℕ, ◌+◌, ◌*◌, Bool, ◌==◌, List, [], ◌∷◌, map, filter}
use Rattle.ordered_tests.specs.Checks.{from_to}
use Rattle.image_model.specs.Bytes.{word, part}
use Rattle.image_model.specs.FileHeader.{e_shoff, e_shnum}

-- the place of section header i
abbrev pub section_header : List ℕ → ℕ → ℕ
section_header b i = e_shoff b + 40 * i

abbrev pub section_headers : List ℕ → List ℕ
section_headers b = map (section_header b) (from_to 0 (e_shnum b))

abbrev pub sh_type : List ℕ → ℕ → ℕ
sh_type b at = word b (at + 4)

abbrev pub sh_offset : List ℕ → ℕ → ℕ
sh_offset b at = word b (at + 16)

abbrev pub sh_size : List ℕ → ℕ → ℕ
sh_size b at = word b (at + 20)

abbrev pub sh_link : List ℕ → ℕ → ℕ
sh_link b at = word b (at + 24)

abbrev pub sh_entsize : List ℕ → ℕ → ℕ
sh_entsize b at = word b (at + 36)

-- the bytes of a section
abbrev pub section_bytes : List ℕ → ℕ → List ℕ
section_bytes b at = part b (sh_offset b at) (sh_size b at)

-- SHT_SYMTAB
abbrev pub is_symtab : List ℕ → ℕ → Bool
is_symtab b at = sh_type b at == 2

abbrev pub symtabs : List ℕ → List ℕ
symtabs b = filter (is_symtab b) (section_headers b)

-- the first of a list of places; 0 stands where there is none
abbrev pub first_place : List ℕ → ℕ
first_place [] = 0
first_place (x ∷ xs) = x

-- the second of a list of places; 0 stands where there is none
abbrev pub second_place : List ℕ → ℕ
second_place [] = 0
second_place (x ∷ xs) = first_place xs

-- the symbol table's header, and that of the string table that it is linked to
abbrev pub symtab : List ℕ → ℕ
symtab b = first_place (symtabs b)

abbrev pub strtab : List ℕ → ℕ
strtab b = section_header b (sh_link b (symtab b))
