-- The fields of the file header. System V gABI, "ELF Header".
use Rattle.std.specs.Prelude.{ℕ, List}
use Rattle.image_model.specs.Bytes.{half, word}

abbrev pub e_type : List ℕ → ℕ
e_type b = half b 16

abbrev pub e_machine : List ℕ → ℕ
e_machine b = half b 18

abbrev pub e_entry : List ℕ → ℕ
e_entry b = word b 24

abbrev pub e_phoff : List ℕ → ℕ
e_phoff b = word b 28

abbrev pub e_shoff : List ℕ → ℕ
e_shoff b = word b 32

abbrev pub e_ehsize : List ℕ → ℕ
e_ehsize b = half b 40

abbrev pub e_phentsize : List ℕ → ℕ
e_phentsize b = half b 42

abbrev pub e_phnum : List ℕ → ℕ
e_phnum b = half b 44

abbrev pub e_shentsize : List ℕ → ℕ
e_shentsize b = half b 46

abbrev pub e_shnum : List ℕ → ℕ
e_shnum b = half b 48
