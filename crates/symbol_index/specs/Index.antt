-- What an index over the symbols of an image holds.
use Rattle.std.specs.Prelude.{ℕ, Bool, List, [], Option, map, position, bytes_eq, slice_index_or}
use Rattle.image_model.specs.Image.{Symbol}

-- the symbols of the image, and their numbers by place
pub record Index : Type 0 where
  pub symbols : List Symbol
  pub places : List ℕ

-- stands past the last symbol
abbrev pub no_symbol : Symbol
no_symbol = record { name = []; value = 0; size = 0; binding = 0; kind = 0; shndx = 0 }

-- the symbol with this number
abbrev pub symbol_at : List Symbol → ℕ → Symbol
symbol_at symbols i = slice_index_or symbols i no_symbol

abbrev pub has_name : List ℕ → Symbol → Bool
has_name name s = bytes_eq s.name name

-- the first place whose symbol has the name
abbrev pub first_place : Index → List ℕ → Option ℕ
first_place x name = position (λ i. has_name name (symbol_at x.symbols i)) x.places

-- the symbols in the order of their places
abbrev pub in_order : Index → List Symbol
in_order x = map (symbol_at x.symbols) x.places
