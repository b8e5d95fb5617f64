-- Lines of printed text. Each is its words, with a space between two, and ends with a newline.
use Rattle.std.specs.Prelude.{ℕ, List, [], ◌∷◌, ◌++◌}
use Rattle.std.specs.List.{flat_map}
use Rattle.isa_model.specs.Word.{wrapped, word_digits}

abbrev pub line : List (List ℕ) → List ℕ
line [] = 0x0a ∷ []
line (word ∷ []) = word ++ 0x0a ∷ []
line (word ∷ next ∷ words) = word ++ 0x20 ∷ line (next ∷ words)

abbrev pub lines : List (List (List ℕ)) → List ℕ
lines all = flat_map line all

-- an address in print; of the end 2 ^ 32, which has nine digits, the last eight
abbrev pub address_digits : ℕ → List ℕ
address_digits a = word_digits (wrapped a)
