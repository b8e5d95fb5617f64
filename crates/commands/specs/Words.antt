-- The words of a command line, each as its bytes.
use Rattle.std.specs.Prelude.{ℕ, Bool, false, not, ◌==◌, List, [], ◌∷◌, slice_index_or}

-- the word at a place, counted from 0
abbrev pub word_at : List (List ℕ) → ℕ → List ℕ
word_at words place = slice_index_or words place []

-- a word that may stand after a command's name: it is not empty and does not begin with `-`
abbrev pub is_operand : List ℕ → Bool
is_operand [] = false
is_operand (byte ∷ bytes) = not (byte == 45)
