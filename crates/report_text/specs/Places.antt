-- Places in print: a path in a JSON text, and what a range of addresses belongs to.
use Rattle.std.specs.Prelude.{ℕ, List, [], ◌∷◌, ◌++◌, codes, decimal}
use Rattle.std.specs.List.{flat_map}
use Rattle.isa_model.specs.Word.{word_digits}
use Rattle.asm_syntax.specs.declared.path.Step.{Step}
use Rattle.asm_syntax.specs.declared.path.Step.TheVariants.{Key, Index}
use Rattle.link_model.specs.declared.owner.Owner.{Owner}
use Rattle.link_model.specs.declared.owner.Owner.TheVariants.{Function, Table, Variable, Padding, Foreign}

abbrev pub step_text : Step → List ℕ
step_text (Key name) = name
step_text (Index i) = decimal i

-- the steps with a `/` between two; the whole text is `.`
abbrev pub path_text : List Step → List ℕ
path_text [] = codes "."
path_text (step ∷ steps) = step_text step ++ flat_map (λ s. 0x2f ∷ step_text s) steps

abbrev pub owner_words : Owner → List (List ℕ)
owner_words (Function unit name) = codes "function" ∷ unit ∷ name ∷ []
owner_words (Table unit name offset) = codes "table" ∷ unit ∷ name ∷ word_digits offset ∷ []
owner_words (Variable unit name) = codes "variable" ∷ unit ∷ name ∷ []
owner_words Padding = codes "padding" ∷ []
owner_words Foreign = codes "foreign" ∷ []
