-- Fills, one after another.
use Rattle.std.proofs.Common.{◌≡◌, ℕ, zero, suc, ◌+◌, ◌<◌, ◌≤◌, Bool, true, false, List, [], ◌∷◌, length, map, take, drop, get_or}
use Rattle.std.proofs.Common.{slice_index_or, Some, refl, ap, ◌∙◌, arith, if◌then◌else◌}
use Rattle.std.specs.Prelude.{◌==◌}
use Rattle.std.proofs.lemmas.List.{drop_more}
use Rattle.asm_mem.specs.declared.cell.Cell.TheVariants.{Byte}
use Rattle.asm_mem.specs.Blocks.{Live, has, set_cell, set_cells, update, with_byte}
use Rattle.call_bytes.specs.Calls.{first_fill, rest_fills}

pub take_all : (n : ℕ) (xs : List ℕ) → length xs ≤ n → take n xs ≡ xs
take_all zero [] h = refl
take_all (suc n) [] h = refl
take_all zero (x ∷ xs) h = absurd (omega arith)
take_all (suc n) (x ∷ xs) h = ap (λ (l : List ℕ). x ∷ l) (take_all n xs (omega arith))

-- ---- fills

pub first_left : (fills : List (List ℕ)) (u : ℕ) → first_fill (drop u fills) ≡ slice_index_or fills u []
first_left [] zero = refl
first_left [] (suc u) = refl
first_left (x ∷ fills) zero = refl
first_left (x ∷ fills) (suc u) = first_left fills u

pub rest_left : (fills : List (List ℕ)) (u : ℕ) → rest_fills (drop u fills) ≡ drop (suc u) fills
rest_left [] zero = refl
rest_left [] (suc u) = refl
rest_left (x ∷ fills) zero = refl
rest_left (x ∷ fills) (suc u) = rest_left fills u
