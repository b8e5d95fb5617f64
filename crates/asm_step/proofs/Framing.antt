-- The block of a new frame.
use Rattle.std.proofs.Common.{◌≡◌, ℕ, zero, suc, ◌≤◌, Bool, true, false, List, [], ◌∷◌, length, slice_index_or, Option, Some, refl, ap, sym}
use Rattle.std.proofs.Common.{◌∙◌, arith}
use Rattle.std.specs.Prelude.{◌==◌, nat_le}
use Rattle.std.proofs.lemmas.Bool.{eq-eqb, leb-false}
use Rattle.asm_mem.specs.declared.value.Val.{Val}
use Rattle.asm_mem.specs.declared.value.Val.TheVariants.{Undef, Ptr}
use Rattle.asm_mem.specs.declared.cell.Cell.{Cell}
use Rattle.asm_mem.specs.declared.cell.Cell.TheVariants.{Nothing, Byte, Part}
use Rattle.asm_mem.specs.Values.{same_val}
use Rattle.asm_mem.specs.Cells.{joined}
use Rattle.asm_mem.specs.Blocks.{Live, cell, new_block, newest, read_block, value_at, write_block, written}
use Rattle.asm_step.specs.Frames.{holds, popped, popped_by}
use Rattle.asm_step.specs.LinkedCode.{Linked}
use Rattle.asm_step.specs.State.{State}

-- what is written into the block that was just made
pub pushed_block : (live : List Live) (b n : ℕ) (v : Val)
    → written (new_block b n true ∷ live) b 0 v ≡ write_block (new_block b n true) 4 0 v ∷ live
pushed_block live b n v = let e : (b == b) ≡ true = eq-eqb b b refl in rw e refl

-- ---- the newest two blocks by their numbers

joined_nothing : (a b c : Cell) → joined a b c Nothing ≡ Undef
joined_nothing (Byte a) (Byte b) (Byte c) = refl
joined_nothing (Part u i) (Part v j) (Part w k) = refl
joined_nothing _ _ _ = refl

past_end : (xs : List Cell) (i : ℕ) → length xs ≤ i → slice_index_or xs i Nothing ≡ Nothing
past_end [] i h = refl
past_end (x ∷ xs) zero h = absurd (omega arith)
past_end (x ∷ xs) (suc i) h = past_end xs i (omega arith)

-- the value of the first four cells, where the block has so many or not
first_cells : (k : Live) (j : ℕ) → holds (read_block k 4 0) (Ptr j 0) ≡ same_val (value_at k 4 0) (Ptr j 0)
first_cells k j = at (nat_le 4 (length k.cells)) refl
  where
    at : (t : Bool) → nat_le 4 (length k.cells) ≡ t → holds (read_block k 4 0) (Ptr j 0) ≡ same_val (value_at k 4 0) (Ptr j 0)
    at true h = rw h refl
    at false h =
        let short = leb-false 4 (length k.cells) h in
        let last : cell k 3 ≡ Nothing = past_end k.cells 3 (omega arith) in
        let value : value_at k 4 0 ≡ Undef = ap (λ (c : Cell). joined (cell k 0) (cell k 1) (cell k 2) c) last
        ∙ joined_nothing (cell k 0) (cell k 1) (cell k 2) in
        rw (h, value) refl

pub popped_newest : (p : Linked) (f i : ℕ) (s : State) (n : ℕ) (live : List Live)
    → popped_by p f i s n live (newest live 0) (newest live 1) ≡ popped p f i s n live
popped_newest p f i s n [] = refl
popped_newest p f i s n (k ∷ []) = refl
popped_newest p f i s n (k ∷ j ∷ ks) =
    let e : (k.number == k.number) ≡ true = eq-eqb k.number k.number refl in
    rw (e, first_cells k j.number) refl

pub popped_numbers : (p : Linked) (f i : ℕ) (s : State) (n : ℕ) (live : List Live) (k j : ℕ) → newest live 0 ≡ Some k
    → newest live 1 ≡ Some j
    → popped_by p f i s n live (Some k) (Some j) ≡ popped p f i s n live
popped_numbers p f i s n live k j a b =
    ap (λ (x : Option ℕ). popped_by p f i s n live x (Some j)) (sym a)
    ∙ ap (λ (x : Option ℕ). popped_by p f i s n live (newest live 0) x) (sym b)
    ∙ popped_newest p f i s n live
