-- How many cells blocks have together, and the newest of them.
use Rattle.std.proofs.Common.{◌≡◌, ℕ, zero, suc, ◌+◌, ◌-◌, ◌<◌, ◌≤◌, Bool, true, false, List, [], ◌∷◌, ◌++◌, length, take, drop}
use Rattle.std.proofs.Common.{slice_index_or, slice_set, reverse, Some, None, refl, ap, sym, ◌∙◌, arith, if◌then◌else◌}
use Rattle.std.specs.Prelude.{find}
use Rattle.std.proofs.lemmas.List.{length-replicate}
use Rattle.asm_mem.specs.declared.cell.Cell.TheVariants.{Nothing}
use Rattle.std.proofs.lemmas.List.{get_or-reverse, length-reverse, take_more}
use Rattle.asm_mem.specs.declared.cell.Cell.{Cell}
use Rattle.asm_mem.specs.declared.block.Edit.{Edit}
use Rattle.asm_mem.specs.Blocks.{Live, has, update, set_cell, set_cells, new_block, newest, total, total_from}
use Rattle.asm_mem.specs.Edits.{edited, offset_of, edit_cells}
use Rattle.asm_mem.specs.Order.{Above, Below, Rising, AreBlocks, HasCells}
use Rattle.asm_mem.proofs.Reversed.{reverse_cons}
use Rattle.asm_mem.proofs.Pushing.{reverse_push}

total_append : (ks js : List Live) → total (ks ++ js) ≡ total ks + total js
total_append [] js = omega arith
total_append (k ∷ ks) js = omega (arith, total_append ks js)

pub total_reverse : (ks : List Live) → total (reverse ks) ≡ total ks
total_reverse [] = refl
total_reverse (k ∷ ks) =
    rw (reverse_cons k ks) (omega (arith, total_append (reverse ks) (k ∷ []), total_reverse ks))

total_set : (ks : List Live) (i : ℕ) (x d : Live) → length x.cells ≡ length (slice_index_or ks i d).cells
    → total (slice_set ks i x) ≡ total ks
total_set [] i x d e = refl
total_set (k ∷ ks) zero x d e = omega (arith, e)
total_set (k ∷ ks) (suc i) x d e = omega (arith, total_set ks i x d e)

pub total_at : (ks : List Live) (i : ℕ) (d : Live) → i < length ks → length (slice_index_or ks i d).cells ≤ total ks
total_at [] i d h = absurd (omega arith)
total_at (k ∷ ks) zero d h = omega arith
total_at (k ∷ ks) (suc i) d h = omega (arith, total_at ks i d (omega arith))

cells_set : (xs : List Cell) (i : ℕ) (c : Cell) → length (slice_set xs i c) ≡ length xs
cells_set [] i c = refl
cells_set (x ∷ xs) zero c = refl
cells_set (x ∷ xs) (suc i) c = ap suc (cells_set xs i c)

pub set_cells_length : (k : Live) (o : ℕ) (cs : List Cell) → length (set_cells k o cs).cells ≡ length k.cells
set_cells_length k o [] = refl
set_cells_length k o (c ∷ cs) = set_cells_length (set_cell k o c) (o + 1) cs ∙ cells_set k.cells o c

pub set_cells_number : (k : Live) (o : ℕ) (cs : List Cell) → (set_cells k o cs).number ≡ k.number
set_cells_number k o [] = refl
set_cells_number k o (c ∷ cs) = set_cells_number (set_cell k o c) (o + 1) cs

pub edited_length : (e : Edit) (k : Live) → length (edited e k).cells ≡ length k.cells
edited_length e k = set_cells_length k (offset_of e) (edit_cells e)

pub edited_number : (e : Edit) (k : Live) → (edited e k).number ≡ k.number
edited_number e k = set_cells_number k (offset_of e) (edit_cells e)

pub kept_cells : (ks : List Live) (i n c : ℕ) (x d : Live) → HasCells ks n c → length x.cells ≡ length (slice_index_or ks i d).cells
    → HasCells (slice_set ks i x) n c
kept_cells ks i n c x d h e =
    let t = total_set ks i x d e in
    record { sum = omega (arith, h.sum, t); bounded = omega (arith, h.bounded, t); within = h.within }

pub pushed_cells : (ks : List Live) (k : Live) (n c s : ℕ) → HasCells ks n c → length k.cells ≡ s → s < 4294967296 → n < 4000000000
    → HasCells (ks ++ k ∷ []) (n + 1) (c + s)
pushed_cells ks k n c s h e l m =
    let t = total_append ks (k ∷ []) in
    record { sum = omega (arith, h.sum, t, e); bounded = omega (arith, h.bounded, t, e); within = omega arith }

pub pushed_empty : (ks : List Live) (k : Live) (n c s : ℕ) (w : Bool) → HasCells ks n c → k ≡ new_block n s w
    → s < 4294967296 → n < 4000000000 → HasCells (ks ++ k ∷ []) (n + 1) (c + s)
pushed_empty ks k n c s w h e l m =
    pushed_cells ks k n c s h (ap (λ (j : Live). length j.cells) e ∙ length-replicate s Nothing) l m

-- ---- the newest block is taken away

pub popped_live : (ks : List Live) (k : Live) → drop 1 (reverse (ks ++ k ∷ [])) ≡ reverse ks
popped_live ks k = rw (reverse_push ks k) refl

below_pop : (ks : List Live) (k : Live) (n : ℕ) → Below n (ks ++ k ∷ []) → Below n ks
below_pop [] k n b = tt
below_pop (j ∷ ks) k n b = (b.0, below_pop ks k n b.1)

above_pop : (ks : List Live) (k : Live) (n : ℕ) → Above n (ks ++ k ∷ []) → Above n ks
above_pop [] k n b = tt
above_pop (j ∷ ks) k n b = (b.0, above_pop ks k n b.1)

rising_pop : (ks : List Live) (k : Live) → Rising (ks ++ k ∷ []) → Rising ks
rising_pop [] k r = tt
rising_pop (j ∷ ks) k r = (above_pop ks k j.number r.0, rising_pop ks k r.1)

pub popped_blocks : (ks : List Live) (k : Live) (n : ℕ) → AreBlocks (ks ++ k ∷ []) n → AreBlocks ks n
popped_blocks ks k n a = record { rising = rising_pop ks k a.rising; below = below_pop ks k n a.below }

pub popped_most : (ks : List Live) (k : Live) (n c : ℕ) → HasCells (ks ++ k ∷ []) n c → length k.cells ≤ c
popped_most ks k n c h = omega (arith, h.sum, total_append ks (k ∷ []))

pub popped_cells : (ks : List Live) (k : Live) (n c : ℕ) → HasCells (ks ++ k ∷ []) n c → HasCells ks n (c - length k.cells)
popped_cells ks k n c h =
    let t = total_append ks (k ∷ []) in
    record { sum = omega (arith, h.sum, t); bounded = omega (arith, h.bounded, t); within = h.within }

-- ---- by the place from the newest on

newest_at : (ks : List Live) (i : ℕ) (d : Live) → i < length ks → newest ks i ≡ Some (slice_index_or ks i d).number
newest_at [] i d h = absurd (omega arith)
newest_at (k ∷ ks) zero d h = refl
newest_at (k ∷ ks) (suc i) d h = newest_at ks i d (omega arith)

newest_past : (ks : List Live) (i : ℕ) → length ks ≤ i → newest ks i ≡ None
newest_past [] i h = refl
newest_past (k ∷ ks) zero h = absurd (omega arith)
newest_past (k ∷ ks) (suc i) h = newest_past ks i (omega arith)

pub newest_reverse : (ks : List Live) (i : ℕ) (d : Live) → i < length ks
    → newest (reverse ks) i ≡ Some (slice_index_or ks (length ks - 1 - i) d).number
newest_reverse ks i d h =
    newest_at (reverse ks) i d (omega (arith, length-reverse ks)) ∙ ap (λ (k : Live). Some k.number) (get_or-reverse ks i d h)

pub newest_none : (ks : List Live) (i : ℕ) → length ks ≤ i → newest (reverse ks) i ≡ None
newest_none ks i h = newest_past (reverse ks) i (omega (arith, length-reverse ks))

pub update_absent : (f : Live → Live) (xs : List Live) (b : ℕ) → find (has b) xs ≡ None → update b f xs ≡ xs
update_absent f [] b e = refl
update_absent f (x ∷ xs) b e =
    let at : (t : Bool) → has b x ≡ t → update b f (x ∷ xs) ≡ x ∷ xs = λ t.
    elim t as (λ u. has b x ≡ u → update b f (x ∷ xs) ≡ x ∷ xs) [
      | true ↦ λ h. (let q : Some x ≡ None = rw h at e in cc)
      | false ↦ λ h. (let q : find (has b) xs ≡ None = rw h at e in rw h (ap (λ l. x ∷ l) (update_absent f xs b q)))
    ] in
    at (has b x) refl

-- ---- the newest so many blocks left out

pub from_step : (ks : List Live) (b i j : ℕ) (d : Live) → i < length ks → j ≡ i + 1
    → total_from b (reverse (take j ks))
    ≡ (if has b (slice_index_or ks i d) then Some (total (take j ks)) else total_from b (reverse (take i ks)))
from_step ks b i j d h e =
    let k = slice_index_or ks i d in
    let t = take_more ks i d h in
    let r : reverse (take (i + 1) ks) ≡ k ∷ reverse (take i ks) = ap (λ (l : List Live). reverse l) t ∙ reverse_push (take i ks) k in
    let s : total (k ∷ reverse (take i ks)) ≡ total (take (i + 1) ks) =
    ap total (sym r) ∙ total_reverse (take (i + 1) ks) in
    rw (e, r) (ap (λ (n : ℕ). if has b k then Some n else total_from b (reverse (take i ks))) s)

pub total_step : (ks : List Live) (i j : ℕ) (d : Live) → i < length ks → j ≡ i + 1
    → total (take j ks) ≡ total (take i ks) + length (slice_index_or ks i d).cells
total_step ks i j d h e =
    let t = take_more ks i d h in
    rw (e, t) (omega (arith, total_append (take i ks) (slice_index_or ks i d ∷ [])))
