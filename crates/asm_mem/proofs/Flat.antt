-- The cells of slots, by their places.
use Rattle.std.proofs.Common.{◌≡◌, ℕ, zero, suc, ◌+◌, ◌*◌, ◌/◌, ◌%◌, ◌<◌, ◌≤◌, List, [], ◌∷◌, length, replicate, take, slice_index_or}
use Rattle.std.proofs.Common.{slice_set, Option, Some, None, refl, ap, ◌∙◌, arith}
use Rattle.asm_mem.specs.declared.value.Val.{Val}
use Rattle.asm_mem.specs.declared.value.Val.TheVariants as val
use Rattle.asm_mem.specs.declared.cell.Cell.{Cell}
use Rattle.asm_mem.specs.declared.cell.Cell.TheVariants.{Nothing}
use Rattle.asm_mem.specs.declared.slot.Slot.{Slot}
use Rattle.asm_mem.specs.Cells.{part_of, byte_cell}
use Rattle.asm_mem.specs.Slots.{slot_cell, slot_set, slot_of, byte_content, empty_slot, flat}

flat_at : (ss : List Slot) (q r o : ℕ) (d : Slot) (c : Cell) → o ≡ 4 * q + r → r < 4 → q < length ss
    → slice_index_or (flat ss) o c ≡ slot_cell (slice_index_or ss q d) r
flat_at [] q r o d c e l h = absurd (omega arith)
flat_at (s ∷ ss) zero zero o d c e l h = rw e refl
flat_at (s ∷ ss) zero (suc zero) o d c e l h = rw e refl
flat_at (s ∷ ss) zero (suc (suc zero)) o d c e l h = rw e refl
flat_at (s ∷ ss) zero (suc (suc (suc zero))) o d c e l h = rw e refl
flat_at (s ∷ ss) zero (suc (suc (suc (suc r)))) o d c e l h = absurd (omega arith)
flat_at (s ∷ ss) (suc q) r zero d c e l h = absurd (omega arith)
flat_at (s ∷ ss) (suc q) r (suc zero) d c e l h = absurd (omega arith)
flat_at (s ∷ ss) (suc q) r (suc (suc zero)) d c e l h = absurd (omega arith)
flat_at (s ∷ ss) (suc q) r (suc (suc (suc zero))) d c e l h = absurd (omega arith)
flat_at (s ∷ ss) (suc q) r (suc (suc (suc (suc o)))) d c e l h = flat_at ss q r o d c (omega arith) l (omega arith)

flat_set : (ss : List Slot) (q r o : ℕ) (d : Slot) (b : Option ℕ) → o ≡ 4 * q + r → r < 4 → q < length ss
    → slice_set (flat ss) o (byte_cell b) ≡ flat (slice_set ss q (slot_set (slice_index_or ss q d) r (byte_content b)))
flat_set [] q r o d b e l h = absurd (omega arith)
flat_set (s ∷ ss) zero zero o d None e l h = rw e refl
flat_set (s ∷ ss) zero zero o d (Some x) e l h = rw e refl
flat_set (s ∷ ss) zero (suc zero) o d None e l h = rw e refl
flat_set (s ∷ ss) zero (suc zero) o d (Some x) e l h = rw e refl
flat_set (s ∷ ss) zero (suc (suc zero)) o d None e l h = rw e refl
flat_set (s ∷ ss) zero (suc (suc zero)) o d (Some x) e l h = rw e refl
flat_set (s ∷ ss) zero (suc (suc (suc zero))) o d None e l h = rw e refl
flat_set (s ∷ ss) zero (suc (suc (suc zero))) o d (Some x) e l h = rw e refl
flat_set (s ∷ ss) zero (suc (suc (suc (suc r)))) o d b e l h = absurd (omega arith)
flat_set (s ∷ ss) (suc q) r zero d b e l h = absurd (omega arith)
flat_set (s ∷ ss) (suc q) r (suc zero) d b e l h = absurd (omega arith)
flat_set (s ∷ ss) (suc q) r (suc (suc zero)) d b e l h = absurd (omega arith)
flat_set (s ∷ ss) (suc q) r (suc (suc (suc zero))) d b e l h = absurd (omega arith)
flat_set (s ∷ ss) (suc q) r (suc (suc (suc (suc o)))) d b e l h =
    ap (λ (l : List Cell). slot_cell s 0 ∷ slot_cell s 1 ∷ slot_cell s 2 ∷ slot_cell s 3 ∷ l)
    (flat_set ss q r o d b (omega arith) l (omega arith))

-- four cells of a value
abbrev put_four : List Cell → ℕ → Val → List Cell
put_four xs o v =
    slice_set (slice_set (slice_set (slice_set xs o (part_of v 0)) (suc o) (part_of v 1)) (suc (suc o)) (part_of v 2))
    (suc (suc (suc o))) (part_of v 3)

put_first : (x y z w : Cell) (xs : List Cell) (ss : List Slot) (v : Val) → xs ≡ flat ss
    → put_four (x ∷ y ∷ z ∷ w ∷ xs) 0 v ≡ flat (slot_of v ∷ ss)
put_first x y z w xs ss val.Undef e = rw e refl
put_first x y z w xs ss (val.Int n) e = rw e refl
put_first x y z w xs ss (val.Ptr b o) e = rw e refl
put_first x y z w xs ss (val.Code b o) e = rw e refl
put_first x y z w xs ss (val.Ext b o) e = rw e refl
put_first x y z w xs ss val.Stop e = rw e refl
put_first x y z w xs ss (val.Ha k o n) e = rw e refl

flat_put : (ss : List Slot) (q o : ℕ) (v : Val) → o ≡ 4 * q → q < length ss → put_four (flat ss) o v ≡ flat (slice_set ss q (slot_of v))
flat_put [] q o v e h = absurd (omega arith)
flat_put (s ∷ ss) zero o v e h = rw e (put_first (slot_cell s 0) (slot_cell s 1) (slot_cell s 2) (slot_cell s 3) (flat ss) ss v refl)
flat_put (s ∷ ss) (suc q) zero v e h = absurd (omega arith)
flat_put (s ∷ ss) (suc q) (suc zero) v e h = absurd (omega arith)
flat_put (s ∷ ss) (suc q) (suc (suc zero)) v e h = absurd (omega arith)
flat_put (s ∷ ss) (suc q) (suc (suc (suc zero))) v e h = absurd (omega arith)
flat_put (s ∷ ss) (suc q) (suc (suc (suc (suc o)))) v e h =
    ap (λ (l : List Cell). slot_cell s 0 ∷ slot_cell s 1 ∷ slot_cell s 2 ∷ slot_cell s 3 ∷ l)
    (flat_put ss q o v (omega arith) (omega arith))

-- ---- the first cells of a list

take_at : (n : ℕ) (xs : List Cell) (o : ℕ) (c : Cell) → o < n → slice_index_or (take n xs) o c ≡ slice_index_or xs o c
take_at zero xs o c h = absurd (omega arith)
take_at (suc n) [] o c h = refl
take_at (suc n) (x ∷ xs) zero c h = refl
take_at (suc n) (x ∷ xs) (suc o) c h = take_at n xs o c (omega arith)

take_set : (n : ℕ) (xs : List Cell) (o : ℕ) (c : Cell) → slice_set (take n xs) o c ≡ take n (slice_set xs o c)
take_set zero xs o c = refl
take_set (suc n) [] o c = refl
take_set (suc n) (x ∷ xs) zero c = refl
take_set (suc n) (x ∷ xs) (suc o) c = ap (λ (l : List Cell). x ∷ l) (take_set n xs o c)

pub cell_at : (n : ℕ) (ss : List Slot) (o : ℕ) (d : Slot) → o < n → n ≤ 4 * length ss
    → slice_index_or (take n (flat ss)) o Nothing ≡ slot_cell (slice_index_or ss (o / 4) d) (o % 4)
cell_at n ss o d h l =
    take_at n (flat ss) o Nothing h ∙ flat_at ss (o / 4) (o % 4) o d Nothing (omega arith) (omega arith) (omega arith)

pub set_at : (n : ℕ) (ss : List Slot) (o : ℕ) (d : Slot) (b : Option ℕ) → o < n → n ≤ 4 * length ss
    → slice_set (take n (flat ss)) o (byte_cell b)
    ≡ take n (flat (slice_set ss (o / 4) (slot_set (slice_index_or ss (o / 4) d) (o % 4) (byte_content b))))
set_at n ss o d b h l =
    take_set n (flat ss) o (byte_cell b)
    ∙ ap (λ (xs : List Cell). take n xs) (flat_set ss (o / 4) (o % 4) o d b (omega arith) (omega arith) (omega arith))

-- four cells from an offset on
abbrev put_from : List Cell → ℕ → Val → List Cell
put_from xs o v =
    slice_set (slice_set (slice_set (slice_set xs o (part_of v 0)) (o + 1) (part_of v 1)) (o + 1 + 1) (part_of v 2))
    (o + 1 + 1 + 1) (part_of v 3)

put_is : (xs : List Cell) (o : ℕ) (v : Val) → put_from xs o v ≡ put_four xs o v
put_is xs o v =
    let one : o + 1 ≡ suc o = omega arith in
    let two : suc o + 1 ≡ suc (suc o) = omega arith in
    let three : suc (suc o) + 1 ≡ suc (suc (suc o)) = omega arith in
    rw (one, two, three) refl

take_put : (n : ℕ) (xs : List Cell) (o : ℕ) (v : Val) → put_four (take n xs) o v ≡ take n (put_four xs o v)
take_put n xs o v =
    let a = slice_set xs o (part_of v 0) in
    let b = slice_set a (suc o) (part_of v 1) in
    let c = slice_set b (suc (suc o)) (part_of v 2) in
    rw (
      take_set n xs o (part_of v 0),
      take_set n a (suc o) (part_of v 1),
      take_set n b (suc (suc o)) (part_of v 2),
      take_set n c (suc (suc (suc o))) (part_of v 3),
    ) refl

pub put_at : (n : ℕ) (ss : List Slot) (o : ℕ) (v : Val) → o % 4 ≡ 0 → o < n → n ≤ 4 * length ss
    → put_from (take n (flat ss)) o v ≡ take n (flat (slice_set ss (o / 4) (slot_of v)))
put_at n ss o v e h l =
    put_is (take n (flat ss)) o v ∙ take_put n (flat ss) o v
    ∙ ap (λ (xs : List Cell). take n xs) (flat_put ss (o / 4) o v (omega arith) (omega arith))

pub set_past : (xs : List Cell) (o : ℕ) (c : Cell) → length xs ≤ o → slice_set xs o c ≡ xs
set_past [] o c h = refl
set_past (x ∷ xs) zero c h = absurd (omega arith)
set_past (x ∷ xs) (suc o) c h = ap (λ (l : List Cell). x ∷ l) (set_past xs o c (omega arith))

pub put_past : (xs : List Cell) (o : ℕ) (v : Val) → length xs ≤ o → put_from xs o v ≡ xs
put_past xs o v h =
    rw (
      set_past xs o (part_of v 0) h,
      set_past xs (o + 1) (part_of v 1) (omega arith),
      set_past xs (o + 1 + 1) (part_of v 2) (omega arith),
      set_past xs (o + 1 + 1 + 1) (part_of v 3) (omega arith),
    ) refl

length_set : (ss : List Slot) (i : ℕ) (s : Slot) → length (slice_set ss i s) ≡ length ss
length_set [] i s = refl
length_set (x ∷ ss) zero s = refl
length_set (x ∷ ss) (suc i) s = ap suc (length_set ss i s)

pub flat_length : (n : ℕ) (ss : List Slot) → n ≤ 4 * length ss → length (take n (flat ss)) ≡ n
flat_length zero ss h = refl
flat_length (suc n) [] h = absurd (omega arith)
flat_length (suc zero) (s ∷ ss) h = refl
flat_length (suc (suc zero)) (s ∷ ss) h = refl
flat_length (suc (suc (suc zero))) (s ∷ ss) h = refl
flat_length (suc (suc (suc (suc n)))) (s ∷ ss) h = ap (λ k. suc (suc (suc (suc k)))) (flat_length n ss (omega arith))

pub flat_empty : (n k : ℕ) → n ≤ 4 * k → take n (flat (replicate k empty_slot)) ≡ replicate n Nothing
flat_empty zero k h = refl
flat_empty (suc n) zero h = absurd (omega arith)
flat_empty (suc zero) (suc k) h = refl
flat_empty (suc (suc zero)) (suc k) h = refl
flat_empty (suc (suc (suc zero))) (suc k) h = refl
flat_empty (suc (suc (suc (suc n)))) (suc k) h =
    ap (λ (l : List Cell). Nothing ∷ Nothing ∷ Nothing ∷ Nothing ∷ l) (flat_empty n k (omega arith))
