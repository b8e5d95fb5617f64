-- Items that are written into a new block, one behind another.
use Rattle.std.proofs.Common.{◌≡◌, ℕ, suc, ◌+◌, ◌%◌, ◌<◌, ◌≤◌, ℤ, Bool, true, false, List, [], ◌∷◌, ◌++◌, length, drop, get_or, replicate}
use Rattle.std.proofs.Common.{refl, ap, sym, ◌∙◌, arith}
use Rattle.std.specs.Prelude.{◌==◌, if◌then◌else◌, slice_set}
use Rattle.std.proofs.lemmas.Bool.{eq-eqb}
use Rattle.std.proofs.lemmas.List.{append_assoc, drop_all, drop_more, length-append, length-map, length-replicate, length_push, set_at}
use Rattle.std.proofs.lemmas.List.Sums.{sum_by-cons}
use Rattle.asm_syntax.specs.declared.unit.Init.{Init}
use Rattle.asm_syntax.specs.declared.unit.Init.TheVariants as inits
use Rattle.asm_syntax.specs.Sizes.{init_size, variable_size}
use Rattle.asm_mem.specs.declared.value.Val.{Val}
use Rattle.asm_mem.specs.declared.cell.Cell.{Cell}
use Rattle.asm_mem.specs.declared.cell.Cell.TheVariants.{Nothing, Byte}
use Rattle.asm_mem.specs.Blocks.{Live, Memory, has, new_block, pushed, set_cell, set_cells, update}
use Rattle.asm_mem.specs.Cells.{cells_of, empty_word}
use Rattle.asm_mem.proofs.Counting.{set_cells_number}
use Rattle.asm_mem.proofs.Filling.{update_then}
use Rattle.asm_machine.specs.Variables.{address_cells, cells_from, init_cells}

-- ---- sizes

address_length : (o : ℕ) (v : Val) → length (address_cells o v) ≡ 4
address_length o v = at (o % 4 == 0)
  where
    at : (t : Bool) → length (if t then cells_of 4 v else empty_word) ≡ 4
    at true = refl
    at false = refl

init_length : (f : List ℕ → ℤ → Val) (o : ℕ) (x : Init) → length (init_cells f o x) ≡ init_size x
init_length f o (inits.Int8 n) = refl
init_length f o (inits.Int16 n) = refl
init_length f o (inits.Int32 n) = refl
init_length f o (inits.Bytes bytes) = length-map bytes Byte
init_length f o (inits.Space n) = let zeros : List ℕ = replicate n 0 in length-map zeros Byte ∙ length-replicate n 0
init_length f o (inits.Addr name offset) = address_length o (f name offset)

pub size_cons : (x : Init) (xs : List Init) → variable_size (x ∷ xs) ≡ init_size x + variable_size xs
size_cons x xs = sum_by-cons init_size x xs

cells_length : (f : List ℕ → ℤ → Val) (o : ℕ) (xs : List Init) → length (cells_from f o xs) ≡ variable_size xs
cells_length f o [] = refl
cells_length f o (x ∷ xs) =
    let a = length-append (init_cells f o x) (cells_from f (o + init_size x) xs) in
    let b = init_length f o x in
    let c = cells_length f (o + init_size x) xs in
    let d = size_cons x xs in
    omega arith

pub size_more : (xs : List Init) (i : ℕ) (x : Init) → i < length xs → x ≡ get_or xs i x
    → variable_size (drop i xs) ≡ init_size x + variable_size (drop (i + 1) xs)
size_more xs i x lt is = rw (drop_more xs i x lt, ← is) (size_cons x (drop (i + 1) xs))

-- ---- cells behind others

set_append : (k : Live) (o : ℕ) (xs ys : List Cell) → set_cells k o (xs ++ ys) ≡ set_cells (set_cells k o xs) (o + length xs) ys
set_append k o [] ys = let e : o ≡ o + 0 = omega arith in ap (λ (n : ℕ). set_cells k n ys) e
set_append k o (x ∷ xs) ys =
    let e : o + 1 + length xs ≡ o + suc (length xs) = omega arith in
    set_append (set_cell k o x) (o + 1) xs ys ∙ ap (λ (n : ℕ). set_cells (set_cells (set_cell k o x) (o + 1) xs) n ys) e

update_agree : (b : ℕ) (f g : Live → Live) (live : List Live) → ((k : Live) → f k ≡ g k) → update b f live ≡ update b g live
update_agree b f g [] h = refl
update_agree b f g (k ∷ ks) h = at (has b k) (update_agree b f g ks h)
  where
    at : (t : Bool) → update b f ks ≡ update b g ks
        → (if t then f k ∷ ks else k ∷ update b f ks) ≡ (if t then g k ∷ ks else k ∷ update b g ks)
    at true r = ap (λ j. j ∷ ks) (h k)
    at false r = ap (λ l. k ∷ l) r

-- one item more
pub items_step : (f : List ℕ → ℤ → Val) (live : List Live) (b o n i : ℕ) (xs : List Init) (x : Init) → i < length xs → x ≡ get_or xs i x
    → n ≡ init_size x
    → update b (λ k. set_cells k (o + n) (cells_from f (o + n) (drop (i + 1) xs))) (update b (λ k. set_cells k o (init_cells f o x)) live)
    ≡ update b (λ k. set_cells k o (cells_from f o (drop i xs))) live
items_step f live b o n i xs x lt is size =
    let rest = cells_from f (o + n) (drop (i + 1) xs) in
    update_then b (λ k. set_cells k o (init_cells f o x)) (λ k. set_cells k (o + n) rest) live
    (λ k. set_cells_number k o (init_cells f o x))
    ∙ update_agree b (λ k. set_cells (set_cells k o (init_cells f o x)) (o + n) rest)
    (λ k. set_cells k o (cells_from f o (drop i xs))) live joined
  where
    joined : (k : Live) → set_cells (set_cells k o (init_cells f o x)) (o + n) (cells_from f (o + n) (drop (i + 1) xs))
        ≡ set_cells k o (cells_from f o (drop i xs))
    joined k =
        let e : n ≡ length (init_cells f o x) = size ∙ sym (init_length f o x) in
        let front : cells_from f o (drop i xs) ≡ init_cells f o x ++ cells_from f (o + n) (drop (i + 1) xs) =
        rw (drop_more xs i x lt, ← is, size) refl in
        ap (λ (m : ℕ). set_cells (set_cells k o (init_cells f o x)) (o + m) (cells_from f (o + n) (drop (i + 1) xs))) e
        ∙ sym (ap (λ cs. set_cells k o cs) front ∙ set_append k o (init_cells f o x) (cells_from f (o + n) (drop (i + 1) xs)))

update_same : (b : ℕ) (f : Live → Live) (live : List Live) → ((k : Live) → f k ≡ k) → update b f live ≡ live
update_same b f [] h = refl
update_same b f (k ∷ ks) h = at (has b k) (update_same b f ks h)
  where
    at : (t : Bool) → update b f ks ≡ ks → (if t then f k ∷ ks else k ∷ update b f ks) ≡ k ∷ ks
    at true r = ap (λ j. j ∷ ks) (h k)
    at false r = ap (λ l. k ∷ l) r

pub items_end : (f : List ℕ → ℤ → Val) (live : List Live) (b o i : ℕ) (xs : List Init) → length xs ≤ i
    → update b (λ k. set_cells k o (cells_from f o (drop i xs))) live ≡ live
items_end f live b o i xs h = rw (drop_all i xs h) (update_same b (λ k. k) live (λ k. refl))

-- ---- a block whose cells are all written

over : (number : ℕ) (writable : Bool) (front old cs : List Cell) (o : ℕ) → length front ≡ o → length old ≡ length cs
    → set_cells (record { number = number; writable = writable; cells = front ++ old }) o cs
    ≡ record { number = number; writable = writable; cells = front ++ cs }
over number writable front [] [] o at h = refl
over number writable front [] (c ∷ cs) o at h = absurd (omega arith)
over number writable front (x ∷ old) [] o at h = absurd (omega arith)
over number writable front (x ∷ old) (c ∷ cs) o at h =
    let made : List Cell → Live = λ l. record { number = number; writable = writable; cells = l } in
    let next : length (front ++ c ∷ []) ≡ o + 1 = length_push front c ∙ ap (λ (n : ℕ). n + 1) at in
    let split : slice_set (front ++ x ∷ old) o c ≡ (front ++ c ∷ []) ++ old = set_at front x old c o at
    ∙ sym (append_assoc front (c ∷ []) old) in
    ap (λ l. set_cells (made l) (o + 1) cs) split
    ∙ over number writable (front ++ c ∷ []) old cs (o + 1) next (omega arith)
    ∙ ap made (append_assoc front (c ∷ []) cs)

made_block : (f : List ℕ → ℤ → Val) (b n : ℕ) (writable : Bool) (live : List Live) (xs : List Init) → n ≡ variable_size xs
    → update b (λ k. set_cells k 0 (cells_from f 0 xs)) (new_block b n writable ∷ live)
    ≡ record { number = b; writable = writable; cells = cells_from f 0 xs } ∷ live
made_block f b n writable live xs e =
    let here : (b == b) ≡ true = eq-eqb b b refl in
    let nothing : List Cell = replicate n Nothing in
    let size : length nothing ≡ length (cells_from f 0 xs) = length-replicate n Nothing ∙ e ∙ sym (cells_length f 0 xs) in
    rw here (ap (λ k. k ∷ live) (over b writable [] nothing (cells_from f 0 xs) 0 refl size))

-- the block of a variable is made
pub variable_made : (f : List ℕ → ℤ → Val) (b n : ℕ) (writable : Bool) (m k l : Memory) (xs : List Init) → b ≡ m.next
    → k ≡ pushed m n writable
    → n ≡ variable_size xs → l ≡ record k { live = update b (λ j. set_cells j 0 (cells_from f 0 xs)) k.live }
    → l ≡ record { live = record { number = m.next; writable = writable; cells = cells_from f 0 xs } ∷ m.live; next = suc m.next }
variable_made f b n writable m k l xs number at size is =
    let put : ℕ → Memory → Memory = λ i x. record x { live = update i (λ j. set_cells j 0 (cells_from f 0 xs)) x.live } in
    let made : List Live → ℕ → Memory = λ live next. record { live = live; next = next } in
    let next : m.next + 1 ≡ suc m.next = omega arith in
    is ∙ ap (put b) at ∙ ap (λ (i : ℕ). put i (pushed m n writable)) number
    ∙ ap (λ (live : List Live). made live (m.next + 1)) (made_block f m.next n writable m.live xs size)
    ∙ ap (λ (i : ℕ). made (record { number = m.next; writable = writable; cells = cells_from f 0 xs } ∷ m.live) i) next
