-- Bytes that are written into a block, one after another.
use Rattle.std.proofs.Common.{◌≡◌, ℕ, zero, suc, ◌+◌, ◌<◌, ◌≤◌, Bool, true, false, List, [], ◌∷◌, length, map, drop, replicate, get_or}
use Rattle.std.proofs.Common.{Some, refl, ap, ◌∙◌, arith, if◌then◌else◌}
use Rattle.std.specs.Prelude.{◌==◌}
use Rattle.std.proofs.lemmas.List.{drop_more}
use Rattle.asm_mem.specs.declared.cell.Cell.TheVariants.{Byte}
use Rattle.asm_mem.specs.Blocks.{Live, has, set_cell, set_cells, update, with_byte}

-- two changes of one block
pub update_then : (b : ℕ) (f g : Live → Live) (live : List Live) → ((k : Live) → (f k).number ≡ k.number)
    → update b g (update b f live) ≡ update b (λ k. g (f k)) live
update_then b f g [] same = refl
update_then b f g (k ∷ ks) same = at (update_then b f g ks same) (has b k) refl
  where
    at : update b g (update b f ks) ≡ update b (λ j. g (f j)) ks → (t : Bool) → has b k ≡ t
        → update b g (if t then f k ∷ ks else k ∷ update b f ks) ≡ (if t then g (f k) ∷ ks else k ∷ update b (λ j. g (f j)) ks)
    at r true e = let q : has b (f k) ≡ true = ap (λ (n : ℕ). n == b) (same k) ∙ e in rw q refl
    at r false e = rw e (ap (λ (l : List Live). k ∷ l) r)

pub update_same : (b : ℕ) (live : List Live) → update b (λ k. k) live ≡ live
update_same b [] = refl
update_same b (k ∷ ks) = at (update_same b ks) (has b k)
  where
    at : update b (λ j. j) ks ≡ ks → (t : Bool) → (if t then k ∷ ks else k ∷ update b (λ j. j) ks) ≡ k ∷ ks
    at r true = refl
    at r false = ap (λ (l : List Live). k ∷ l) r

drop_all : {A : Type 0} (xs : List A) (n : ℕ) → length xs ≤ n → drop n xs ≡ []
drop_all [] zero h = refl
drop_all [] (suc n) h = refl
drop_all (x ∷ xs) zero h = absurd (omega arith)
drop_all (x ∷ xs) (suc n) h = drop_all xs n (omega arith)

-- the byte with this number is written
pub fill_step : (live : List Live) (b o i a d : ℕ) (bytes : List ℕ) → i < length bytes → a ≡ o + i
    → update b (λ k. set_cells k (o + (i + 1)) (map Byte (drop (i + 1) bytes))) (with_byte live b a (Some (get_or bytes i d)))
    ≡ update b (λ k. set_cells k (o + i) (map Byte (drop i bytes))) live
fill_step live b o i a d bytes h e =
    let x = get_or bytes i d in
    let rest = map Byte (drop (i + 1) bytes) in
    let next : o + (i + 1) ≡ o + i + 1 = omega arith in
    rw (drop_more bytes i d h, next, e)
    (update_then b (λ k. set_cell k (o + i) (Byte x)) (λ k. set_cells k (o + i + 1) rest) live (λ k. refl))

pub all_filled : (live : List Live) (b o i : ℕ) (bytes : List ℕ) → length bytes ≤ i
    → update b (λ k. set_cells k (o + i) (map Byte (drop i bytes))) live ≡ live
all_filled live b o i bytes h = rw (drop_all bytes i h) (update_same b live)

-- ---- zeros

pub zeros_length : (n : ℕ) → length {A = ℕ} (replicate n 0) ≡ n
zeros_length zero = refl
zeros_length (suc n) = let h = zeros_length n in omega arith

pub zero_at : (n i d : ℕ) → i < n → get_or (replicate n 0) i d ≡ 0
zero_at zero i d h = absurd (omega arith)
zero_at (suc n) zero d h = refl
zero_at (suc n) (suc i) d h = zero_at n i d (omega arith)
