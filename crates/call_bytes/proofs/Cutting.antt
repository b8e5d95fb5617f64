-- Lists of bytes kept one behind another, as they grow.
use Rattle.std.proofs.Common.{◌≡◌, ℕ, zero, suc, ◌+◌, ◌-◌, ◌<◌, ◌≤◌, List, [], ◌∷◌, ◌++◌, length, take, drop, slice_index_or, slice_set}
use Rattle.std.proofs.Common.{refl, ap, sym, ◌∙◌, arith}
use Rattle.call_bytes.specs.CallLists.{cut, bytes_in, add_last, total}

length_cut : (ns bs : List ℕ) → length (cut ns bs) ≡ length ns
length_cut [] bs = refl
length_cut (n ∷ ns) bs = ap suc (length_cut ns (drop n bs))

length_take : (k : ℕ) (xs : List ℕ) → k ≤ length xs → length (take k xs) ≡ k
length_take zero xs h = refl
length_take (suc k) [] h = absurd (omega arith)
length_take (suc k) (x ∷ xs) h = ap suc (length_take k xs (omega arith))

pub cut_count : (k : ℕ) (ns bs : List ℕ) → k ≤ length ns → length (cut (take k ns) bs) ≡ k
cut_count k ns bs h = length_cut (take k ns) bs ∙ length_take k ns h

length_drop : (n : ℕ) (bs : List ℕ) → length (drop n bs) ≡ length bs - n
length_drop zero bs = omega arith
length_drop (suc n) [] = omega arith
length_drop (suc n) (b ∷ bs) = omega (arith, length_drop n bs)

bytes_cut : (ns bs : List ℕ) → total ns ≤ length bs → bytes_in (cut ns bs) ≡ total ns
bytes_cut [] bs h = refl
bytes_cut (n ∷ ns) bs h =
    omega (arith, length_take n bs (omega arith), bytes_cut ns (drop n bs) (omega (arith, length_drop n bs)))

pub cut_bytes : (k : ℕ) (ns bs : List ℕ) → total (take k ns) ≤ length bs → bytes_in (cut (take k ns) bs) ≡ total (take k ns)
cut_bytes k ns bs h = bytes_cut (take k ns) bs h

-- ---- an empty list more

take_set_end : (k : ℕ) (ns : List ℕ) (n : ℕ) → k < length ns → take (suc k) (slice_set ns k n) ≡ take k ns ++ n ∷ []
take_set_end k [] n h = absurd (omega arith)
take_set_end zero (m ∷ ns) n h = refl
take_set_end (suc k) (m ∷ ns) n h = ap (λ (l : List ℕ). m ∷ l) (take_set_end k ns n (omega arith))

drop_none : (n : ℕ) → drop {A = ℕ} n [] ≡ []
drop_none zero = refl
drop_none (suc n) = refl

drop_drop : (m n : ℕ) (bs : List ℕ) → drop n (drop m bs) ≡ drop (m + n) bs
drop_drop zero n bs = let e : 0 + n ≡ n = omega arith in rw e refl
drop_drop (suc m) n [] = let e : suc m + n ≡ suc (m + n) = omega arith in rw e (drop_none n)
drop_drop (suc m) n (b ∷ bs) = let e : suc m + n ≡ suc (m + n) = omega arith in rw e (drop_drop m n bs)

cut_append : (ns bs : List ℕ) (n : ℕ) → cut (ns ++ n ∷ []) bs ≡ cut ns bs ++ take n (drop (total ns) bs) ∷ []
cut_append [] bs n = refl
cut_append (m ∷ ns) bs n =
    rw (cut_append ns (drop m bs) n, drop_drop m (total ns) bs) refl

sum_append : (ns : List ℕ) (n : ℕ) → total (ns ++ n ∷ []) ≡ total ns + n
sum_append [] n = omega arith
sum_append (m ∷ ns) n = omega (arith, sum_append ns n)

pub cut_begin : (k l : ℕ) (ns bs : List ℕ) → l ≡ k + 1 → k < length ns → cut (take l (slice_set ns k 0)) bs ≡ cut (take k ns) bs ++ [] ∷ []
cut_begin k l ns bs e h =
    let s : l ≡ suc k = omega (arith, e) in
    rw (s, take_set_end k ns 0 h) (cut_append (take k ns) bs 0)

pub sum_begin : (k l : ℕ) (ns : List ℕ) → l ≡ k + 1 → k < length ns → total (take l (slice_set ns k 0)) ≡ total (take k ns)
sum_begin k l ns e h =
    let s : l ≡ suc k = omega (arith, e) in
    rw (s, take_set_end k ns 0 h) (omega (arith, sum_append (take k ns) 0))

-- ---- a byte more

take_end : (k d : ℕ) (ns : List ℕ) → k < length ns → take (suc k) ns ≡ take k ns ++ slice_index_or ns k d ∷ []
take_end k d [] h = absurd (omega arith)
take_end zero d (m ∷ ns) h = refl
take_end (suc k) d (m ∷ ns) h = ap (λ (l : List ℕ). m ∷ l) (take_end k d ns (omega arith))

add_end : (ls : List (List ℕ)) (l : List ℕ) (b : ℕ) → add_last (ls ++ l ∷ []) b ≡ ls ++ (l ++ b ∷ []) ∷ []
add_end [] l b = refl
add_end (m ∷ []) l b = refl
add_end (m ∷ n ∷ ls) l b = ap (λ (x : List (List ℕ)). m ∷ x) (add_end (n ∷ ls) l b)

-- what lies behind is not read
set_behind : (n i b : ℕ) (bs : List ℕ) → n ≤ i → take n (slice_set bs i b) ≡ take n bs
set_behind zero i b bs h = refl
set_behind (suc n) i b [] h = refl
set_behind (suc n) zero b (x ∷ bs) h = absurd (omega arith)
set_behind (suc n) (suc i) b (x ∷ bs) h = ap (λ (l : List ℕ). x ∷ l) (set_behind n i b bs (omega arith))

drop_set : (n i j b : ℕ) (bs : List ℕ) → i ≡ n + j → drop n (slice_set bs i b) ≡ slice_set (drop n bs) j b
drop_set zero i j b bs e = let f : i ≡ j = omega (arith, e) in rw f refl
drop_set (suc n) i j b [] e = refl
drop_set (suc n) zero j b (x ∷ bs) e = absurd (omega arith)
drop_set (suc n) (suc i) j b (x ∷ bs) e = drop_set n i j b bs (omega arith)

cut_behind : (ns bs : List ℕ) (i b : ℕ) → total ns ≤ i → cut ns (slice_set bs i b) ≡ cut ns bs
cut_behind [] bs i b h = refl
cut_behind (n ∷ ns) bs i b h =
    rw (set_behind n i b bs (omega arith), drop_set n i (i - n) b bs (omega arith), cut_behind ns (drop n bs) (i - n) b (omega arith)) refl

pub cut_add : (k j d u v b : ℕ) (ns bs : List ℕ) → k ≡ j + 1 → k ≤ length ns → total (take k ns) ≡ u → u < length bs
    → v ≡ slice_index_or ns j d + 1
    → cut (take k (slice_set ns j v)) (slice_set bs u b) ≡ add_last (cut (take k ns) bs) b
cut_add k j d u v b ns bs e h f l w =
    let s : k ≡ suc j = omega (arith, e) in
    let n = slice_index_or ns j d in
    let ms = take j ns in
    let t : take k ns ≡ ms ++ n ∷ [] = rw s (take_end j d ns (omega arith)) in
    let t2 : take k (slice_set ns j v) ≡ ms ++ v ∷ [] = rw s (take_set_end j ns v (omega arith)) in
    let sums : total ms + n ≡ u = omega (arith, f, sum_append ms n, ap total t) in
    let v2 : v ≡ suc n = omega (arith, w) in
    let last : take v (drop (total ms) (slice_set bs u b)) ≡ take n (drop (total ms) bs) ++ b ∷ [] =
    rw (v2, drop_set (total ms) u n b bs (omega (arith, sums)))
    (take_set_end n (drop (total ms) bs) b (omega (arith, sums, length_drop (total ms) bs))) in
    rw (t, t2) (cut_append ms (slice_set bs u b) v ∙
    (rw (last, cut_behind ms bs u b (omega (arith, sums))) refl)
    ∙ sym (add_end (cut ms bs) (take n (drop (total ms) bs)) b) ∙ ap (λ (x : List (List ℕ)). add_last x b) (sym (cut_append ms bs n)))

pub sum_add : (k j d u v : ℕ) (ns : List ℕ) → k ≡ j + 1 → k ≤ length ns → total (take k ns) ≡ u → v ≡ slice_index_or ns j d + 1
    → total (take k (slice_set ns j v)) ≡ u + 1
sum_add k j d u v ns e h f w =
    let s : k ≡ suc j = omega (arith, e) in
    let n = slice_index_or ns j d in
    let ms = take j ns in
    let t : take k ns ≡ ms ++ n ∷ [] = rw s (take_end j d ns (omega arith)) in
    let t2 : take k (slice_set ns j v) ≡ ms ++ v ∷ [] = rw s (take_set_end j ns v (omega arith)) in
    omega (arith, f, sum_append ms n, sum_append ms v, ap total t, ap total t2, w)

pub total_end : (k j d u : ℕ) (ns : List ℕ) → k ≡ j + 1 → k ≤ length ns → total (take k ns) ≡ u → slice_index_or ns j d ≤ u
total_end k j d u ns e h f =
    let s : k ≡ suc j = omega (arith, e) in
    let n = slice_index_or ns j d in
    let ms = take j ns in
    let t : take k ns ≡ ms ++ n ∷ [] = rw s (take_end j d ns (omega arith)) in
    omega (arith, f, sum_append ms n, ap total t)

pub set_length : (xs : List ℕ) (i n : ℕ) → length (slice_set xs i n) ≡ length xs
set_length [] i n = refl
set_length (x ∷ xs) zero n = refl
set_length (x ∷ xs) (suc i) n = ap suc (set_length xs i n)
