-- Numbered claims, sorted, are the claims in their order.
use Rattle.std.proofs.Common.{◌≡◌, ℕ, zero, suc, ◌+◌, ◌*◌, ◌%◌, ◌<◌, ◌≤◌, inl, inr, true, false, List, [], ◌∷◌, length, map, get_or, refl}
use Rattle.std.proofs.Common.{sym, ap, ◌∙◌, arith}
use Rattle.std.specs.Prelude.{◌==◌, ◌&&◌, ◌||◌, nat_le, nat_lt, if◌then◌else◌, fold, slice_set, All, IsPermutation}
use Rattle.std.specs.List.{sum_by}
use Rattle.std.specs.List.Sorted.{IsNonDecreasingBy}
use Rattle.std.proofs.lemmas.Bool.{cases_Bool, cases_order, cases_lt}
use Rattle.std.proofs.lemmas.Bool.Decides.{nat_tests}
use Rattle.std.proofs.lemmas.List.Sorted.{sum_by-IsPermutation, All-permutation, length_permutation}
use Rattle.ordered_tests.specs.Lists.{EachOf, Pairwise}
use Rattle.ordered_tests.proofs.Lists.{pairs_by_place, each_by_place}
use Rattle.link_model.specs.Claims as model
use Rattle.link_model.specs.Overlaps.{is_not_above, with_claim, in_order, no_claim}
use Rattle.coverage.specs.declared.claims.Kept.{Kept}
use Rattle.coverage.specs.Orders.{kept_seen, rank, ArePlaced}

-- ---- sorting by insertion

abbrev put : Kept → List Kept → List Kept
put x [] = x ∷ []
put x (y ∷ ys) = if nat_le (rank x) (rank y) then x ∷ y ∷ ys else y ∷ put x ys

abbrev put_all : List Kept → List Kept
put_all [] = []
put_all (x ∷ xs) = put x (put_all xs)

abbrev Up : List Kept → Type 0
Up ks = Pairwise (λ x y. rank x ≤ rank y) ks

each_put : (P : Kept → Type 0) (x : Kept) (ys : List Kept) → P x → EachOf P ys → EachOf P (put x ys)
each_put P x [] h e = (h, tt)
each_put P x (y ∷ ys) h e = elim (cases_Bool (nat_le (rank x) (rank y))) [
  | inl t ↦ rw t (h, e)
  | inr f ↦ rw f (e.0, each_put P x ys h e.1)
]

each_put_all : (P : Kept → Type 0) (xs : List Kept) → EachOf P xs → EachOf P (put_all xs)
each_put_all P [] e = tt
each_put_all P (x ∷ xs) e = each_put P x (put_all xs) e.0 (each_put_all P xs e.1)

lower : (r s : ℕ) (ys : List Kept) → r ≤ s → EachOf (λ y. s ≤ rank y) ys → EachOf (λ y. r ≤ rank y) ys
lower r s [] le e = tt
lower r s (y ∷ ys) le e = let h = e.0 in (omega arith, lower r s ys le e.1)

up_put : (x : Kept) (ys : List Kept) → Up ys → Up (put x ys)
up_put x [] u = (tt, tt)
up_put x (y ∷ ys) u = elim (cases_Bool (nat_le (rank x) (rank y))) [
  | inl t ↦ (
      let le : rank x ≤ rank y = grind (arith, nat_tests) in
      rw t ((le, lower (rank x) (rank y) ys le u.0), u)
      )
  | inr f ↦ (
      let le : rank y ≤ rank x = grind (arith, nat_tests) in
      rw f (each_put (λ z. rank y ≤ rank z) x ys le u.0, up_put x ys u.1)
      )
]

up_all : (xs : List Kept) → Up (put_all xs)
up_all [] = tt
up_all (x ∷ xs) = up_put x (put_all xs) (up_all xs)

-- ---- sums

sum_from : (f : Kept → ℕ) (xs : List Kept) (n : ℕ) → fold (λ a x. a + f x) n xs ≡ n + sum_by f xs
sum_from f [] n = omega arith
sum_from f (x ∷ xs) n = let a = sum_from f xs (n + f x) in let b = sum_from f xs (0 + f x) in omega arith

sum_cons : (f : Kept → ℕ) (x : Kept) (xs : List Kept) → sum_by f (x ∷ xs) ≡ f x + sum_by f xs
sum_cons f x xs = let h = sum_from f xs (0 + f x) in omega arith

sum_put : (f : Kept → ℕ) (x : Kept) (ys : List Kept) → sum_by f (put x ys) ≡ f x + sum_by f ys
sum_put f x [] = sum_cons f x []
sum_put f x (y ∷ ys) = elim (cases_Bool (nat_le (rank x) (rank y))) [
  | inl t ↦ rw t (sum_cons f x (y ∷ ys))
  | inr k ↦ (
      let a = sum_cons f y (put x ys) in
      let b = sum_put f x ys in
      let c = sum_cons f y ys in
      rw k (omega (arith, a, b, c))
      )
]

sum_all : (f : Kept → ℕ) (xs : List Kept) → sum_by f (put_all xs) ≡ sum_by f xs
sum_all f [] = refl
sum_all f (x ∷ xs) =
    let a = sum_put f x (put_all xs) in let b = sum_all f xs in let c = sum_cons f x xs in omega (arith, a, b, c)

-- ---- two sorted lists with as many of each rank

abbrev one_at : ℕ → Kept → ℕ
one_at r k = if rank k == r then 1 else 0

one_same : (r : ℕ) (k : Kept) → rank k ≡ r → one_at r k ≡ 1
one_same r k e = let t : (rank k == r) ≡ true = grind (arith, nat_tests) in rw t refl

one_other : (r : ℕ) (k : Kept) → r < rank k → one_at r k ≡ 0
one_other r k lt = let f : (rank k == r) ≡ false = grind (arith, nat_tests) in rw f refl

none_at : (r s : ℕ) (ks : List Kept) → r < s → EachOf (λ k. s ≤ rank k) ks → sum_by (one_at r) ks ≡ 0
none_at r s [] lt e = refl
none_at r s (k ∷ ks) lt e =
    let a = e.0 in
    let b = one_other r k (omega arith) in
    let c = none_at r s ks lt e.1 in
    let d = sum_cons (one_at r) k ks in
    omega (arith, b, c, d)

-- the first rank of a list is not below that of another with as many of each
not_below : (y z : Kept) (ys zs : List Kept) → EachOf (λ k. rank z ≤ rank k) zs →
    ((r : ℕ) → sum_by (one_at r) (y ∷ ys) ≡ sum_by (one_at r) (z ∷ zs)) → rank y < rank z → ⊥
not_below y z ys zs u same lt =
    let r = rank y in
    let a : one_at r y ≡ 1 = one_same r y refl in
    let b = sum_cons (one_at r) y ys in
    let c : sum_by (one_at r) (z ∷ zs) ≡ 0 = none_at r (rank z) (z ∷ zs) lt (omega arith, u) in
    let d : sum_by (one_at r) (y ∷ ys) ≡ sum_by (one_at r) (z ∷ zs) = same r in
    absurd (omega (arith, a, b, c, d))

ranks_same : (ys zs : List Kept) → Up ys → Up zs → ((r : ℕ) → sum_by (one_at r) ys ≡ sum_by (one_at r) zs) → map rank ys ≡ map rank zs
ranks_same [] [] u w same = refl
ranks_same [] (z ∷ zs) u w same =
    let a : one_at (rank z) z ≡ 1 = one_same (rank z) z refl in
    let b = sum_cons (one_at (rank z)) z zs in
    let c : 0 ≡ sum_by (one_at (rank z)) (z ∷ zs) = same (rank z) in
    absurd (omega (arith, a, b, c))
ranks_same (y ∷ ys) [] u w same =
    let a : one_at (rank y) y ≡ 1 = one_same (rank y) y refl in
    let b = sum_cons (one_at (rank y)) y ys in
    let c : sum_by (one_at (rank y)) (y ∷ ys) ≡ 0 = same (rank y) in
    absurd (omega (arith, a, b, c))
ranks_same (y ∷ ys) (z ∷ zs) u w same = elim (cases_order (rank y) (rank z)) [
  | inl e ↦ (
      let rest : (r : ℕ) → sum_by (one_at r) ys ≡ sum_by (one_at r) zs = λ r.
      let a = same r in
      let b = sum_cons (one_at r) y ys in
      let c = sum_cons (one_at r) z zs in
      let d : one_at r y ≡ one_at r z = ap (λ n. if n == r then 1 else 0) e in
      omega (arith, a, b, c, d) in
      rw (e, ranks_same ys zs u.1 w.1 rest) refl
      )
  | inr (inl lt) ↦ absurd (not_below y z ys zs w.0 same lt)
  | inr (inr lt) ↦ absurd (not_below z y zs ys u.0 (λ r. sym (same r)) lt)
]

-- ---- what a rank tells

abbrev IsAt : List model.Claim → Kept → Type 0
IsAt cs k = kept_seen k ≡ get_or cs (rank k % 4294967296) no_claim

told : (cs : List model.Claim) (ys zs : List Kept) → EachOf (IsAt cs) ys → EachOf (IsAt cs) zs → map rank ys ≡ map rank zs →
    map kept_seen ys ≡ map kept_seen zs
told cs [] [] d e h = refl
told cs [] (z ∷ zs) d e h = absurd (cc)
told cs (y ∷ ys) [] d e h = absurd (cc)
told cs (y ∷ ys) (z ∷ zs) d e h =
    let same : rank y ≡ rank z = cc in
    let rest : map rank ys ≡ map rank zs = cc in
    let first : kept_seen y ≡ kept_seen z = d.0 ∙ ap (λ r. get_or cs (r % 4294967296) no_claim) same ∙ sym e.0 in
    rw (first, told cs ys zs d.1 e.1 rest) refl

-- ---- the order of claims

order_test : (lo hi p m n q : ℕ) → hi < 8589934592 → n < 8589934592 → p < q → q < 4294967296 →
    nat_le ((lo * 8589934592 + hi) * 4294967296 + p) ((m * 8589934592 + n) * 4294967296 + q)
    ≡ (nat_lt lo m || ((lo == m) && nat_le hi n))
order_test lo hi p m n q h k lt small = elim (cases_order lo m) [
  | inl e ↦ (
      elim (cases_lt n hi) [
        | inl above ↦ grind (arith, nat_tests)
        | inr le ↦ grind (arith, nat_tests)
      ]
      )
  | inr (inl below) ↦ grind (arith, nat_tests)
  | inr (inr above) ↦ grind (arith, nat_tests)
]

put_seen : (x : Kept) (ys : List Kept) → EachOf (λ y. (x.place < y.place) × (y.place < 4294967296)) ys →
    map kept_seen (put x ys) ≡ with_claim (kept_seen x) (map kept_seen ys)
put_seen x [] e = refl
put_seen x (y ∷ ys) e =
    let places = e.0 in
    let low = x.claim.range.within in
    let high = y.claim.range.within in
    let test : nat_le (rank x) (rank y) ≡ is_not_above (kept_seen x) (kept_seen y) =
    order_test x.claim.range.lo x.claim.range.hi x.place y.claim.range.lo y.claim.range.hi y.place (omega arith) (omega arith) places.0
    places.1 in
    elim (cases_Bool (nat_le (rank x) (rank y))) [
      | inl t ↦ (let k : is_not_above (kept_seen x) (kept_seen y) ≡ true = sym test ∙ t in rw (t, k) refl)
      | inr f ↦ (let k : is_not_above (kept_seen x) (kept_seen y) ≡ false = sym test ∙ f in rw (f, k, put_seen x ys e.1) refl)
    ]

abbrev LaterPlace : Kept → Kept → Type 0
LaterPlace x y = (x.place < y.place) × (y.place < 4294967296)

all_seen : (xs : List Kept) → Pairwise LaterPlace xs → map kept_seen (put_all xs) ≡ in_order (map kept_seen xs)
all_seen [] p = refl
all_seen (x ∷ xs) p = put_seen x (put_all xs) (each_put_all (LaterPlace x) xs p.0) ∙ ap (with_claim (kept_seen x)) (all_seen xs p.1)

-- ---- numbered claims

get_map : {X Y : Type 0} (f : X → Y) (xs : List X) (i : ℕ) (d : X) (e : Y) → i < length xs → get_or (map f xs) i e ≡ f (get_or xs i d)
get_map f [] i d e lt = absurd (omega arith)
get_map f (x ∷ xs) zero d e lt = refl
get_map f (x ∷ xs) (suc i) d e lt = get_map f xs i d e (omega arith)

at_place : (xs : List Kept) (i : ℕ) (d : Kept) → length xs < 4294967296 → i < length xs → (get_or xs i d).place ≡ i →
    IsAt (map kept_seen xs) (get_or xs i d)
at_place xs i d few lt is =
    let e : rank (get_or xs i d) % 4294967296 ≡ i = omega arith in rw e (sym (get_map kept_seen xs i d no_claim lt))

each_of_all : (P : Kept → Type 0) (ks : List Kept) (d : Kept) → All P ks → EachOf P ks
each_of_all P ks d h = each_by_place P ks d (λ i lt. h i d lt)

no_kept : (ys : List Kept) → length ys ≡ 0 → ys ≡ []
no_kept [] h = refl
no_kept (y ∷ ys) h = absurd (omega arith)

pub settled : (xs ys : List Kept) → length xs < 4294967296 → ArePlaced xs (length xs) → IsPermutation xs ys → IsNonDecreasingBy rank ys →
    map kept_seen ys ≡ in_order (map kept_seen xs)
settled [] ys few placed p up = rw (no_kept ys (length_permutation [] ys p)) refl
settled (x ∷ xs) ys few placed p up =
    let all = x ∷ xs in
    let cs = map kept_seen all in
    let at : All (IsAt cs) all = λ i d lt. at_place all i d few lt (placed i d lt) in
    let later : Pairwise LaterPlace all = pairs_by_place LaterPlace all x (λ i j lt within.
    let a = placed i x (omega arith) in let b = placed j x within in (omega arith, omega arith)) in
    let rising : Up ys = pairs_by_place (λ k l. rank k ≤ rank l) ys x (λ i j lt within. up i j x (omega arith) within) in
    let counts : (r : ℕ) → sum_by (one_at r) ys ≡ sum_by (one_at r) (put_all all) = λ r.
    sum_by-IsPermutation (one_at r) all ys p ∙ sym (sum_all (one_at r) all) in
    let ranks = ranks_same ys (put_all all) rising (up_all all) counts in
    told cs ys (put_all all) (each_of_all (IsAt cs) ys x (All-permutation (IsAt cs) all ys p at))
    (each_put_all (IsAt cs) all (each_of_all (IsAt cs) all x at)) ranks
    ∙ all_seen all later

-- ---- numbering

set_seen : (ks : List Kept) (i : ℕ) (k : Kept) (d : Kept) → kept_seen k ≡ kept_seen (get_or ks i d) →
    map kept_seen (slice_set ks i k) ≡ map kept_seen ks
set_seen [] i k d h = refl
set_seen (x ∷ xs) zero k d h = rw h refl
set_seen (x ∷ xs) (suc i) k d h = rw (set_seen xs i k d h) refl

set_at : (ks : List Kept) (i : ℕ) (k d : Kept) → i < length ks → get_or (slice_set ks i k) i d ≡ k
set_at [] i k d lt = absurd (omega arith)
set_at (x ∷ xs) zero k d lt = refl
set_at (x ∷ xs) (suc i) k d lt = set_at xs i k d (omega arith)

set_off : (ks : List Kept) (i j : ℕ) (k d : Kept) → j < i → get_or (slice_set ks i k) j d ≡ get_or ks j d
set_off [] i j k d lt = refl
set_off (x ∷ xs) zero j k d lt = absurd (omega arith)
set_off (x ∷ xs) (suc i) zero k d lt = refl
set_off (x ∷ xs) (suc i) (suc j) k d lt = set_off xs i j k d (omega arith)

pub numbered_seen : (ks : List Kept) (i : ℕ) (k d : Kept) (before : List model.Claim) → kept_seen k ≡ kept_seen (get_or ks i d) →
    map kept_seen ks ≡ before → map kept_seen (slice_set ks i k) ≡ before
numbered_seen ks i k d before h so_far = set_seen ks i k d h ∙ so_far

pub numbered_places : (ks : List Kept) (i : ℕ) (k : Kept) → i < length ks → k.place ≡ i → ArePlaced ks i →
    ArePlaced (slice_set ks i k) (i + 1)
numbered_places ks i k lt is placed j d within = elim (cases_lt j i) [
  | inl below ↦ ap (λ (x : Kept). x.place) (set_off ks i j k d below) ∙ placed j d below
  | inr up ↦ (
      let e : j ≡ i = omega arith in
      rw e (ap (λ (x : Kept). x.place) (set_at ks i k d lt) ∙ is)
      )
]
