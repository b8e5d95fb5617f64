-- Each of a list and each two of it, over appended, mapped and numbered lists.
use Rattle.std.proofs.Common.{◌≡◌, ℕ, zero, suc, ◌+◌, ◌<◌, inl, inr, Bool, true, false, List, [], ◌∷◌, ◌++◌, length, map, get_or, Some}
use Rattle.std.proofs.Common.{refl, ◌∙◌, ap, subst, arith}
use Rattle.std.specs.Prelude.{slice_get, flat_map}
use Rattle.std.specs.List.{list_any, enumerate_from}
use Rattle.std.proofs.lemmas.Bool.{or_cases}
use Rattle.ordered_tests.specs.Lists.{EachOf, Pairwise}

-- ---- each of a list

pub each_get : {X : Type 0} (P : X → Type 0) (xs : List X) → EachOf P xs → (i : ℕ) (x : X) → slice_get xs i ≡ Some x → P x
each_get P [] e i x h = absurd (cc)
each_get P (y ∷ ys) e zero x h = let s : y ≡ x = cc in subst P s e.0
each_get P (y ∷ ys) e (suc i) x h = each_get P ys e.1 i x h

pub each_at : {X : Type 0} (P : X → Type 0) (xs : List X) → EachOf P xs → (i : ℕ) (d : X) → i < length xs → P (get_or xs i d)
each_at P [] e i d lt = absurd (omega arith)
each_at P (y ∷ ys) e zero d lt = e.0
each_at P (y ∷ ys) e (suc i) d lt = each_at P ys e.1 i d (omega arith)

-- an element that passes is one of which P holds
pub each_any : {X : Type 0} (P : X → Type 0) (p : X → Bool) (xs : List X) → EachOf P xs → list_any p xs ≡ true
    → (x : X) × (p x ≡ true) × P x
each_any P p [] e h = absurd (cc)
each_any P p (y ∷ ys) e h = elim (or_cases (p y) (list_any p ys) h) [ inl t ↦ (y, t, e.0) | inr t ↦ each_any P p ys e.1 t ]

pub each_none : {X : Type 0} (P : X → Type 0) (p : X → Bool) (xs : List X) → EachOf P xs → ((x : X) → P x → p x ≡ false)
    → list_any p xs ≡ false
each_none P p [] e h = refl
each_none P p (y ∷ ys) e h = rw (h y e.0) (each_none P p ys e.1 h)

pub each_map : {X Y : Type 0} (P : Y → Type 0) (f : X → Y) (xs : List X) → EachOf (λ x. P (f x)) xs → EachOf P (map f xs)
each_map P f [] e = tt
each_map P f (x ∷ xs) e = (e.0, each_map P f xs e.1)

pub each_of_map : {X Y : Type 0} (P : Y → Type 0) (f : X → Y) (xs : List X) → EachOf P (map f xs) → EachOf (λ x. P (f x)) xs
each_of_map P f [] e = tt
each_of_map P f (x ∷ xs) e = (e.0, each_of_map P f xs e.1)

pub each_weak : {X : Type 0} (P Q : X → Type 0) (xs : List X) → ((x : X) → P x → Q x) → EachOf P xs → EachOf Q xs
each_weak P Q [] h e = tt
each_weak P Q (x ∷ xs) h e = (h x e.0, each_weak P Q xs h e.1)

pub each_both : {X : Type 0} (P Q : X → Type 0) (xs : List X) → EachOf P xs → EachOf Q xs → EachOf (λ x. P x × Q x) xs
each_both P Q [] e d = tt
each_both P Q (x ∷ xs) e d = ((e.0, d.0), each_both P Q xs e.1 d.1)

pub each_append : {X : Type 0} (P : X → Type 0) (xs ys : List X) → EachOf P xs → EachOf P ys → EachOf P (xs ++ ys)
each_append P [] ys e d = d
each_append P (x ∷ xs) ys e d = (e.0, each_append P xs ys e.1 d)

pub each_left : {X : Type 0} (P : X → Type 0) (xs ys : List X) → EachOf P (xs ++ ys) → EachOf P xs
each_left P [] ys e = tt
each_left P (x ∷ xs) ys e = (e.0, each_left P xs ys e.1)

pub each_right : {X : Type 0} (P : X → Type 0) (xs ys : List X) → EachOf P (xs ++ ys) → EachOf P ys
each_right P [] ys e = e
each_right P (x ∷ xs) ys e = each_right P xs ys e.1

-- of all that each element gives
pub each_flat_map : {X Y : Type 0} (P : Y → Type 0) (f : X → List Y) (xs : List X) → EachOf (λ x. EachOf P (f x)) xs
    → EachOf P (flat_map f xs)
each_flat_map P f [] e = tt
each_flat_map P f (x ∷ xs) e = each_append P (f x) (flat_map f xs) e.0 (each_flat_map P f xs e.1)

-- of what one element gives
pub each_flat : {X Y : Type 0} (P : Y → Type 0) (f : X → List Y) (xs : List X) → EachOf P (flat_map f xs) → (i : ℕ) (x : X)
    → slice_get xs i ≡ Some x → EachOf P (f x)
each_flat P f [] e i x h = absurd (cc)
each_flat P f (y ∷ ys) e zero x h = let s : y ≡ x = cc in subst (λ z. EachOf P (f z)) s (each_left P (f y) (flat_map f ys) e)
each_flat P f (y ∷ ys) e (suc i) x h = each_flat P f ys (each_right P (f y) (flat_map f ys) e) i x h

-- ---- each two of a list

pub pairs_weak : {X : Type 0} (R S : X → X → Type 0) (xs : List X) → ((x y : X) → R x y → S x y) → Pairwise R xs → Pairwise S xs
pairs_weak R S [] h p = tt
pairs_weak R S (x ∷ xs) h p = (each_weak (R x) (S x) xs (h x) p.0, pairs_weak R S xs h p.1)

pub pairs_left : {X : Type 0} (R : X → X → Type 0) (xs ys : List X) → Pairwise R (xs ++ ys) → Pairwise R xs
pairs_left R [] ys p = tt
pairs_left R (x ∷ xs) ys p = (each_left (R x) xs ys p.0, pairs_left R xs ys p.1)

pub pairs_right : {X : Type 0} (R : X → X → Type 0) (xs ys : List X) → Pairwise R (xs ++ ys) → Pairwise R ys
pairs_right R [] ys p = p
pairs_right R (x ∷ xs) ys p = pairs_right R xs ys p.1

-- each of the first list with each of the second
pub pairs_across : {X : Type 0} (R : X → X → Type 0) (xs ys : List X) → Pairwise R (xs ++ ys) → EachOf (λ x. EachOf (R x) ys) xs
pairs_across R [] ys p = tt
pairs_across R (x ∷ xs) ys p = (each_right (R x) xs ys p.0, pairs_across R xs ys p.1)

-- two lists, and each of the first with each of the second
pub pairs_append : {X : Type 0} (R : X → X → Type 0) (xs ys : List X) → Pairwise R xs → Pairwise R ys → EachOf (λ x. EachOf (R x) ys) xs
    → Pairwise R (xs ++ ys)
pairs_append R [] ys p q e = q
pairs_append R (x ∷ xs) ys p q e = (each_append (R x) xs ys p.0 e.0, pairs_append R xs ys p.1 q e.1)

pub pairs_map : {X Y : Type 0} (R : Y → Y → Type 0) (f : X → Y) (xs : List X) → Pairwise (λ x y. R (f x) (f y)) xs → Pairwise R (map f xs)
pairs_map R f [] p = tt
pairs_map R f (x ∷ xs) p = (each_map (R (f x)) f xs p.0, pairs_map R f xs p.1)

pub pairs_of_map : {X Y : Type 0} (R : Y → Y → Type 0) (f : X → Y) (xs : List X) → Pairwise R (map f xs)
    → Pairwise (λ x y. R (f x) (f y)) xs
pairs_of_map R f [] p = tt
pairs_of_map R f (x ∷ xs) p = (each_of_map (R (f x)) f xs p.0, pairs_of_map R f xs p.1)

pub pairs_get : {X : Type 0} (R : X → X → Type 0) (xs : List X) → Pairwise R xs → (i j : ℕ) (x y : X) → i < j
    → slice_get xs i ≡ Some x → slice_get xs j ≡ Some y → R x y
pairs_get R [] p i j x y lt h k = absurd (cc)
pairs_get R (z ∷ zs) p zero zero x y lt h k = absurd (omega arith)
pairs_get R (z ∷ zs) p zero (suc j) x y lt h k = let s : z ≡ x = cc in subst (λ w. R w y) s (each_get (R z) zs p.0 j y k)
pairs_get R (z ∷ zs) p (suc i) zero x y lt h k = absurd (omega arith)
pairs_get R (z ∷ zs) p (suc i) (suc j) x y lt h k = pairs_get R zs p.1 i j x y (omega arith) h k

-- what two elements give
pub pairs_flat : {X Y : Type 0} (R : Y → Y → Type 0) (f : X → List Y) (xs : List X) → Pairwise R (flat_map f xs) → (i j : ℕ) (x z : X)
    → i < j → slice_get xs i ≡ Some x → slice_get xs j ≡ Some z → EachOf (λ c. EachOf (R c) (f z)) (f x)
pairs_flat R f [] p i j x z lt h k = absurd (cc)
pairs_flat R f (y ∷ ys) p zero zero x z lt h k = absurd (omega arith)
pairs_flat R f (y ∷ ys) p zero (suc j) x z lt h k =
    let s : y ≡ x = cc in
    subst (λ w. EachOf (λ c. EachOf (R c) (f z)) (f w)) s (
    each_weak (λ c. EachOf (R c) (flat_map f ys)) (λ c. EachOf (R c) (f z)) (f y) (λ c e. each_flat (R c) f ys e j z k)
    (pairs_across R (f y) (flat_map f ys) p))
pairs_flat R f (y ∷ ys) p (suc i) zero x z lt h k = absurd (omega arith)
pairs_flat R f (y ∷ ys) p (suc i) (suc j) x z lt h k = pairs_flat R f ys (pairs_right R (f y) (flat_map f ys) p) i j x z (omega arith) h k

-- ---- numbered lists

pub number_get : {X : Type 0} (n : ℕ) (xs : List X) (i : ℕ) (x : X) → slice_get xs i ≡ Some x
    → slice_get (enumerate_from n xs) i ≡ Some (n + i, x)
number_get n [] i x h = absurd (cc)
number_get n (y ∷ ys) zero x h = let s : y ≡ x = cc in rw s (ap (λ k. Some (k, x)) (omega arith))
number_get n (y ∷ ys) (suc i) x h = number_get (n + 1) ys i x h ∙ ap (λ k. Some (k, x)) (omega arith)

-- ---- facts of places

pub each_by_place : {X : Type 0} (P : X → Type 0) (xs : List X) (d : X) → ((i : ℕ) → i < length xs → P (get_or xs i d)) → EachOf P xs
each_by_place P [] d h = tt
each_by_place P (x ∷ xs) d h = (h 0 (omega arith), each_by_place P xs d (λ i lt. h (suc i) (omega arith)))

pub pairs_by_place : {X : Type 0} (R : X → X → Type 0) (xs : List X) (d : X)
    → ((i j : ℕ) → i < j → j < length xs → R (get_or xs i d) (get_or xs j d)) → Pairwise R xs
pairs_by_place R [] d h = tt
pairs_by_place R (x ∷ xs) d h = (
  each_by_place (R x) xs d (λ j lt. h 0 (suc j) (omega arith) (omega arith)),
  pairs_by_place R xs d (λ i j before lt. h (suc i) (suc j) (omega arith) (omega arith)),
)
