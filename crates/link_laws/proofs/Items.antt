-- Each of a list, over numbered, filtered and tested lists.
use Rattle.std.proofs.Common.{◌≡◌, ℕ, zero, suc, ◌+◌, ◌<◌, inl, inr, Bool, true, false, List, [], ◌∷◌, ◌++◌, length, map, Some, refl, ◌∙◌}
use Rattle.std.proofs.Common.{ap, subst, sym, arith, if◌then◌else◌, cond}
use Rattle.std.specs.Prelude.{slice_get, flat_map, filter}
use Rattle.std.specs.List.{list_any, list_all, enumerate_from}
use Rattle.std.proofs.lemmas.Bool.{and_parts, and_from, or_cases}
use Rattle.ordered_tests.specs.Lists.{EachOf}
use Rattle.ordered_tests.proofs.Lists.{each_append}
use Rattle.link_model.specs.Sets.{first_of_each}

-- ---- from each element of a list

pub each_item : {X : Type 0} (P : X → Type 0) (xs : List X) → ((i : ℕ) (x : X) → slice_get xs i ≡ Some x → P x) → EachOf P xs
each_item P [] h = tt
each_item P (x ∷ xs) h = (h 0 x refl, each_item P xs (λ i y e. h (suc i) y e))

pub each_mapped : {X Y : Type 0} (P : X → Type 0) (Q : Y → Type 0) (f : X → Y) (xs : List X) → ((x : X) → P x → Q (f x)) →
    EachOf P xs → EachOf Q (map f xs)
each_mapped P Q f [] h e = tt
each_mapped P Q f (x ∷ xs) h e = (h x e.0, each_mapped P Q f xs h e.1)

pub each_unmapped : {X Y : Type 0} (P : X → Type 0) (Q : Y → Type 0) (f : X → Y) (xs : List X) → ((x : X) → Q (f x) → P x) →
    EachOf Q (map f xs) → EachOf P xs
each_unmapped P Q f [] h e = tt
each_unmapped P Q f (x ∷ xs) h e = (h x e.0, each_unmapped P Q f xs h e.1)

pub flat_each : {X Y : Type 0} (P : Y → Type 0) (f : X → List Y) (xs : List X) →
    ((i : ℕ) (x : X) → slice_get xs i ≡ Some x → EachOf P (f x)) → EachOf P (flat_map f xs)
flat_each P f [] h = tt
flat_each P f (x ∷ xs) h = each_append P (f x) (flat_map f xs) (h 0 x refl) (flat_each P f xs (λ i y e. h (suc i) y e))

pub number_from : {X : Type 0} (n : ℕ) (xs : List X) (i : ℕ) (y : ℕ × X) → slice_get (enumerate_from n xs) i ≡ Some y →
    (y.0 ≡ n + i) × (slice_get xs i ≡ Some y.1)
number_from n [] i y h = absurd (cc)
number_from n (x ∷ xs) zero y h =
    let s : (n, x) ≡ y = cc in subst (λ z. (z.0 ≡ n + 0) × (Some x ≡ Some z.1)) s (omega arith, refl)
number_from n (x ∷ xs) (suc i) y h = let r = number_from (n + 1) xs i y h in let e = r.0 in (omega arith, r.1)

pub each_filter : {X : Type 0} (P : X → Type 0) (p : X → Bool) (xs : List X) → EachOf P xs → EachOf P (filter p xs)
each_filter P p [] e = tt
each_filter P p (x ∷ xs) e = at (p x) (each_filter P p xs e.1)
  where
    at : (b : Bool) → EachOf P (filter p xs) → EachOf P (cond b (x ∷ filter p xs) (filter p xs))
    at true rest = (e.0, rest)
    at false rest = rest

pub each_first : {X : Type 0} (P : X → Type 0) (alike : X → X → Bool) (seen xs : List X) → EachOf P xs →
    EachOf P (first_of_each alike seen xs)
each_first P alike seen [] e = tt
each_first P alike seen (x ∷ xs) e =
    at (list_any (alike x) seen) (each_first P alike seen xs e.1) (e.0, each_first P alike (x ∷ seen) xs e.1)
  where
    at : (b : Bool) → EachOf P (first_of_each alike seen xs) → EachOf P (x ∷ first_of_each alike (x ∷ seen) xs) →
        EachOf P (if b then first_of_each alike seen xs else x ∷ first_of_each alike (x ∷ seen) xs)
    at true one two = one
    at false one two = two

-- ---- tests of all and of some

pub each_of_all : {X : Type 0} (p : X → Bool) (xs : List X) → list_all p xs ≡ true → EachOf (λ x. p x ≡ true) xs
each_of_all p [] h = tt
each_of_all p (x ∷ xs) h = let t = and_parts (p x) (list_all p xs) h in (t.0, each_of_all p xs t.1)

pub all_of_each : {X : Type 0} (p : X → Bool) (xs : List X) → EachOf (λ x. p x ≡ true) xs → list_all p xs ≡ true
all_of_each p [] e = refl
all_of_each p (x ∷ xs) e = and_from (p x) (list_all p xs) e.0 (all_of_each p xs e.1)

pub any_get : {X : Type 0} (p : X → Bool) (xs : List X) (i : ℕ) (x : X) → slice_get xs i ≡ Some x → p x ≡ true →
    list_any p xs ≡ true
any_get p [] i x e h = absurd (cc)
any_get p (y ∷ ys) zero x e h = let s : y ≡ x = cc in rw (ap p s ∙ h) refl
any_get p (y ∷ ys) (suc i) x e h = rw (any_get p ys i x e h) (grind arith)

pub any_item : {X : Type 0} (p : X → Bool) (xs : List X) → list_any p xs ≡ true →
    (i : ℕ) × (x : X) × (slice_get xs i ≡ Some x) × (p x ≡ true)
any_item p [] h = absurd (cc)
any_item p (x ∷ xs) h = elim (or_cases (p x) (list_any p xs) h) [
  | inl t ↦ (0, x, refl, t)
  | inr t ↦ (let r = any_item p xs t in (suc r.0, r.1, r.2, r.3))
]

-- the element at a place of a list
pub some_item : (xs : List ℕ) (i : ℕ) → i < length xs → (x : ℕ) × (slice_get xs i ≡ Some x)
some_item [] i h = absurd (omega arith)
some_item (x ∷ xs) zero h = (x, refl)
some_item (x ∷ xs) (suc i) h = some_item xs i (omega arith)

pub any_left : {X : Type 0} (p : X → Bool) (xs ys : List X) → list_any p xs ≡ true → list_any p (xs ++ ys) ≡ true
any_left p [] ys h = absurd (cc)
any_left p (x ∷ xs) ys h =
    elim (or_cases (p x) (list_any p xs) h) [ inl t ↦ rw t refl | inr t ↦ rw (any_left p xs ys t) (grind arith) ]

pub any_right : {X : Type 0} (p : X → Bool) (xs ys : List X) → list_any p ys ≡ true → list_any p (xs ++ ys) ≡ true
any_right p [] ys h = h
any_right p (x ∷ xs) ys h = rw (any_right p xs ys h) (grind arith)

pub any_flat : {X Y : Type 0} (p : Y → Bool) (f : X → List Y) (xs : List X) (i : ℕ) (x : X) → slice_get xs i ≡ Some x →
    list_any p (f x) ≡ true → list_any p (flat_map f xs) ≡ true
any_flat p f [] i x e h = absurd (cc)
any_flat p f (y ∷ ys) zero x e h =
    let s : y ≡ x = cc in any_left p (f y) (flat_map f ys) (subst (λ z. list_any p (f z) ≡ true) (sym s) h)
any_flat p f (y ∷ ys) (suc i) x e h = any_right p (f y) (flat_map f ys) (any_flat p f ys i x e h)
