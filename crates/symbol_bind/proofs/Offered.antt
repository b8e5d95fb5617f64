-- The candidates of each key, as a list by the number of the key.
use Rattle.std.proofs.Common.{◌≡◌, ℕ, zero, suc, ◌+◌, ◌<◌, ◌≤◌, ◌^◌, inl, inr, Bool, List, [], ◌∷◌, length, get_or, map, Option, Some, None}
use Rattle.std.proofs.Common.{refl, sym, ◌∙◌, ap, subst, arith}
use Rattle.std.specs.Prelude.{All, Vec, filter, nat_lt, option_map, slice_get}
use Rattle.std.specs.Global.{Global}
use Rattle.std.specs.Option.{option_map_or}
use Rattle.std.proofs.lemmas.Bool.{cases_lt, cases_Bool, lt-ltb, le-ltb}
use Rattle.std.proofs.lemmas.List.{same_lists, length-map, get_or-map}
use Rattle.std.proofs.lemmas.List.Elements.{All-from_get_or, All-map}
use Rattle.std.proofs.lemmas.Option.{slice_get-map, slice_get-get_or, slice_get_within}
use Rattle.image_model.specs.Image.{Image, Symbol}
use Rattle.link_model.specs.Program.{Declaration, name_of, is_static}
use Rattle.link_model.specs.Sets.{with_member, set_of}
use Rattle.link_model.specs.Candidates.{candidates, is_candidate_for}
use Rattle.symbol_bind.specs.Offers.{offered, all_offered, served, set_at, IsSetAt, AreOffers}

-- ---- sets are short

member_length : (x : ℕ) (xs : List ℕ) → length (with_member x xs) ≤ length xs + 1
member_length x [] = omega arith
member_length x (y ∷ ys) =
    elim (cases_lt x y) [
      | inl lt ↦ rw (lt-ltb _ _ lt) (omega arith)
      | inr ge ↦ rw (le-ltb _ _ ge) (elim (cases_lt y x) [
        | inl gt ↦ rw (lt-ltb _ _ gt) (omega (arith, member_length x ys))
        | inr le ↦ rw (le-ltb _ _ le) (omega arith)
      ])
    ]

set_length : (xs : List ℕ) → length (set_of xs) ≤ length xs
set_length [] = omega arith
set_length (x ∷ xs) = omega (arith, member_length x (set_of xs), set_length xs)

filter_length : {X : Type 0} (p : X → Bool) (xs : List X) → length (filter p xs) ≤ length xs
filter_length p [] = omega arith
filter_length p (x ∷ xs) = elim (cases_Bool (p x)) [
  | inl t ↦ rw t (omega (arith, filter_length p xs))
  | inr f ↦ rw f (omega (arith, filter_length p xs))
]

offered_few : (symbols : List Symbol) (d : Declaration) → length (offered symbols d) ≤ length symbols
offered_few symbols d =
    let kept : List Symbol = filter (is_candidate_for (name_of d) (is_static d)) symbols in
    omega (
      arith,
      set_length (served (name_of d) (is_static d) symbols),
      length-map kept (λ (s : Symbol). s.value),
      filter_length (is_candidate_for (name_of d) (is_static d)) symbols,
    )

pub offers_few : (symbols : List Symbol) (ks : List Declaration) → length symbols < 2 ^ 32
    → All (λ (set : List ℕ). length set < 2 ^ 32) (all_offered symbols ks)
offers_few symbols ks few =
    All-map (λ (set : List ℕ). length set < 2 ^ 32) (offered symbols) ks (λ i d at. omega (arith, offered_few symbols (get_or ks i d)))

-- ---- the sets of all keys

set_at_is : (sets : List (Vec ℕ Global)) (j : ℕ) (set : List ℕ) → IsSetAt sets j set → set_at sets j ≡ set
set_at_is sets j set at = held (slice_get sets j) at
  where
    held : (o : Option (Vec ℕ Global)) → option_map (λ (v : Vec ℕ Global). v.items) o ≡ Some set
        → option_map_or (λ (v : Vec ℕ Global). v.items) o [] ≡ set
    held None e = cc
    held (Some v) e = cc

set_within : (sets : List (Vec ℕ Global)) (j : ℕ) (set : List ℕ) → IsSetAt sets j set → j < length sets
set_within sets j set at = held (slice_get sets j) refl
  where
    held : (o : Option (Vec ℕ Global)) → slice_get sets j ≡ o → j < length sets
    held None e = let f = ap (option_map (λ (v : Vec ℕ Global). v.items)) e in absurd (cc)
    held (Some v) e = slice_get_within sets j v e

key_at : (ks : List Declaration) (k : ℕ) → k < length ks → (d : Declaration) → slice_get ks k ≡ Some (get_or ks k d)
key_at ks k lt d = slice_get-get_or ks k d lt

pub offers_whole : (symbols : List Symbol) (ks : List Declaration) (n : ℕ) (sets : List (Vec ℕ Global)) (numbers : List ℕ)
    → n ≡ length ks → length numbers ≡ n → AreOffers symbols ks n sets numbers → map (set_at sets) numbers ≡ all_offered symbols ks
offers_whole symbols [] n sets [] whole count all = refl
offers_whole symbols [] n sets (m ∷ ms) whole count all = absurd (omega (arith, count, whole))
offers_whole symbols (k ∷ ks) n sets numbers whole count all =
    same_lists (map (set_at sets) numbers) (all_offered symbols (k ∷ ks))
    (length-map numbers (set_at sets) ∙ (count ∙ (whole ∙ sym (length-map (k ∷ ks) (offered symbols)))))
    (λ i d lt. let low : i < length numbers = omega (arith, lt, length-map numbers (set_at sets)) in
    let few : i < n = omega (arith, low, count) in
    let here : i < length (k ∷ ks) = omega (arith, few, whole) in
    get_or-map (set_at sets) numbers i 0 d low
    ∙ (set_at_is sets (get_or numbers i 0) _ (all i (get_or (k ∷ ks) i k) few (key_at (k ∷ ks) i here k))
    ∙ sym (get_or-map (offered symbols) (k ∷ ks) i k d here)))

pub numbers_within : (symbols : List Symbol) (ks : List Declaration) (n : ℕ) (sets : List (Vec ℕ Global)) (numbers : List ℕ)
    → n ≡ length ks → length numbers ≡ n → AreOffers symbols ks n sets numbers → All (λ j. j < length sets) numbers
numbers_within symbols [] n sets [] whole count all = All-from_get_or (λ j. j < length sets) [] 0 (λ i lt. absurd (omega (arith, lt)))
numbers_within symbols [] n sets (m ∷ ms) whole count all = absurd (omega (arith, count, whole))
numbers_within symbols (k ∷ ks) n sets numbers whole count all =
    All-from_get_or (λ j. j < length sets) numbers 0
    (λ i lt. let few : i < n = omega (arith, lt, count) in
    let here : i < length (k ∷ ks) = omega (arith, few, whole) in
    set_within sets (get_or numbers i 0) _ (all i (get_or (k ∷ ks) i k) few (key_at (k ∷ ks) i here k)))

pub made_few : (symbols : List Symbol) (ks : List Declaration) (n : ℕ) (sets : List (Vec ℕ Global)) (numbers : List ℕ)
    → n ≡ length ks → length numbers ≡ n → AreOffers symbols ks n sets numbers → length symbols < 2 ^ 32
    → All (λ (set : List ℕ). length set < 2 ^ 32) (map (set_at sets) numbers)
made_few symbols ks n sets numbers whole count all few =
    subst (λ (made : List (List ℕ)). All (λ (set : List ℕ). length set < 2 ^ 32) made)
    (sym (offers_whole symbols ks n sets numbers whole count all)) (offers_few symbols ks few)

-- ---- the set of one key

same_candidates_of : (v : Image) (d : Declaration) → candidates v d ≡ offered v.symbols d
unfolding candidates
same_candidates_of v d = refl

pub set_of_key : (v : Image) (ks : List Declaration) (k : ℕ) (d : Declaration) (set : List ℕ)
    → slice_get (all_offered v.symbols ks) k ≡ Some set
    → slice_get ks k ≡ Some d → set ≡ candidates v d
set_of_key v ks k d set at key =
    let e : Some (offered v.symbols d) ≡ Some set =
    sym (ap (option_map (offered v.symbols)) key) ∙ (sym (slice_get-map (offered v.symbols) ks k) ∙ at) in
    let f : set ≡ offered v.symbols d = cc in
    f ∙ sym (same_candidates_of v d)
