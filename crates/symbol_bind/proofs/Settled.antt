-- The address of one key, or its fault.
use Rattle.std.proofs.Common.{◌≡◌, ℕ, ◌+◌, ◌<◌, ◌^◌, inl, inr, Bool, true, false, List, [], ◌∷◌, length, get_or, Fits, w32, Option, Some}
use Rattle.std.proofs.Common.{None, refl, sym, ◌∙◌, ap, subst, arith}
use Rattle.std.specs.Prelude.{All, filter, count_by, Ok, Err, ◌==◌}
use Rattle.std.specs.List.{find}
use Rattle.std.specs.Option.{option_or}
use Rattle.std.proofs.lemmas.Bool.{cases_Bool}
use Rattle.std.proofs.lemmas.Bool.Decides.{nat_tests}
use Rattle.std.proofs.lemmas.List.{get_or_default}
use Rattle.std.proofs.lemmas.List.Sums.{length-filter}
use Rattle.link_model.specs.declared.link_error.BindFault.{BindFault}
use Rattle.link_model.specs.declared.link_error.BindFault.TheVariants.{NoSymbol, NoneFits, SeveralFit}
use Rattle.link_model.specs.Sets.{only_member}
use Rattle.link_model.specs.Program.{Declaration}
use Rattle.link_model.specs.Candidates.{Inputs, candidates, known_address, pin}
use Rattle.link_model.specs.Uses.{Use}
use Rattle.link_model.specs.Binding.{address_of, bind_test, fault_of_key, fitting_addresses, fitting_candidates}
use Rattle.symbol_bind.specs.declared.address_set.AddressSet.{AddressSet}
use Rattle.symbol_bind.specs.AddressSets.{contains}
use Rattle.symbol_bind.specs.Bound.{SettlesKey}
use Rattle.symbol_bind.specs.Open.{IsOpen}
use Rattle.symbol_bind.proofs.Narrowed.{fitting_is_open}

-- ---- what passes a test

pub none_found : {X : Type 0} (p : X → Bool) (xs : List X) → find p xs ≡ None → filter p xs ≡ []
none_found p [] h = refl
none_found p (x ∷ xs) h = elim (cases_Bool (p x)) [
  | inl t ↦ (let e : Some x ≡ None = rw t at h in absurd (cc))
  | inr f ↦ rw f (none_found p xs (rw f at h))
]

pub some_found : {X : Type 0} (p : X → Bool) (xs : List X) (a : X) → find p xs ≡ Some a → (ys : List X) × (filter p xs ≡ a ∷ ys)
some_found p [] a h = absurd (cc)
some_found p (x ∷ xs) a h = elim (cases_Bool (p x)) [
  | inl t ↦ (let e : Some x ≡ Some a = rw t at h in let same : x ≡ a = cc in (filter p xs, rw t (ap (λ y. y ∷ filter p xs) same)))
  | inr f ↦ rw f (some_found p xs a (rw f at h))
]

-- ---- the address that is known of a key

pub pinned_known : (g : Inputs) (d : Declaration) (a : ℕ) → Some a ≡ pin g d → Some a ≡ known_address g d
unfolding known_address
pinned_known g d a h = ap (λ o. option_or o (only_member (candidates g.image d))) h

pub unpinned_known : (g : Inputs) (d : Declaration) (o : Option ℕ) (ts : List ℕ) → None ≡ pin g d → o ≡ only_member ts
    → ts ≡ candidates g.image d → o ≡ known_address g d
unfolding known_address
unpinned_known g d o ts h is same =
    is ∙ (ap only_member same ∙ ap (λ p. option_or p (only_member (candidates g.image d))) h)

-- ---- one key

pub addresses_are_small : (ts : List ℕ) → ((i : ℕ) → Fits w32 (get_or ts i 0)) → All (λ t. t < 2 ^ 32) ts
addresses_are_small ts h i d within =
    let fits_here = h i in
    let small : get_or ts i 0 < 2 ^ 32 = omega (arith, fits_here) in
    let same : get_or ts i d ≡ get_or ts i 0 = get_or_default ts i d 0 within in
    rw same small

settled_known : (g : Inputs) (uses : List Use) (k : ℕ) (d : Declaration) (a : ℕ) → Some a ≡ known_address g d
    → address_of g uses (k, d) ≡ Some a
settled_known g uses k d a h = ap (λ o. option_or o (only_member (fitting_candidates g uses (k, d)))) (sym h)

-- where no address is known, the candidates that fit decide
settled_fitting : (g : Inputs) (uses : List Use) (k : ℕ) (d : Declaration) (fs : List ℕ) → None ≡ known_address g d
    → fs ≡ fitting_candidates g uses (k, d) → address_of g uses (k, d) ≡ only_member fs
settled_fitting g uses k d fs h is =
    ap (λ o. option_or o (only_member (fitting_candidates g uses (k, d)))) (sym h) ∙ ap only_member (sym is)

pub settles_known : (g : Inputs) (uses : List Use) (k : ℕ) (d : Declaration) (a : ℕ) → Some a ≡ known_address g d
    → SettlesKey g uses (k, d) (Ok a)
settles_known g uses k d a h = settled_known g uses k d a h

-- the candidates that fit are those that the set contains
fits : (g : Inputs) (uses : List Use) (k : ℕ) (d : Declaration) (set : AddressSet) (ts : List ℕ) → All (λ t. t < 2 ^ 32) ts
    → ts ≡ candidates g.image d → IsOpen g.layout uses k set → filter (contains set) ts ≡ fitting_candidates g uses (k, d)
fits g uses k d set ts small is open_here =
    fitting_is_open g.layout uses k set ts small open_here ∙ ap (fitting_addresses g.layout uses k) is

pub settles_none : (g : Inputs) (uses : List Use) (k : ℕ) (d : Declaration) (set : AddressSet) (ts : List ℕ) (f : BindFault)
    → All (λ t. t < 2 ^ 32) ts → ts ≡ candidates g.image d → IsOpen g.layout uses k set → None ≡ known_address g d
    → find (contains set) ts ≡ None → f ≡ fault_of_key k (length ts) 0 → SettlesKey g uses (k, d) (Err f)
settles_none g uses k d set ts f small is open_here known none fault =
    let empty : [] ≡ fitting_candidates g uses (k, d) = sym (none_found (contains set) ts none)
    ∙ fits g uses k d set ts small is open_here in
    let offered : length ts ≡ length (candidates g.image d) = ap length is in
    let fit : 0 ≡ length (fitting_candidates g uses (k, d)) = ap length empty in (
      settled_fitting g uses k d [] known empty,
      fault ∙ (ap (λ m. fault_of_key k m 0) offered ∙ ap (fault_of_key k (length (candidates g.image d))) fit),
    )

pub settles_one : (g : Inputs) (uses : List Use) (k : ℕ) (d : Declaration) (set : AddressSet) (ts : List ℕ) (a : ℕ)
    → All (λ t. t < 2 ^ 32) ts
    → ts ≡ candidates g.image d → IsOpen g.layout uses k set → None ≡ known_address g d → find (contains set) ts ≡ Some a
    → 1 ≡ count_by (contains set) ts → SettlesKey g uses (k, d) (Ok a)
settles_one g uses k d set ts a small is open_here known some one = only (some_found (contains set) ts a some)
  where
    only : ((ys : List ℕ) × (filter (contains set) ts ≡ a ∷ ys)) → address_of g uses (k, d) ≡ Some a
    only ([], e) = settled_fitting g uses k d (a ∷ []) known (sym e ∙ fits g uses k d set ts small is open_here)
    only (y ∷ ys, e) = absurd (omega (arith, one, length-filter (contains set) ts, ap length e))

several_fault : (k m n : ℕ) → 0 < m → 0 < n → SeveralFit k n ≡ fault_of_key k m n
several_fault k m n a b =
    let x : (m == 0) ≡ false = grind (arith, nat_tests) in
    let y : (n == 0) ≡ false = grind (arith, nat_tests) in
    rw (x, y) refl

some_offered : {X : Type 0} (p : X → Bool) (xs : List X) (a : X) → find p xs ≡ Some a → 0 < length xs
some_offered p [] a h = absurd (cc)
some_offered p (x ∷ xs) a h = omega arith

pub settles_several : (g : Inputs) (uses : List Use) (k : ℕ) (d : Declaration) (set : AddressSet) (ts : List ℕ) (a n : ℕ)
    → All (λ t. t < 2 ^ 32) ts → ts ≡ candidates g.image d → IsOpen g.layout uses k set → None ≡ known_address g d
    → find (contains set) ts ≡ Some a → n ≡ count_by (contains set) ts → (n ≡ 1 → ⊥) → SettlesKey g uses (k, d) (Err (SeveralFit k n))
settles_several g uses k d set ts a n small is open_here known some count several = two (some_found (contains set) ts a some)
  where
    two : ((ys : List ℕ) × (filter (contains set) ts ≡ a ∷ ys))
        → (address_of g uses (k, d) ≡ None) × (SeveralFit k n ≡ (bind_test g uses (k, d)).fault)
    two ([], e) = absurd (several (omega (arith, count, length-filter (contains set) ts, ap length e)))
    two (y ∷ ys, e) =
        let fitting : a ∷ y ∷ ys ≡ fitting_candidates g uses (k, d) = sym e ∙ fits g uses k d set ts small is open_here in
        let size : n ≡ length (fitting_candidates g uses (k, d)) =
        count ∙ (sym (length-filter (contains set) ts) ∙ (ap length e ∙ ap length fitting)) in
        let some_fit : 0 < length (fitting_candidates g uses (k, d)) = omega (arith, sym (ap length fitting)) in
        let offered : 0 < length (candidates g.image d) = omega (arith, some_offered (contains set) ts a some, ap length is) in (
          settled_fitting g uses k d (a ∷ y ∷ ys) known fitting,
          ap (SeveralFit k) size
              ∙ several_fault k (length (candidates g.image d)) (length (fitting_candidates g uses (k, d))) offered some_fit,
        )
