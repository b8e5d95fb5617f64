-- Sets that are kept once for all keys of a name.
use Rattle.std.proofs.Common.{◌≡◌, ℕ, ◌+◌, ◌<◌, inl, inr, Bool, true, false, List, [], ◌∷◌, ◌++◌, length, get_or, set, take, drop, Option}
use Rattle.std.proofs.Common.{Some, None, refl, sym, ◌∙◌, ap, subst, arith}
use Rattle.std.specs.Prelude.{slice_get, Vec, slice_index_or}
use Rattle.std.specs.Global.{Global}
use Rattle.std.proofs.lemmas.Bool.{cases_eq, cases_lt}
use Rattle.std.proofs.lemmas.List.{get_or-set_same, get_or-set_other, get_or_append_left, get_or_push, take-append-le, take_all}
use Rattle.image_model.specs.Image.{Symbol}
use Rattle.link_model.specs.Program.{Declaration}
use Rattle.link_model.specs.Sets.{set_of}
use Rattle.symbol_index.specs.Index.{Index, no_symbol, in_order}
use Rattle.symbol_bind.specs.Offers.{served, slot, IsSetAt, Extends, AreKnown, AreOffers, offered}

slot_apart : (p q : ℕ) (s t : Bool) → slot p s ≡ slot q t → (p ≡ q) × (s ≡ t)
slot_apart p q true true h = (omega (arith, h), refl)
slot_apart p q false false h = (omega (arith, h), refl)
slot_apart p q true false h = absurd (omega (arith, h))
slot_apart p q false true h = absurd (omega (arith, h))

pub known_extends : (x : Index) (known : List (Option ℕ)) (old new : List (Vec ℕ Global)) → Extends old new → AreKnown x known old
    → AreKnown x known new
known_extends x known old new more h place static j lt is = more j _ (h place static j lt is)

-- one more number is known
pub known_more : (x : Index) (known : List (Option ℕ)) (sets : List (Vec ℕ Global)) (first : ℕ) (kind : Bool) (name : List ℕ) (number : ℕ)
    → slot first kind < length known → (slice_index_or (in_order x) first no_symbol).name ≡ name
    → IsSetAt sets number (set_of (served name kind x.symbols)) → AreKnown x known sets
    → AreKnown x (set known (slot first kind) (Some number)) sets
known_more x known sets first kind name number inside named is old place static j lt at =
    elim (cases_eq (slot place static) (slot first kind)) [
      | inl e ↦
          let same = slot_apart place first static kind e in
          let value : Some number ≡ Some j = sym (ap (λ s. get_or (set known (slot first kind) (Some number)) s None) e
          ∙ get_or-set_same known (slot first kind) (Some number) None inside) ∙ at in
          let number_is : number ≡ j = cc in
          let P : ℕ → Bool → ℕ → Type 0 = λ p s m. IsSetAt sets m (set_of
          (served (slice_index_or (in_order x) p no_symbol).name s x.symbols)) in
          let here : P first kind number = rw named is in
          subst (λ m. P place static m) number_is
          (subst (λ s. P place s number) (sym same.1) (subst (λ p. P p kind number) (sym same.0) here))
      | inr ne ↦ old place static j lt (sym (get_or-set_other known (slot first kind) (slot place static) (Some number) None ne) ∙ at)
    ]

-- the number that is known for a name at its first place
pub known_here : (x : Index) (known : List (Option ℕ)) (sets : List (Vec ℕ Global)) (first : ℕ) (kind : Bool) (name : List ℕ)
    (number place : ℕ)
    → place ≡ slot first kind → first < length x.places → (slice_index_or (in_order x) first no_symbol).name ≡ name
    → AreKnown x known sets → slice_index_or known place None ≡ Some number → IsSetAt sets number (set_of (served name kind x.symbols))
known_here x known sets first kind name number place is lt named old at =
    let P : List ℕ → Type 0 = λ n. IsSetAt sets number (set_of (served n kind x.symbols)) in
    subst P named (old first kind number lt (sym (ap (λ s. slice_index_or known s None) is) ∙ at))

pub set_is : (sets : List (Vec ℕ Global)) (j : ℕ) (one other : List ℕ) → one ≡ other → IsSetAt sets j one → IsSetAt sets j other
set_is sets j one other is at = at ∙ ap (λ set. Some set) is

-- one more key has the number of its candidates
pub offers_more : (symbols : List Symbol) (ks : List Declaration) (k : ℕ) (old new : List (Vec ℕ Global)) (numbers : List ℕ) (number : ℕ)
    (d : Declaration)
    → Extends old new → length numbers ≡ k → slice_get ks k ≡ Some d → IsSetAt new number (offered symbols d)
    → AreOffers symbols ks k old numbers → AreOffers symbols ks (k + 1) new (numbers ++ number ∷ [])
offers_more symbols ks k old new numbers number d more count is here offers i e lt at =
    elim (cases_lt i k) [
      | inl less ↦
          let same : get_or (numbers ++ number ∷ []) i 0 ≡ get_or numbers i 0 =
          get_or_append_left numbers (number ∷ []) 0 i (omega (arith, count, less)) in
          subst (λ j. IsSetAt new j (offered symbols e)) (sym same) (more (get_or numbers i 0) (offered symbols e) (offers i e less at))
      | inr ge ↦
          let last : i ≡ k = omega (arith, lt, ge) in
          let same : get_or (numbers ++ number ∷ []) i 0 ≡ number = get_or_push numbers number 0 i (count ∙ sym last) in
          let both : Some d ≡ Some e = sym is ∙ (ap (slice_get ks) (sym last) ∙ at) in
          let one : d ≡ e = cc in
          subst (λ j. IsSetAt new j (offered symbols e)) (sym same) (subst (λ x. IsSetAt new number (offered symbols x)) one here)
    ]

-- a slice of the whole of a vector, written back
pub written_back : {X : Type 0} (n : ℕ) (xs ys : List X) → length xs ≡ n → length ys ≡ n → take n (xs ++ drop (length xs) ys) ≡ xs
written_back n xs ys a b =
    take-append-le n xs (drop (length xs) ys) (omega (arith, a)) ∙ take_all n xs (omega (arith, a))
