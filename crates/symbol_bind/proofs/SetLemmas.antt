-- Two rising lists with the same members are one list; a set is the rising list of the members.
use Rattle.std.proofs.Common.{◌≡◌, ℕ, ◌<◌, inl, inr, Bool, true, false, ◌||◌, List, [], ◌∷◌, refl, sym, ◌∙◌, ap, arith}
use Rattle.std.specs.Prelude.{◌==◌, ⊤}
use Rattle.std.specs.List.{list_any, dedup, dedup_from, AllByRecursion}
use Rattle.std.specs.List.Sorted.{IsStrictlySortedBy, IsSorted, IsPermutation}
use Rattle.std.specs.Ordering.{nat_cmp}
use Rattle.std.specs.declared.cmp.Ordering.TheVariants.{Less}
use Rattle.std.proofs.lemmas.Cmp.{nat_cmp_total, ranked}
use Rattle.std.proofs.Common.{subst}
use Rattle.std.proofs.lemmas.Bool.{cases_lt, lt-ltb, le-ltb}
use Rattle.std.proofs.lemmas.Bool.Decides.{nat_tests}
use Rattle.std.proofs.lemmas.List.Kept.{IsStrictlySortedBy-dedup}
use Rattle.std.proofs.lemmas.List.Sorted.{list_any-IsPermutation}
use Rattle.std.proofs.Math.Dec.{eqb}
use Rattle.link_model.specs.Sets.{with_member, set_of}

-- v is a member
abbrev pub mem : ℕ → List ℕ → Bool
mem v xs = list_any (λ x. x == v) xs

abbrev pub IsBelow : ℕ → List ℕ → Type 0
IsBelow v [] = ⊤
IsBelow v (x ∷ xs) = (v < x) × IsBelow v xs

abbrev pub IsRising : List ℕ → Type 0
IsRising [] = ⊤
IsRising (x ∷ xs) = IsBelow x xs × IsRising xs

below_trans : (v x : ℕ) (xs : List ℕ) → v < x → IsBelow x xs → IsBelow v xs
below_trans v x [] h b = tt
below_trans v x (y ∷ ys) h b = (omega (arith, b.0), below_trans v x ys h b.1)

not_mem_above : (v : ℕ) (xs : List ℕ) → IsBelow v xs → mem v xs ≡ false
not_mem_above v [] b = refl
not_mem_above v (x ∷ xs) b = let lt : v < x = b.0 in rw (not_mem_above v xs b.1) (grind (arith, nat_tests))

with_member_mem : (v x : ℕ) (xs : List ℕ) → mem v (with_member x xs) ≡ ((x == v) || mem v xs)
with_member_mem v x [] = refl
with_member_mem v x (y ∷ ys) = let again = with_member_mem v x ys in grind (arith, nat_tests)

pub set_mem : (v : ℕ) (xs : List ℕ) → mem v (set_of xs) ≡ mem v xs
set_mem v [] = refl
set_mem v (x ∷ xs) = with_member_mem v x (set_of xs) ∙ ap (λ b. (x == v) || b) (set_mem v xs)

below_with : (v x : ℕ) (xs : List ℕ) → v < x → IsBelow v xs → IsBelow v (with_member x xs)
below_with v x [] h b = (h, tt)
below_with v x (y ∷ ys) h b =
    elim (cases_lt x y) [
      | inl lt ↦ rw (lt-ltb _ _ lt) (h, b)
      | inr ge ↦ rw (le-ltb _ _ ge) (elim (cases_lt y x) [
        | inl gt ↦ rw (lt-ltb _ _ gt) (b.0, below_with v x ys h b.1)
        | inr le ↦ rw (le-ltb _ _ le) b
      ])
    ]

with_rises : (x : ℕ) (xs : List ℕ) → IsRising xs → IsRising (with_member x xs)
with_rises x [] r = (tt, tt)
with_rises x (y ∷ ys) r =
    elim (cases_lt x y) [
      | inl lt ↦ rw (lt-ltb _ _ lt) ((lt, below_trans x y ys lt r.0), r)
      | inr ge ↦ rw (le-ltb _ _ ge) (elim (cases_lt y x) [
        | inl gt ↦ rw (lt-ltb _ _ gt) (below_with y x ys gt r.0, with_rises x ys r.1)
        | inr le ↦ rw (le-ltb _ _ le) r
      ])
    ]

pub set_rises : (xs : List ℕ) → IsRising (set_of xs)
set_rises [] = tt
set_rises (x ∷ xs) = with_rises x (set_of xs) (set_rises xs)

-- x is in y and what follows it, and y in x and what follows it
heads_same : (x y : ℕ) (xs ys : List ℕ) → IsBelow x xs → IsBelow y ys → mem x (y ∷ ys) ≡ true → mem y (x ∷ xs) ≡ true → x ≡ y
heads_same x y xs ys a b in_y in_x =
    elim (cases_lt x y) [
      | inl lt ↦ let no = not_mem_above x (y ∷ ys) (lt, below_trans x y ys lt b) in absurd (grind (arith, nat_tests))
      | inr ge ↦ elim (cases_lt y x) [
        | inl gt ↦ let no = not_mem_above y (x ∷ xs) (gt, below_trans y x xs gt a) in absurd (grind (arith, nat_tests))
        | inr le ↦ omega arith
      ]
    ]

mem_head : (x : ℕ) (xs : List ℕ) → mem x (x ∷ xs) ≡ true
mem_head x xs = grind (arith, nat_tests)

tails_same : (x : ℕ) (xs ys : List ℕ) → IsBelow x xs → IsBelow x ys → ((v : ℕ) → mem v (x ∷ xs) ≡ mem v (x ∷ ys)) → (v : ℕ)
    → mem v xs ≡ mem v ys
tails_same x xs ys a b same v =
    let here = same v in let no_a = not_mem_above x xs a in let no_b = not_mem_above x ys b in
    elim (cases_lt x v) [
      | inl lt ↦ grind (arith, nat_tests)
      | inr ge ↦ elim (cases_lt v x) [
        | inl gt ↦ grind (arith, nat_tests)
        | inr le ↦ let e : v ≡ x = omega arith in rw e (no_a ∙ sym no_b)
      ]
    ]

pub unique_rising : (xs ys : List ℕ) → IsRising xs → IsRising ys → ((v : ℕ) → mem v xs ≡ mem v ys) → xs ≡ ys
unique_rising [] [] r s same = refl
unique_rising [] (y ∷ ys) r s same = let yes = mem_head y ys in let e = same y in absurd (grind (arith, nat_tests))
unique_rising (x ∷ xs) [] r s same = let yes = mem_head x xs in let e = same x in absurd (grind (arith, nat_tests))
unique_rising (x ∷ xs) (y ∷ ys) r s same =
    let e : x ≡ y = heads_same x y xs ys r.0 s.0 (sym (same x) ∙ mem_head x xs) (same y ∙ mem_head y ys) in
    let P : ℕ → Type 0 = λ z. IsBelow z ys → ((v : ℕ) → mem v (x ∷ xs) ≡ mem v (z ∷ ys)) → (x ∷ xs) ≡ (z ∷ ys) in
    subst P e (λ b all. ap (λ l. x ∷ l) (unique_rising xs ys r.1 s.1 (tails_same x xs ys r.0 b all))) s.0 same

-- the members of two lists agree, so their sets do
pub same_set : (xs ys : List ℕ) → ((v : ℕ) → mem v xs ≡ mem v ys) → set_of xs ≡ set_of ys
same_set xs ys same = unique_rising _ _ (set_rises xs) (set_rises ys) (λ v. set_mem v xs ∙ (same v ∙ sym (set_mem v ys)))

dedup_from_mem : (v x : ℕ) (xs : List ℕ) → mem v (dedup_from eqb x xs) ≡ ((x == v) || mem v xs)
dedup_from_mem v x [] = refl
dedup_from_mem v x (y ∷ ys) = let one = dedup_from_mem v x ys in let two = dedup_from_mem v y ys in grind (arith, nat_tests)

dedup_mem : (v : ℕ) (xs : List ℕ) → mem v (dedup eqb xs) ≡ mem v xs
dedup_mem v [] = refl
dedup_mem v (x ∷ xs) = dedup_from_mem v x xs

below_from : (v : ℕ) (xs : List ℕ) → AllByRecursion (λ y. nat_cmp v y ≡ Less) xs → IsBelow v xs
below_from v [] h = tt
below_from v (x ∷ xs) h = (ranked v x Less (sym h.0), below_from v xs h.1)

rising_from : (xs : List ℕ) → IsStrictlySortedBy nat_cmp xs → IsRising xs
unfolding IsStrictlySortedBy
rising_from [] h = tt
rising_from (x ∷ xs) h = (below_from x xs h.0, rising_from xs h.1)

-- what a sort and a `dedup` leave
pub sorted_set : (xs ys : List ℕ) → IsPermutation xs ys → IsSorted nat_cmp ys → dedup eqb ys ≡ set_of xs
sorted_set xs ys moved up =
    unique_rising _ _ (rising_from _ (IsStrictlySortedBy-dedup nat_cmp_total (λ x y. grind (arith, nat_tests)) ys up)) (set_rises xs)
    (λ v. dedup_mem v ys ∙ (sym (list_any-IsPermutation (λ x. x == v) xs ys moved) ∙ sym (set_mem v xs)))
