-- Claims in their order stand as in_order has them, and none meets where no overlap test fails.
use Rattle.std.proofs.Common.{◌≡◌, ◌≤◌, ℕ, Bool, true, false, List, [], ◌∷◌, ◌∙◌, Option, Some, None, suc, refl, sym, ap, arith}
use Rattle.std.proofs.Common.{if◌then◌else◌}
use Rattle.std.specs.Prelude.{IsNone, option_map}
use Rattle.std.proofs.lemmas.Bool.Decides.{nat_tests}
use Rattle.ordered_tests.specs.Checks.{Check}
use Rattle.ordered_tests.specs.Lists.{EachOf, Pairwise}
use Rattle.ordered_tests.proofs.Lists.{each_weak}
use Rattle.link_model.specs.declared.fault.Fault.{Fault}
use Rattle.link_model.specs.Claims.{Claim, Apart}
use Rattle.link_model.specs.Overlaps.{is_not_above, with_claim, in_order, overlap_pass}
use Rattle.link_laws.proofs.Overlaps.{Good, put_each, overlaps_right, overlaps_pass}
use Rattle.coverage.specs.Orders.{failing_place}

-- ---- in their order

abbrev NotAbove : Claim → Claim → Type 0
NotAbove c d = is_not_above c d ≡ true

above_turned : (c d : Claim) → is_not_above c d ≡ false → NotAbove d c
above_turned c d h = grind (arith, nat_tests)

not_above_through : (c d e : Claim) → NotAbove c d → NotAbove d e → NotAbove c e
not_above_through c d e h k = grind (arith, nat_tests)

put_ordered : (c : Claim) (ds : List Claim) → Pairwise NotAbove ds → Pairwise NotAbove (with_claim c ds)
put_ordered c [] p = (tt, tt)
put_ordered c (d ∷ ds) p = at (is_not_above c d) refl (put_ordered c ds p.1)
  where
    at : (b : Bool) → is_not_above c d ≡ b → Pairwise NotAbove (with_claim c ds) →
        Pairwise NotAbove (if b then c ∷ d ∷ ds else d ∷ with_claim c ds)
    at true e k = ((e, each_weak (NotAbove d) (NotAbove c) ds (λ z q. not_above_through c d z e q) p.0), p)
    at false e k = (put_each (NotAbove d) c ds (above_turned c d e) p.0, k)

are_ordered : (cs : List Claim) → Pairwise NotAbove (in_order cs)
are_ordered [] = tt
are_ordered (c ∷ cs) = put_ordered c (in_order cs) (are_ordered cs)

first_stays : (c : Claim) (ds : List Claim) → EachOf (NotAbove c) ds → with_claim c ds ≡ c ∷ ds
first_stays c [] e = refl
first_stays c (d ∷ ds) e = rw e.0 refl

order_stays : (cs : List Claim) → Pairwise NotAbove cs → in_order cs ≡ cs
order_stays [] p = refl
order_stays (c ∷ cs) p = ap (with_claim c) (order_stays cs p.1) ∙ first_stays c cs p.0

pub in_order_once : (cs : List Claim) → in_order (in_order cs) ≡ in_order cs
in_order_once cs = order_stays (in_order cs) (are_ordered cs)

-- ---- none fails

good_from_none : (cs : List (Check Fault)) → (let none : Option ℕ = None in failing_place cs ≡ none) → EachOf Good cs
good_from_none [] h = tt
good_from_none (c ∷ cs) h = at c.passes refl h (λ k. good_from_none cs k)
  where
    later : (o : Option ℕ) → (let none : Option ℕ = None in option_map suc o ≡ none) → (let none : Option ℕ = None in o ≡ none)
    later None e = refl
    later (Some n) e = absurd (cc)

    at : (b : Bool) → c.passes ≡ b → (let none : Option ℕ = None in (if b then option_map suc (failing_place cs) else Some 0) ≡ none) →
        ((let none : Option ℕ = None in failing_place cs ≡ none) → EachOf Good cs) → Good c × EachOf Good cs
    at true e k rest = (e, rest (later (failing_place cs) k))
    at false e k rest = absurd (cc)

none_from_good : (cs : List (Check Fault)) → EachOf Good cs → (let none : Option ℕ = None in failing_place cs ≡ none)
none_from_good [] e = refl
none_from_good (c ∷ cs) e = rw (e.0, none_from_good cs e.1) refl

apart_where_none : (cs : List Claim) → (let none : Option ℕ = None in failing_place (overlap_pass cs) ≡ none) → Apart cs
apart_where_none cs h = overlaps_right cs (good_from_none (overlap_pass cs) h)

none_where_apart : (cs : List Claim) → Apart cs → (let none : Option ℕ = None in failing_place (overlap_pass cs) ≡ none)
none_where_apart cs a = none_from_good (overlap_pass cs) (overlaps_pass cs a)

is_none : (r : Option ℕ) → IsNone r → (let none : Option ℕ = None in r ≡ none)
is_none None h = refl
is_none (Some n) h = absurd (cc)

none_is : (r : Option ℕ) → (let none : Option ℕ = None in r ≡ none) → IsNone r
none_is r e = rw e refl

-- no place fails exactly where the claims are apart
pub none_iff : (r : Option ℕ) (cs : List Claim) → r ≡ failing_place (overlap_pass cs) → (IsNone r → Apart cs) × (Apart cs → IsNone r)
none_iff r cs e = ((λ h. apart_where_none cs (sym e ∙ is_none r h)), (λ a. none_is r (e ∙ none_where_apart cs a)))
