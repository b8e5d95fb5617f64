-- Searching a list whose keys ascend.
use Rattle.std.proofs.Common.{◌≡◌, ℕ, zero, suc, ◌<◌, ◌≤◌, Bool, true, false, List, [], ◌∷◌, length, map, Some, None, refl, sym, ap, ◌∙◌}
use Rattle.std.proofs.Common.{lit≤, arith}
use Rattle.std.specs.Prelude.{slice_index_or, nat_lt}
use Rattle.std.specs.declared.cmp.Ordering.{Ordering}
use Rattle.std.specs.declared.cmp.Ordering.TheVariants.{Less, Equal, Greater}
use Rattle.std.specs.Ordering.{is_eq, ordering_index, ordering_reverse}
use Rattle.std.specs.Cmp.{IsTotalOrder}
use Rattle.std.specs.List.{find, AllByRecursion, AllWithin}
use Rattle.std.specs.List.Sorted.{IsStrictlySortedBy, IsNonDecreasingBy}
use Rattle.std.proofs.lemmas.Bool.{ltb-true, ltb-false}
use Rattle.std.proofs.lemmas.Map.Keys.{sorted_head, sorted_tail}

index_most : (o : Ordering) → ordering_index o ≤ 2
index_most Less = lit≤ tt
index_most Equal = lit≤ tt
index_most Greater = lit≤ tt

module _ {X K : Type 0} (R : K → K → Ordering) (total : IsTotalOrder R) (key : X → K) (q : K) where
  less_before_equal : (a b : K) → R a b ≡ Less → R b q ≡ Equal → R a q ≡ Less
  less_before_equal a b below tie =
      let above : R b a ≡ Greater = total.antisymm b a ∙ ap ordering_reverse below in
      total.antisymm a q ∙ ap ordering_reverse (sym (total.congr b q a tie) ∙ above)

  rises : (a b : K) → R a b ≡ Less → ordering_index (R a q) ≤ ordering_index (R b q)
  rises a b below = at (R b q) refl where
    at : (o : Ordering) → R b q ≡ o → ordering_index (R a q) ≤ ordering_index (R b q)
    at Less e = rw (total.trans a b q below e, e) (lit≤ tt)
    at Equal e = rw (less_before_equal a b below e, e) (lit≤ tt)
    at Greater e = rw e (index_most (R a q))

  above_head : (k : K) (xs : List X) (j : ℕ) (d : X) → AllByRecursion (λ y. R k y ≡ Less) (map key xs) → j < length xs
      → R k (key (slice_index_or xs j d)) ≡ Less
  above_head k [] j d all lt = absurd (omega arith)
  above_head k (x ∷ xs) zero d all lt = all.0
  above_head k (x ∷ xs) (suc j) d all lt = above_head k xs j d all.1 (omega arith)

  pub non_decreasing : (xs : List X) → IsStrictlySortedBy R (map key xs) → IsNonDecreasingBy (λ x. ordering_index (R (key x) q)) xs
  non_decreasing [] sorted i j d le lt = absurd (omega arith)
  non_decreasing (x ∷ xs) sorted zero zero d le lt = omega arith
  non_decreasing (x ∷ xs) sorted zero (suc j) d le lt = rises (key x) (key (slice_index_or xs j d))
      (above_head (key x) xs j d (sorted_head R (key x) (map key xs) sorted) (omega arith))
  non_decreasing (x ∷ xs) sorted (suc i) zero d le lt = absurd (omega arith)
  non_decreasing (x ∷ xs) sorted (suc i) (suc j) d le lt = non_decreasing xs (sorted_tail R (key x) (map key xs) sorted) i j d
      (omega arith) (omega arith)

  abbrev pub ties : X → Bool
  ties x = is_eq (R (key x) q)

  pub found : (xs : List X) (i : ℕ) (d : X) → IsStrictlySortedBy R (map key xs) → i < length xs
      → R (key (slice_index_or xs i d)) q ≡ Equal → find ties xs ≡ Some (slice_index_or xs i d)
  found [] i d sorted lt tie = absurd (omega arith)
  found (x ∷ xs) zero d sorted lt tie = rw tie refl
  found (x ∷ xs) (suc i) d sorted lt tie =
      let below : R (key x) q ≡ Less = less_before_equal (key x) (key (slice_index_or xs i d))
      (above_head (key x) xs i d (sorted_head R (key x) (map key xs) sorted) (omega arith)) tie in
      rw below (found xs i d (sorted_tail R (key x) (map key xs) sorted) (omega arith) tie)

  pub none : (xs : List X) → ((i : ℕ) (d : X) → i < length xs → ties (slice_index_or xs i d) ≡ false) → find ties xs ≡ None
  none [] h = refl
  none (x ∷ xs) h =
      let here : ties x ≡ false = h 0 x (omega arith) in
      rw here (none xs (λ i d lt. h (suc i) d (omega arith)))

  pub absent : (xs : List X) (i : ℕ) → AllWithin (λ x. R (key x) q ≡ Less) xs 0 i
      → AllWithin (λ x. R (key x) q ≡ Greater) xs i (length xs) → find ties xs ≡ None
  absent xs i below above = none xs (λ j d lt. at j d lt (nat_lt j i) refl) where
    at : (j : ℕ) (d : X) → j < length xs → (t : Bool) → nat_lt j i ≡ t → ties (slice_index_or xs j d) ≡ false
    at j d lt true e = rw (below j d (omega arith) (ltb-true j i e)) refl
    at j d lt false e = rw (above j d (ltb-false j i e) lt) refl
