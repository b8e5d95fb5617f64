-- A map from names in scopes to numbers.
use Rattle.std.proofs.Common.{◌≡◌, ℕ, Bool, true, false, List, [], ◌∷◌, cond, refl, sym, ◌∙◌, ap}
use Rattle.std.specs.Prelude.{Option, Some}
use Rattle.std.specs.List.{AllByRecursion}
use Rattle.std.specs.List.Sorted.{IsStrictlySortedBy}
use Rattle.std.specs.Map.{lookup, keys_of}
use Rattle.std.specs.declared.cmp.Ordering.{Ordering}
use Rattle.std.specs.declared.cmp.Ordering.TheVariants.{Less, Equal, Greater}
use Rattle.std.specs.Ordering.{nat_cmp, is_eq, ordering_then}
use Rattle.std.specs.BTreeMap.{insert_entry}
use Rattle.std.proofs.lemmas.Cmp.{alike_right}
use Rattle.asm_program.specs.declared.codes.CodedName.{CodedName}
use Rattle.asm_program.specs.Coded.{by_coded}
use Rattle.asm_program.specs.Scopes.{is_same}
use Rattle.asm_program.specs.Numbered.{numbered, by_name}
use Rattle.asm_program.proofs.CodedNames.{coded_is}
use Rattle.asm_program.proofs.ScopedNames.{by_name_total, same_is}

abbrev pub Pair : Type 0
Pair = CodedName × ℕ

abbrev pub name_of_pair : Pair → ℕ × List ℕ
name_of_pair k = (k.1, k.0.name.now)

abbrev pub by_pair : Pair → Pair → Ordering
by_pair j k = by_name (name_of_pair j) (name_of_pair k)

-- by the codes that are kept
abbrev pub by_key : Pair → Pair → Ordering
by_key j k = ordering_then (by_coded j.0 k.0) (nat_cmp j.1 k.1)

pub pair_order : by_key ≡ by_pair
pair_order = λ i j k. ordering_then (coded_is j.0 k.0 i) (nat_cmp j.1 k.1)

abbrev pub is_pair : ℕ × List ℕ → Pair → Bool
is_pair q k = is_eq (by_name q (name_of_pair k))

eq_is : (o : Ordering) → is_eq o ≡ true → o ≡ Equal
eq_is Less h = cc
eq_is Equal h = refl
eq_is Greater h = cc

-- what is the same as a name passes as it does
same_alike : (q x y : ℕ × List ℕ) → is_eq (by_name q x) ≡ true → is_eq (by_name q y) ≡ is_eq (by_name x y)
same_alike q x y h = ap is_eq (by_name_total.congr q x y (eq_is _ h))

equal_entry : (a b : Bool) (v w : ℕ) (o : Option ℕ) → a ≡ b → cond a (Some v) o ≡ cond b (Some v) (cond a (Some w) o)
equal_entry true true v w o h = refl
equal_entry true false v w o h = cc
equal_entry false true v w o h = cc
equal_entry false false v w o h = refl

greater_entry : (a b : Bool) (v w : ℕ) (o : Option ℕ) → (a ≡ true → b ≡ false)
    → cond a (Some w) (cond b (Some v) o) ≡ cond b (Some v) (cond a (Some w) o)
greater_entry true true v w o h = let e = h refl in cc
greater_entry true false v w o h = refl
greater_entry false b v w o h = refl

not_both : (b : Bool) → (b ≡ true → ⊥) → b ≡ false
not_both true p = absurd (p refl)
not_both false p = refl

-- a name cannot be the same as two that differ
apart : (q : ℕ × List ℕ) (k e : Pair) → by_pair k e ≡ Greater → is_pair q e ≡ true → is_pair q k ≡ false
apart q k e h at = not_both (is_pair q k) (λ here.
    let s : is_pair q e ≡ is_eq (by_pair k e) = same_alike q (name_of_pair k) (name_of_pair e) here in
    let g : is_eq (by_pair k e) ≡ false = ap is_eq h in cc)

entry_step : (q : ℕ × List ℕ) (e : Pair × ℕ) (es : List (Pair × ℕ)) (k : Pair) (v : ℕ) (o : Ordering) → by_pair k e.0 ≡ o
    → lookup (is_pair q) (insert_entry by_pair es k v) ≡ cond (is_pair q k) (Some v) (lookup (is_pair q) es)
    → lookup (is_pair q) (insert_entry by_pair (e ∷ es) k v) ≡ cond (is_pair q k) (Some v) (lookup (is_pair q) (e ∷ es))
entry_step q e es k v Less h again = rw h refl
entry_step q e es k v Equal h again =
    rw h (equal_entry (is_pair q e.0) (is_pair q k) v e.1 (lookup (is_pair q) es)
    (ap is_eq (sym (alike_right by_name_total (name_of_pair k) (name_of_pair e.0) q h))))
entry_step q e es k v Greater h again =
    rw h (ap (λ o. cond (is_pair q e.0) (Some e.1) o) again
    ∙ greater_entry (is_pair q e.0) (is_pair q k) v e.1 (lookup (is_pair q) es) (apart q k e.0 h))

insert_found : (q : ℕ × List ℕ) (es : List (Pair × ℕ)) (k : Pair) (v : ℕ)
    → lookup (is_pair q) (insert_entry by_pair es k v) ≡ cond (is_pair q k) (Some v) (lookup (is_pair q) es)
insert_found q [] k v = refl
insert_found q (e ∷ es) k v = entry_step q e es k v (by_pair k e.0) refl (insert_found q es k v)

-- ---- as it is seen

pub get_is : (q : ℕ × List ℕ) (es : List (Pair × ℕ)) → lookup (is_pair q) es ≡ lookup (is_same q) (numbered es)
get_is q [] = refl
get_is q (e ∷ es) = λ k. cond (same_is q (name_of_pair e.0) k) (Some e.1) (get_is q es k)

pub set_is : (q : ℕ × List ℕ) (es : List (Pair × ℕ)) (k : Pair) (v : ℕ)
    → lookup (is_same q) (numbered (insert_entry by_pair es k v)) ≡ cond (is_same q (name_of_pair k)) (Some v)
    (lookup (is_same q) (numbered es))
set_is q es k v =
    sym (get_is q (insert_entry by_pair es k v))
    ∙ (insert_found q es k v
    ∙ (λ i. cond (same_is q (name_of_pair k) i) (Some v) (get_is q es i)))

-- ---- in the order of the map

below_all : (x : Pair) (es : List (Pair × ℕ)) → AllByRecursion (λ y. by_pair x y ≡ Less) (keys_of es)
    → AllByRecursion (λ y. by_name (name_of_pair x) y ≡ Less) (keys_of (numbered es))
below_all x [] h = tt
below_all x (e ∷ es) h = (h.0, below_all x es h.1)

pub order_seen : (es : List (Pair × ℕ)) → IsStrictlySortedBy by_pair (keys_of es) → IsStrictlySortedBy by_name (keys_of (numbered es))
unfolding IsStrictlySortedBy
order_seen [] h = tt
order_seen (e ∷ es) h = (below_all e.0 es h.0, order_seen es h.1)
