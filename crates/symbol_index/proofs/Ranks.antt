-- How the starts of the names at an index's places stand to a name that is looked for: 0 below it, 1 equal, 2 above.
use Rattle.std.proofs.Common.{◌≡◌, ℕ, suc, ◌+◌, ◌-◌, ◌*◌, ◌^◌, ◌<◌, ◌≤◌, inl, inr, Bool, true, false, List, length, get_or, take, refl, sym}
use Rattle.std.proofs.Common.{◌∙◌, ap, subst, arith}
use Rattle.std.proofs.Math.Nat.{pow-succ', mul-le-mul_left}
use Rattle.std.proofs.lemmas.Bool.{cases_lt, lt-ltb, le-ltb}
use Rattle.std.proofs.lemmas.Bool.Decides.{same_from_decides}
use Rattle.std.proofs.lemmas.Slice.Eq.{bytes_eq-Decides}
use Rattle.std.proofs.lemmas.List.Sums.{position_or_len_is, fails_before_first}
use Rattle.std.specs.List.{position_or_len, list_any, range_with_len}
use Rattle.std.specs.Prelude.{Option, Some, None, position, bytes_eq, map, All, option_map, slice_get, [], ◌∷◌, ◌||◌}
use Rattle.std.specs.declared.cmp.Ordering.{Ordering}
use Rattle.std.specs.declared.cmp.Ordering.TheVariants.{Less, Equal, Greater}
use Rattle.std.specs.Cmp.{IsTotalOrder}
use Rattle.std.specs.Cmp.Lexicographic.{slice_cmp}
use Rattle.std.specs.Ordering.{nat_cmp, ordering_index, ordering_then, is_lt, is_eq}
use Rattle.std.specs.List.Sorted.{IsSortedBy, IsPermutation}
use Rattle.std.proofs.lemmas.Cmp.{nat_list_cmp_total, nat_cmp_total, on_total, then_total}
use Rattle.std.proofs.lemmas.List.Sorted.{searchable_from_sorted, IsPermutation-map, All-permutation, list_any-IsPermutation}
use Rattle.std.proofs.lemmas.Map.Text.{is_eq-slice_cmp}
use Rattle.std.proofs.lemmas.Option.{slice_get_cases, get_or_from_slice_get, slice_get-map, slice_get_read}
use Rattle.std.proofs.lemmas.List.{same_lists, get_or_default, get_or_past}
use Rattle.std.proofs.lemmas.List.Elements.{All-from_get_or, All-get_or}
use Rattle.std.proofs.lemmas.List.Folds.{list_any_none}
use Rattle.std.proofs.lemmas.List.FromFn.{get_or-range_with_len, length-range_with_len, get_or-map-range_with_len}
use Rattle.std.proofs.lemmas.List.FromFn.{length-map-range_with_len}
use Rattle.image_model.specs.Image.{Symbol}
use Rattle.image_model.specs.declared.symbol.TheConstants.{NAME_START_BYTES}
use Rattle.image_model.specs.Names.{name_start_at}
use Rattle.image_model.proofs.Starts.{whole_start, start_whole}
use Rattle.symbol_index.specs.Order.{order, comes_before, IsIndex}
use Rattle.symbol_index.specs.Index.{Index, no_symbol, symbol_at, has_name, in_order, first_place}

pub order_total : (symbols : List Symbol) → IsTotalOrder (order symbols)
order_total symbols = then_total (on_total (name_start_at symbols) nat_list_cmp_total) nat_cmp_total

-- where the name at a place stands
abbrev pub rank : Index → List ℕ → ℕ → ℕ
rank x name k = ordering_index (slice_cmp nat_cmp (name_start_at x.symbols (get_or x.places k 0)) name)

not_less_first : (o p : Ordering) → is_lt (ordering_then o p) ≡ false → is_lt o ≡ false
not_less_first Less p h = h
not_less_first Equal p h = refl
not_less_first Greater p h = refl

by_name : (symbols : List Symbol) (xs : List ℕ) → IsSortedBy (comes_before symbols) xs
    → IsSortedBy (λ i j. is_lt (slice_cmp nat_cmp (name_start_at symbols i) (name_start_at symbols j))) xs
by_name symbols xs up k d a b = not_less_first _ _ (up k d a b)

-- ranks rise along the places
pub ranks_rise : (x : Index) (name : List ℕ) → IsIndex x.symbols x.places
    → (i j : ℕ) → i ≤ j → j < length x.places → rank x name i ≤ rank x name j
ranks_rise x name h i j = searchable_from_sorted nat_list_cmp_total (name_start_at x.symbols) x.places name
    (by_name x.symbols x.places h.ordered) i j 0

eq_by_index : (o : Ordering) → ordering_index o ≡ 1 → is_eq o ≡ true
eq_by_index Less h = absurd (omega (arith, h))
eq_by_index Equal h = refl
eq_by_index Greater h = absurd (omega (arith, h))

not_eq_by_index : (o : Ordering) → (ordering_index o ≡ 1 → ⊥) → is_eq o ≡ false
not_eq_by_index Less h = refl
not_eq_by_index Equal h = absurd (h refl)
not_eq_by_index Greater h = refl

-- the symbol with number i has the name
abbrev pub is_named : Index → List ℕ → ℕ → Bool
is_named x name i = has_name name (symbol_at x.symbols i)

start_is : (symbols : List Symbol) (i : ℕ) → name_start_at symbols i ≡ take NAME_START_BYTES (symbol_at symbols i).name
start_is symbols i = elim (slice_get_cases symbols i).1 [
  | inl (s, inside, is, same) ↦ rw (is, get_or_from_slice_get symbols i s no_symbol is) refl
  | inr (past, is) ↦ rw (is, get_or_past symbols i no_symbol past) refl
]

-- a name that is shorter than a start may be is told by the start
same_by_start : (whole name : List ℕ) → length name < NAME_START_BYTES → bytes_eq (take NAME_START_BYTES whole) name ≡ bytes_eq whole name
same_by_start whole name short =
    let one = bytes_eq-Decides whole name in
    same_from_decides _ _ (bytes_eq-Decides (take NAME_START_BYTES whole) name) (
      (λ e. ap (take NAME_START_BYTES) (one.0 e) ∙ start_whole NAME_START_BYTES name (omega (arith, short))),
      (λ e. one.1 (whole_start NAME_START_BYTES whole name short e)),
    )

start_tells : (x : Index) (name : List ℕ) (i : ℕ) → length name < NAME_START_BYTES
    → is_eq (slice_cmp nat_cmp (name_start_at x.symbols i) name) ≡ is_named x name i
start_tells x name i short =
    is_eq-slice_cmp (name_start_at x.symbols i) name
    ∙ (ap (λ start. bytes_eq start name) (start_is x.symbols i) ∙ same_by_start (symbol_at x.symbols i).name name short)

pub named_at : (x : Index) (name : List ℕ) (k : ℕ) → length name < NAME_START_BYTES → rank x name k ≡ 1
    → is_named x name (get_or x.places k 0) ≡ true
named_at x name k short h = sym (start_tells x name (get_or x.places k 0) short) ∙ eq_by_index _ h

pub not_named_at : (x : Index) (name : List ℕ) (k : ℕ) → length name < NAME_START_BYTES → (rank x name k ≡ 1 → ⊥)
    → is_named x name (get_or x.places k 0) ≡ false
not_named_at x name k short h = sym (start_tells x name (get_or x.places k 0) short) ∙ not_eq_by_index _ h

index_by_eq : (o : Ordering) → is_eq o ≡ true → ordering_index o ≡ 1
index_by_eq Less h = cc
index_by_eq Equal h = refl
index_by_eq Greater h = cc

pub rank_of_named : (x : Index) (name : List ℕ) (k : ℕ) → length name < NAME_START_BYTES → is_named x name (get_or x.places k 0) ≡ true
    → rank x name k ≡ 1
rank_of_named x name k short h = index_by_eq _ (start_tells x name (get_or x.places k 0) short ∙ h)

rank_most : (o : Ordering) → ordering_index o ≤ 2
rank_most Less = omega arith
rank_most Equal = omega arith
rank_most Greater = omega arith

-- what a search between low and high knows, where r k is the rank of place k among n
pub record Narrowed (r : ℕ → ℕ) (n low high : ℕ) (hit : Bool) : Type 0 where
  pub ordered : low ≤ high
  pub within : high ≤ n
  pub below : (k : ℕ) → k < low → r k ≡ 0
  pub above : (k : ℕ) → high ≤ k → k < n → 0 < r k
  pub struck : hit ≡ true → (high < n) × (r high ≡ 1)
  pub missed : hit ≡ false → (k : ℕ) → high ≤ k → k < n → r k ≡ 2

abbrev pub Rises : (ℕ → ℕ) → ℕ → Type 0
Rises r n = (i j : ℕ) → i ≤ j → j < n → r i ≤ r j

pub narrow_less : (r : ℕ → ℕ) (n low high : ℕ) (hit : Bool) (m : ℕ) → Rises r n → Narrowed r n low high hit → low ≤ m → m < high → r m ≡ 0
    → Narrowed r n (m + 1) high hit
narrow_less r n low high hit m rise h a b at = record {
  ordered = omega arith;
  within = h.within;
  below = λ k lt. omega (arith, rise k m (omega arith) (omega (arith, h.within)));
  above = h.above;
  struck = h.struck;
  missed = h.missed;
}

pub narrow_equal : (r : ℕ → ℕ) (n low high : ℕ) (hit : Bool) (m : ℕ) → Rises r n → Narrowed r n low high hit → low ≤ m → m < high → r m ≡ 1
    → Narrowed r n low m true
narrow_equal r n low high hit m rise h a b at = record {
  ordered = a;
  within = omega (arith, h.within);
  below = h.below;
  above = λ k c d. omega (arith, rise m k c d);
  struck = λ _. (omega (arith, h.within), at);
  missed = λ no. cc;
}

pub narrow_greater : (r : ℕ → ℕ) (n low high : ℕ) (hit : Bool) (m : ℕ) → Rises r n → ((k : ℕ) → r k ≤ 2) → Narrowed r n low high hit
    → low ≤ m → m < high → r m ≡ 2
    → Narrowed r n low m false
narrow_greater r n low high hit m rise most h a b at = record {
  ordered = a;
  within = omega (arith, h.within);
  below = h.below;
  above = λ k c d. omega (arith, rise m k c d);
  struck = λ no. cc;
  missed = λ _ k c d. omega (arith, rise m k c d, most k);
}

pub ranks_most : (x : Index) (name : List ℕ) (k : ℕ) → rank x name k ≤ 2
ranks_most x name k = rank_most _

-- p is two to the steps so far, w the places left
pub record Spent (n w old now : ℕ) : Type 0 where
  pub counted : old ≤ now
  pub left : 2 ^ (now - old) * w ≤ n
  pub spent : 2 ^ (now - old) ≤ 2 * n + 1

halved : (p n w v : ℕ) → p * w ≤ n → 2 * v ≤ w → (2 * p) * v ≤ n
halved p n w v h k = omega (arith, mul-le-mul_left p k)

one_more : (p n w : ℕ) → p * w ≤ n → 0 < w → 2 * p ≤ 2 * n + 1
one_more p n w h k = let k' : 1 ≤ w = omega arith in omega (arith, mul-le-mul_left p k')

twice : (old now : ℕ) → old ≤ now → 2 ^ (now + 1 - old) ≡ 2 * 2 ^ (now - old)
twice old now h = let e : now + 1 - old ≡ suc (now - old) = omega arith in rw e (pow-succ' 2 (now - old))

pub spend : (n w v old now : ℕ) → Spent n w old now → 0 < w → 2 * v ≤ w → Spent n v old (now + 1)
spend n w v old now h some half = record {
  counted = omega (arith, h.counted);
  left = rw (twice old now h.counted) (halved (2 ^ (now - old)) n w v h.left half);
  spent = rw (twice old now h.counted) (one_more (2 ^ (now - old)) n w h.left some);
}

-- what the search has found in the end
pub found_there : (x : Index) (name : List ℕ) (low high : ℕ) (hit : Bool) → length name < NAME_START_BYTES
    → Narrowed (rank x name) (length x.places) low high hit → high ≤ low → hit ≡ true → Some low ≡ first_place x name
found_there x name low high hit short h stop yes_hit =
    let same : low ≡ high = omega (arith, h.ordered) in
    let at : rank x name low ≡ 1 = rw same (h.struck yes_hit).1 in
    let within : low < length x.places = omega (arith, (h.struck yes_hit).0) in
    let p = is_named x name in
    let is : position_or_len p x.places ≡ low =
    position_or_len_is p x.places low 0 (omega arith) (λ k lt. not_named_at x name k short (λ one. omega (arith, h.below k lt)))
    (λ _. named_at x name low short at) in
    rw (is, lt-ltb _ _ within) refl

pub found_nowhere : (x : Index) (name : List ℕ) (low high : ℕ) (hit : Bool) → length name < NAME_START_BYTES
    → Narrowed (rank x name) (length x.places) low high hit → high ≤ low → hit ≡ false
    → (let none : Option ℕ = None in none ≡ first_place x name)
found_nowhere x name low high hit short h stop no_hit =
    let p = is_named x name in
    let is : position_or_len p x.places ≡ length x.places =
    position_or_len_is p x.places (length x.places) 0 (omega arith)
    (λ k lt. not_named_at x name k short (λ one. elim (cases_lt k low) [
      | inl less ↦ omega (arith, h.below k less)
      | inr more ↦ omega (arith, h.missed no_hit k (omega arith) lt)
    ]))
    (λ absurdly. absurd (omega arith)) in
    let same : length x.places ≤ length x.places = omega arith in rw (is, le-ltb _ _ same) refl

-- ---- the symbols in order are the symbols in another order

at_all : (symbols : List Symbol) → map (symbol_at symbols) (range_with_len 0 (length symbols)) ≡ symbols
at_all symbols =
    same_lists _ _ (length-map-range_with_len (symbol_at symbols) 0 (length symbols))
    (λ k d lt. let lt' : k < length symbols = omega (arith, lt, length-map-range_with_len (symbol_at symbols) 0 (length symbols)) in
    get_or-map-range_with_len (symbol_at symbols) 0 (length symbols) k k d lt' (omega arith) ∙ get_or_default symbols k no_symbol d lt')

pub in_order_moves : (x : Index) → IsIndex x.symbols x.places → IsPermutation x.symbols (in_order x)
in_order_moves x h =
    let P : List Symbol → Type 0 = λ l. IsPermutation l (in_order x) in
    subst P (at_all x.symbols) (IsPermutation-map (symbol_at x.symbols) _ _ h.each)

-- each place has the number of a symbol
pub places_below : (symbols : List Symbol) (places : List ℕ) → IsIndex symbols places → All (λ i. i < length symbols) places
places_below symbols places h =
    All-permutation (λ i. i < length symbols) _ _ h.each
    (All-from_get_or (λ i. i < length symbols) _ 0 (λ i lt. let e = length-range_with_len 0 (length symbols) in
    let lt' : i < length symbols = omega arith in
    rw (get_or-range_with_len 0 (length symbols) i 0 lt') (omega arith)))

-- where no place has the name, no symbol has it
none_pass : (p : ℕ → Bool) (xs : List ℕ) → (let none : Option ℕ = None in none ≡ position p xs) → list_any p xs ≡ false
none_pass p xs h = list_any_none p xs (All-from_get_or (λ x. p x ≡ false) xs 0 (λ k lt.
    elim (cases_lt (position_or_len p xs) (length xs)) [
      | inl less ↦ let e = lt-ltb _ _ less in cc
      | inr more ↦ fails_before_first p xs k 0 (omega arith)
    ]))

list_any-map : (p : Symbol → Bool) (f : ℕ → Symbol) (xs : List ℕ) → list_any p (map f xs) ≡ list_any (λ x. p (f x)) xs
list_any-map p f [] = refl
list_any-map p f (x ∷ xs) = ap (λ b. p (f x) || b) (list_any-map p f xs)

pub nobody_named : (x : Index) (name : List ℕ) → IsIndex x.symbols x.places → (let none : Option ℕ = None in none ≡ first_place x name)
    → list_any (λ (s : Symbol). bytes_eq s.name name) x.symbols ≡ false
nobody_named x name h e =
    list_any-IsPermutation (λ (s : Symbol). bytes_eq s.name name) x.symbols (in_order x) (in_order_moves x h)
    ∙ (list_any-map (λ (s : Symbol). bytes_eq s.name name) (symbol_at x.symbols) x.places ∙ none_pass (is_named x name) x.places e)

-- what a read of a place and a read of its symbol say together
pub seen_at : {X : Type 0} (f : Symbol → X) (x : Index) (place i : ℕ) (r : X) → place < length x.places → i ≡ get_or x.places place i
    → option_map f (slice_get x.symbols i) ≡ Some r → option_map f (slice_get (in_order x) place) ≡ Some r
seen_at f x place i r lt is at =
    elim (slice_get_cases x.symbols i).1 [
      | inl (s, inside, has, same) ↦
          ap (option_map f) (slice_get-map (symbol_at x.symbols) x.places place
          ∙ ap (option_map (symbol_at x.symbols)) (slice_get_read x.places (length x.places) place i refl lt is))
          ∙ (ap (λ z. Some (f z)) (get_or_from_slice_get x.symbols i s no_symbol has) ∙ (sym (ap (option_map f) has) ∙ at))
      | inr (past, has) ↦ let e = ap (option_map f) has in cc
    ]

pub place_inside : (x : Index) (place i : ℕ) → IsIndex x.symbols x.places → place < length x.places → i ≡ get_or x.places place i
    → i < length x.symbols
place_inside x place i h lt is =
    rw is (All-get_or (λ j. j < length x.symbols) x.places place i lt (places_below x.symbols x.places h))

pub name_seen : (x : Index) (name start : List ℕ) (place i : ℕ) (r : Bool) → length name < NAME_START_BYTES → place < length x.places
    → i ≡ get_or x.places place i → start ≡ name_start_at x.symbols i → r ≡ bytes_eq start name
    → option_map (has_name name) (slice_get (in_order x) place) ≡ Some r
name_seen x name start place i r short lt is shown told =
    let b : has_name name (symbol_at x.symbols i) ≡ r =
    sym (same_by_start (symbol_at x.symbols i).name name short)
    ∙ (ap (λ n. bytes_eq n name) (sym (start_is x.symbols i)) ∙ (ap (λ n. bytes_eq n name) (sym shown) ∙ sym told)) in
    ap (option_map (has_name name)) (slice_get-map (symbol_at x.symbols) x.places place
    ∙ ap (option_map (symbol_at x.symbols)) (slice_get_read x.places (length x.places) place i refl lt is))
    ∙ ap (λ z. Some z) b
