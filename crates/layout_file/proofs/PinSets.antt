-- Sets of pins, and the map that keeps them.
use Rattle.std.proofs.Common.{◌≡◌, ℕ, Bool, true, false, List, [], ◌∷◌, map, Option, Some, None, Result, Ok, Err, length, refl, sym, ap}
use Rattle.std.proofs.Common.{◌∙◌}
use Rattle.std.specs.Prelude.{String, string_bytes, option_map, is_some, ◌||◌, cond, slice_index_or, MatchResult}
use Rattle.std.specs.declared.alloc.Global.{Global}
use Rattle.std.specs.declared.cmp.Ordering.{Ordering}
use Rattle.std.specs.declared.cmp.Ordering.TheVariants.{Less, Equal, Greater}
use Rattle.std.specs.Ordering.{is_eq, match_ordering, ordering_reverse}
use Rattle.std.specs.Cmp.{IsTotalOrder, both_tied, on_total, then_total}
use Rattle.std.specs.Cmp.Lexicographic.{options_total}
use Rattle.std.proofs.lemmas.Cmp.{nat_list_cmp_total}
use Rattle.std.specs.Option.{option_cmp, option_eq}
use Rattle.std.specs.BTreeMap.{insert_entry, is_at}
use Rattle.std.specs.BTreeSet.{replace_key}
use Rattle.std.specs.Map.{lookup, keys_of}
use Rattle.std.specs.List.{list_any, AllByRecursion, find}
use Rattle.std.specs.List.Sorted.{IsStrictlySortedBy, IsBinarySearchResult, IsSearchInRange}
use Rattle.std.specs.Str.{bytes_eq}
use Rattle.std.specs.String.{string_cmp}
use Rattle.std.proofs.lemmas.Map.Text.{is_eq-slice_cmp}
use Rattle.std.proofs.lemmas.Map.Lookups.{exact_bytes}
use Rattle.layout_file.specs.declared.pins.PinKey.{PinKey}
use Rattle.layout_model.specs.Layouts.{Pin, is_pin_of, pin_in}
use Rattle.layout_file.specs.Pins.{bytes_cmp, pin_cmp, is_pinned, with_pin, sought}
use Rattle.layout_file.proofs.Search.{found, absent, non_decreasing}
use Rattle.layout_file.specs.PinEntries.{key_cmp, pin_of_entry}

option_texts : (a b : Option (String Global))
    → option_cmp string_cmp a b ≡ option_cmp bytes_cmp (option_map string_bytes a) (option_map string_bytes b)
option_texts None None = refl
option_texts None (Some b) = refl
option_texts (Some a) None = refl
option_texts (Some a) (Some b) = refl

same_order : (a b : PinKey) (x y : ℕ) → key_cmp a b ≡ pin_cmp (pin_of_entry (a, x)) (pin_of_entry (b, y))
same_order a b x y = rw (option_texts a.unit b.unit) refl

exact_options : (a b : Option (List ℕ)) → option_cmp bytes_cmp a b ≡ Equal → a ≡ b
exact_options None None h = refl
exact_options None (Some b) h = absurd (cc)
exact_options (Some a) None h = absurd (cc)
exact_options (Some a) (Some b) h = ap Some (exact_bytes a b h)

-- pins that no order tells apart have the same names
same_names : (p q : Pin) → pin_cmp p q ≡ Equal → (p.unit ≡ q.unit) × (p.name ≡ q.name)
same_names p q h = at (option_cmp bytes_cmp p.unit q.unit) refl where
  at : (o : Ordering) → option_cmp bytes_cmp p.unit q.unit ≡ o → (p.unit ≡ q.unit) × (p.name ≡ q.name)
  at Less e = absurd (let k : Less ≡ Equal = rw e at h in cc)
  at Equal e = (exact_options p.unit q.unit e, exact_bytes p.name q.name (rw e at h))
  at Greater e = absurd (let k : Greater ≡ Equal = rw e at h in cc)

tie_options : (a b : Option (List ℕ)) → is_eq (option_cmp bytes_cmp a b) ≡ option_eq bytes_eq a b
tie_options None None = refl
tie_options None (Some b) = refl
tie_options (Some a) None = refl
tie_options (Some a) (Some b) = is_eq-slice_cmp a b

-- the order tells pins apart by their names alone
pub tie_is_name : (p q : Pin) → is_eq (pin_cmp p q) ≡ is_pin_of q.unit q.name p
tie_is_name p q = sym (both_tied (option_eq bytes_eq p.unit q.unit) (bytes_eq p.name q.name) (option_cmp bytes_cmp p.unit q.unit)
    (bytes_cmp p.name q.name) (sym (tie_options p.unit q.unit)) (sym (is_eq-slice_cmp p.name q.name)))

pub pin_total : IsTotalOrder pin_cmp
pin_total = then_total (on_total (λ (p : Pin). p.unit) (options_total nat_list_cmp_total))
    (on_total (λ (p : Pin). p.name) nat_list_cmp_total)

tie_reversed : (o : Ordering) → is_eq (ordering_reverse o) ≡ is_eq o
tie_reversed Less = refl
tie_reversed Equal = refl
tie_reversed Greater = refl

key_ties : (k e : PinKey) (x : ℕ) → is_at (key_cmp k) e ≡ is_pin_of (option_map string_bytes k.unit) (string_bytes k.name)
    (pin_of_entry (e, x))
key_ties k e x =
    let p = pin_of_entry (k, 0) in
    let q = pin_of_entry (e, x) in
    ap is_eq (same_order k e 0 x ∙ pin_total.antisymm p q) ∙ tie_reversed (pin_cmp q p) ∙ tie_is_name q p

pub has_key : (k : PinKey) (es : List (PinKey × ℕ))
    → is_some (lookup (is_at (key_cmp k)) es) ≡ is_pinned (map pin_of_entry es) (option_map string_bytes k.unit) (string_bytes k.name)
unfolding is_pinned
has_key k [] = refl
has_key k (e ∷ es) = at (is_at (key_cmp k) e.0) (key_ties k e.0 e.1) (has_key k es) where
  at : (t : Bool) → t ≡ is_pin_of (option_map string_bytes k.unit) (string_bytes k.name) (pin_of_entry e)
      → is_some (lookup (is_at (key_cmp k)) es) ≡ list_any (is_pin_of (option_map string_bytes k.unit) (string_bytes k.name))
      (map pin_of_entry es) → is_some (cond t (Some e.1) (lookup (is_at (key_cmp k)) es)) ≡ (is_pin_of (option_map string_bytes k.unit)
      (string_bytes k.name) (pin_of_entry e) || list_any (is_pin_of (option_map string_bytes k.unit) (string_bytes k.name))
      (map pin_of_entry es))
  at true e rest = rw (← e) refl
  at false e rest = rw (← e) rest

pub map_put : (es : List (PinKey × ℕ)) (k : PinKey) (address : ℕ)
    → map pin_of_entry (insert_entry key_cmp es k address) ≡ with_pin (map pin_of_entry es) (pin_of_entry (k, address))
unfolding with_pin
map_put [] k address = refl
map_put (e ∷ es) k address = at (key_cmp k e.0) (same_order k e.0 address e.1) (map_put es k address) where
  at : (o : Ordering) → o ≡ pin_cmp (pin_of_entry (k, address)) (pin_of_entry e)
      → map pin_of_entry (insert_entry key_cmp es k address) ≡ replace_key pin_cmp (map pin_of_entry es) (pin_of_entry (k, address))
      → map pin_of_entry (match_ordering o ((k, address) ∷ e ∷ es) ((e.0, address) ∷ es)
      (e ∷ insert_entry key_cmp es k address)) ≡ match_ordering (pin_cmp (pin_of_entry (k, address)) (pin_of_entry e))
      (pin_of_entry (k, address) ∷ map pin_of_entry (e ∷ es)) (pin_of_entry (k, address) ∷ map pin_of_entry es)
      (pin_of_entry e ∷ replace_key pin_cmp (map pin_of_entry es) (pin_of_entry (k, address)))
  at Less is rest = rw (← is) refl
  at Equal is rest =
      let names = same_names (pin_of_entry (k, address)) (pin_of_entry e) (sym is) in
      rw (← is, names.0, names.1) refl
  at Greater is rest = rw (← is) (ap (λ (pins : List Pin). pin_of_entry e ∷ pins) rest)

below_all : (k : PinKey) (x : ℕ) (es : List (PinKey × ℕ)) → AllByRecursion (λ y. key_cmp k y ≡ Less) (keys_of es)
    → AllByRecursion (λ p. pin_cmp (pin_of_entry (k, x)) p ≡ Less) (map pin_of_entry es)
below_all k x [] all = tt
below_all k x (e ∷ es) all = (sym (same_order k e.0 x e.1) ∙ all.0, below_all k x es all.1)

pub sorted_pins : (es : List (PinKey × ℕ)) → IsStrictlySortedBy key_cmp (keys_of es) → IsStrictlySortedBy pin_cmp (map pin_of_entry es)
unfolding IsStrictlySortedBy
sorted_pins [] sorted = tt
sorted_pins (e ∷ es) sorted = (below_all e.0 e.1 es sorted.0, sorted_pins es sorted.1)

find_map_pin : (unit : Option (List ℕ)) (name : List ℕ) (es : List (PinKey × ℕ))
    → find (is_pin_of unit name) (map pin_of_entry es) ≡ option_map pin_of_entry
    (find (λ e. is_eq (pin_cmp (pin_of_entry e) (sought unit name))) es)
find_map_pin unit name [] = refl
find_map_pin unit name (e ∷ es) = at (is_pin_of unit name (pin_of_entry e)) (tie_is_name (pin_of_entry e) (sought unit name))
    (find_map_pin unit name es) where
      at : (t : Bool) → is_eq (pin_cmp (pin_of_entry e) (sought unit name)) ≡ t
          → find (is_pin_of unit name) (map pin_of_entry es) ≡ option_map pin_of_entry
          (find (λ e. is_eq (pin_cmp (pin_of_entry e) (sought unit name))) es)
          → cond t (Some (pin_of_entry e)) (find (is_pin_of unit name) (map pin_of_entry es)) ≡ option_map pin_of_entry
          (cond (is_eq (pin_cmp (pin_of_entry e) (sought unit name))) (Some e)
          (find (λ e. is_eq (pin_cmp (pin_of_entry e) (sought unit name))) es))
      at true is rest = rw is refl
      at false is rest = rw is rest

-- what a binary search says of the pin that is looked for
pub searched : (unit : Option (List ℕ)) (name : List ℕ) (es : List (PinKey × ℕ)) (r : Result ℕ ℕ)
    → IsStrictlySortedBy pin_cmp (map pin_of_entry es) → IsSearchInRange r (length es)
    → IsBinarySearchResult (λ e. pin_cmp (pin_of_entry e) (sought unit name)) es r
    → MatchResult r (λ i. (d : PinKey × ℕ) → pin_in (map pin_of_entry es) unit name ≡ Some (slice_index_or es i d).1)
    (λ i. pin_in (map pin_of_entry es) unit name ≡ None)
searched unit name es (Ok i) sorted bound result = λ d.
    rw (find_map_pin unit name es, found pin_cmp pin_total pin_of_entry (sought unit name) es i d sorted bound (result d)) refl
searched unit name es (Err i) sorted bound result =
    let split = result (non_decreasing pin_cmp pin_total pin_of_entry (sought unit name) es sorted) in
    rw (find_map_pin unit name es, absent pin_cmp pin_total pin_of_entry (sought unit name) es i split.0 split.1) refl
