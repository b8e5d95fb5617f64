-- The symbols that bear a name stand together in an index, from the first place that bears it.
use Rattle.std.proofs.lemmas.Slice.Eq.{bytes_eq-Decides}
use Rattle.std.proofs.Common.{◌≡◌, ℕ, suc, ◌+◌, ◌<◌, ◌≤◌, Bool, true, false, List, [], ◌∷◌, ◌++◌, length, get_or, take, drop, map, refl}
use Rattle.std.proofs.Common.{sym, ◌∙◌, ap, arith}
use Rattle.std.specs.Prelude.{Option, Some, None, position, filter, bytes_eq}
use Rattle.std.proofs.lemmas.List.Quantifiers.{position-Some}
use Rattle.std.specs.Prelude.{◌&&◌, ◌==◌}
use Rattle.std.specs.List.{list_any}
use Rattle.std.proofs.lemmas.Bool.Decides.{nat_tests}
use Rattle.std.proofs.lemmas.List.Sorted.{list_any-IsPermutation}
use Rattle.image_model.specs.Image.{Symbol}
use Rattle.link_model.specs.Candidates.{is_candidate_for, is_candidate, serves}
use Rattle.image_model.specs.declared.symbol.TheConstants.{NAME_START_BYTES}
use Rattle.symbol_bind.specs.Offers.{served}
use Rattle.symbol_bind.proofs.SetLemmas.{mem, same_set}
use Rattle.link_model.specs.Sets.{set_of}
use Rattle.symbol_index.specs.Order.{IsIndex}
use Rattle.symbol_index.specs.Index.{Index, in_order, symbol_at, no_symbol, has_name, first_place}
use Rattle.symbol_index.proofs.Ranks.{in_order_moves, rank, ranks_rise, is_named, rank_of_named, named_at, not_named_at}
use Rattle.std.proofs.Common.{◌≢◌, inl, inr, cond, length-take, length-drop, append-nil}
use Rattle.std.specs.Prelude.{slice_get, option_map}
use Rattle.image_model.specs.declared.symbol.SymbolFields.{SymbolFields}
use Rattle.image_model.specs.Names.{fields_of}
use Rattle.std.specs.List.{position_or_len}
use Rattle.std.proofs.lemmas.Bool.{cases_lt, lt-ltb}
use Rattle.std.proofs.lemmas.List.{get_or-map, get_or-take, get_or-drop, map-append, take-append-drop, length-map}
use Rattle.std.proofs.lemmas.List.Sums.{fails_before_first}
use Rattle.std.proofs.lemmas.List.Elements.{filter-append, filter_more}
use Rattle.std.proofs.lemmas.Option.{get_or_from_slice_get, slice_get_cases}

-- nothing passes
none_kept : {X : Type 0} (p : X → Bool) (d : X) (xs : List X) → ((k : ℕ) → k < length xs → p (get_or xs k d) ≡ false) → filter p xs ≡ []
none_kept p d [] h = refl
none_kept p d (x ∷ xs) h = rw (h 0 (omega arith)) (none_kept p d xs (λ k lt. h (suc k) (omega arith)))

-- the served values of symbols in another order have the same members
served_mem : (v : ℕ) (name : List ℕ) (static : Bool) (xs : List Symbol)
    → mem v (served name static xs) ≡ list_any (λ s. is_candidate_for name static s && (s.value == v)) xs
served_mem v name static [] = refl
served_mem v name static (x ∷ xs) = let again = served_mem v name static xs in grind (arith, nat_tests)

pub same_candidates : (x : Index) (name : List ℕ) (static : Bool) → IsIndex x.symbols x.places
    → set_of (served name static (in_order x)) ≡ set_of (served name static x.symbols)
same_candidates x name static h =
    same_set _ _ (λ v. served_mem v name static (in_order x) ∙
    (sym (list_any-IsPermutation (λ s. is_candidate_for name static s && (s.value == v)) x.symbols (in_order x) (in_order_moves x h))
    ∙ sym (served_mem v name static x.symbols)))

-- ---- where the neighbours of a name stand

-- the symbol at a place
abbrev pub symbol_in : Index → ℕ → Symbol
symbol_in x k = get_or (in_order x) k no_symbol

in_order_length : (x : Index) → length (in_order x) ≡ length x.places
in_order_length x = length-map x.places (symbol_at x.symbols)

symbol_in_is : (x : Index) (k : ℕ) → k < length x.places → symbol_in x k ≡ symbol_at x.symbols (get_or x.places k 0)
symbol_in_is x k lt = get_or-map (symbol_at x.symbols) x.places k 0 no_symbol lt

named_alone : (a b c : Bool) → b ≡ true → (a && b && c) ≡ (a && c)
named_alone a b true h = grind (arith, nat_tests)
named_alone a b false h = grind (arith, nat_tests)

named_never : (a b c : Bool) → b ≡ false → (a && b && c) ≡ false
named_never a true c h = grind (arith, nat_tests)
named_never a false c h = grind (arith, nat_tests)

unserved : (name : List ℕ) (static : Bool) (s : Symbol) → bytes_eq s.name name ≡ false → is_candidate_for name static s ≡ false
unserved name static s h = named_never (is_candidate s) (bytes_eq s.name name) (serves static s) h

served_none : (name : List ℕ) (static : Bool) (xs : List Symbol)
    → ((k : ℕ) → k < length xs → bytes_eq (get_or xs k no_symbol).name name ≡ false) → served name static xs ≡ []
served_none name static xs h = rw (none_kept (is_candidate_for name static) no_symbol xs
    (λ k lt. unserved name static (get_or xs k no_symbol) (h k lt))) refl

served_append : (name : List ℕ) (static : Bool) (xs ys : List Symbol)
    → served name static (xs ++ ys) ≡ served name static xs ++ served name static ys
served_append name static xs ys = ap (map (λ (s : Symbol). s.value)) (filter-append (is_candidate_for name static) xs ys)
    ∙ map-append (λ (s : Symbol). s.value) _ _

at_place : (x : Index) (name : List ℕ) (k : ℕ) → k < length x.places → is_named x name (get_or x.places k 0) ≡ false
    → bytes_eq (symbol_in x k).name name ≡ false
at_place x name k lt h = rw (symbol_in_is x k lt) h

-- nothing before the first place that bears the name is served
pub before_first : (x : Index) (name : List ℕ) (static : Bool) (first : ℕ) → first_place x name ≡ Some first
    → served name static (take first (in_order x)) ≡ []
before_first x name static first h =
    let found = position-Some (is_named x name) x.places first 0 h in
    served_none name static (take first (in_order x)) (λ k lt.
    let below : k < first = omega (arith, length-take first (in_order x)) in
    rw (get_or-take first (in_order x) k no_symbol below) (at_place x name k (omega (arith, found.0)) (found.2 k below)))

none_passes : {X : Type 0} (p : X → Bool) (d : X) (xs : List X) → (let none : Option ℕ = None in position p xs ≡ none) → (k : ℕ)
    → k < length xs → p (get_or xs k d) ≡ false
none_passes p d xs h k lt =
    elim (cases_lt (position_or_len p xs) (length xs)) [
      | inl less ↦ let e = lt-ltb _ _ less in cc
      | inr more ↦ fails_before_first p xs k d (omega arith)
    ]

pub nobody : (x : Index) (name : List ℕ) (static : Bool) → (let none : Option ℕ = None in first_place x name ≡ none)
    → served name static (in_order x) ≡ []
nobody x name static h =
    served_none name static (in_order x) (λ k lt. let lt' : k < length x.places = omega (arith, in_order_length x) in
    at_place x name k lt' (none_passes (is_named x name) 0 x.places h k lt'))

differ : {b : Bool} → b ≡ true → b ≡ false → ⊥
differ a b = cc

-- from a place behind the first that does not bear the name, nothing is served
pub rest_unserved : (x : Index) (name : List ℕ) (static : Bool) (first place : ℕ) → length name < NAME_START_BYTES
    → IsIndex x.symbols x.places → first_place x name ≡ Some first → first ≤ place → place < length x.places
    → bytes_eq (symbol_in x place).name name ≡ false → served name static (in_order x) ≡ served name static (take place (in_order x))
rest_unserved x name static first place short index h after within differs =
    let found = position-Some (is_named x name) x.places first 0 h in
    let one : rank x name first ≡ 1 = rank_of_named x name first short found.1 in
    let here : is_named x name (get_or x.places place 0) ≡ false = rw symbol_in_is at differs in
    let two : rank x name place ≢ 1 = λ e. absurd (differ (named_at x name place short e) here) in
    let empty = served_none name static (drop place (in_order x)) (λ k lt.
    let lt' : place + k < length x.places = omega (arith, in_order_length x, length-drop place (in_order x)) in
    let above : rank x name place ≤ rank x name (place + k) = ranks_rise x name index place (place + k) (omega arith) lt' in
    let start : rank x name first ≤ rank x name place = ranks_rise x name index first place after within in
    rw (get_or-drop place (in_order x) k no_symbol)
    (at_place x name (place + k) lt' (not_named_at x name (place + k) short (λ e. two (omega arith))))) in
    ap (served name static) (sym (take-append-drop place (in_order x)))
    ∙ (served_append name static (take place (in_order x)) (drop place (in_order x))
    ∙ (ap (λ l. served name static (take place (in_order x)) ++ l) empty ∙ append-nil _))

-- one value or none
one_value : (b : Bool) (s : Symbol) → map (λ (s : Symbol). s.value) (cond b (s ∷ []) []) ≡ cond b (s.value ∷ []) []
one_value true s = refl
one_value false s = refl

served_more : (name : List ℕ) (static : Bool) (xs : List Symbol) (i : ℕ) (s : Symbol) → i < length xs → get_or xs i s ≡ s
    → served name static (take (i + 1) xs) ≡ served name static (take i xs) ++ cond (is_candidate_for name static s) (s.value ∷ []) []
served_more name static xs i s lt is =
    ap (map (λ (s : Symbol). s.value)) (filter_more (is_candidate_for name static) xs i s lt)
    ∙ (map-append (λ (s : Symbol). s.value) _ _
    ∙ ap (λ l. served name static (take i xs) ++ l)
    (ap (λ z. map (λ (s : Symbol). s.value) (cond (is_candidate_for name static z) (z ∷ []) [])) is
    ∙ one_value (is_candidate_for name static s) s))

-- one more place, whose symbol has the name
pub served_next : (name : List ℕ) (static : Bool) (xs : List Symbol) (i : ℕ) (f : SymbolFields) (b : Bool) → i < length xs
    → option_map (has_name name) (slice_get xs i) ≡ Some true → option_map fields_of (slice_get xs i) ≡ Some f
    → ((s : Symbol) → fields_of s ≡ f → b ≡ (is_candidate s && serves static s))
    → served name static (take (i + 1) xs) ≡ served name static (take i xs) ++ cond b (f.value ∷ []) []
served_next name static xs i f b lt named fields offered = elim (slice_get_cases xs i).1 [
  | inl (s, inside, is, same) ↦
      let h : Some (has_name name s) ≡ Some true = sym (ap (option_map (has_name name)) is) ∙ named in
      let e : bytes_eq s.name name ≡ true = cc in
      let k : Some (fields_of s) ≡ Some f = sym (ap (option_map fields_of) is) ∙ fields in
      let fs : fields_of s ≡ f = cc in
      let all : is_candidate_for name static s ≡ b = named_alone (is_candidate s) (bytes_eq s.name name) (serves static s) e
      ∙ sym (offered s fs) in
      let v : s.value ≡ f.value = ap (λ (g : SymbolFields). g.value) fs in
      served_more name static xs i s inside same
      ∙ (ap (λ c. served name static (take i xs) ++ cond c (s.value ∷ []) []) all
      ∙ ap (λ w. served name static (take i xs) ++ cond b (w ∷ []) []) v)
  | inr (past, is) ↦ absurd (omega (arith, past, lt))
]

-- what a read of a symbol tells of the symbol
pub read_there : {X : Type 0} (f : Symbol → X) (xs : List Symbol) (i : ℕ) (r : X) → option_map f (slice_get xs i) ≡ Some r
    → f (get_or xs i no_symbol) ≡ r
read_there f xs i r h = elim (slice_get_cases xs i).1 [
  | inl (s, inside, is, same) ↦
      let k : Some (f s) ≡ Some r = sym (ap (option_map f) is) ∙ h in
      ap f (get_or_from_slice_get xs i s no_symbol is) ∙ (let e : f s ≡ r = cc in e)
  | inr (past, is) ↦ let e = ap (option_map f) is in cc
]

pub first_within : (x : Index) (name : List ℕ) (first : ℕ) → first_place x name ≡ Some first → first < length (in_order x)
first_within x name first h = omega (arith, (position-Some (is_named x name) x.places first 0 h).0, in_order_length x)

pub place_within : (x : Index) (place : ℕ) → place < length x.places → place < length (in_order x)
place_within x place h = omega (arith, in_order_length x)

-- the symbol at a name's first place has the name
pub first_name : (x : Index) (name : List ℕ) (first : ℕ) → first_place x name ≡ Some first → (symbol_in x first).name ≡ name
first_name x name first h =
    let found = position-Some (is_named x name) x.places first 0 h in
    ap (λ (s : Symbol). s.name) (symbol_in_is x first found.0)
    ∙ (bytes_eq-Decides (symbol_at x.symbols (get_or x.places first 0)).name name).0 found.1

pub first_below : (x : Index) (name : List ℕ) (first : ℕ) → first_place x name ≡ Some first → first < length x.places
first_below x name first h = (position-Some (is_named x name) x.places first 0 h).0

-- nothing is offered for a name that no symbol has
pub nobody_serves : (x : Index) (name : List ℕ) (static : Bool) → IsIndex x.symbols x.places
    → (let none : Option ℕ = None in first_place x name ≡ none) → [] ≡ set_of (served name static x.symbols)
nobody_serves x name static h none = sym (ap set_of (nobody x name static none)) ∙ same_candidates x name static h
