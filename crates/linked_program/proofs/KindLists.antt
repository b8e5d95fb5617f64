-- The kinds of keys, counted from the front.
use Rattle.std.proofs.Common.{◌≡◌, ℕ, zero, suc, ◌+◌, ◌<◌, Bool, true, false, List, [], ◌∷◌, ◌++◌, length, map, take, drop, get_or, cond}
use Rattle.std.proofs.Common.{refl, sym, ◌∙◌, ap, arith, Some, append_assoc}
use Rattle.std.specs.Prelude.{filter, slice_get, option_map}
use Rattle.std.specs.List.{flat_map, enumerate_from}
use Rattle.std.proofs.lemmas.List.{drop_more}
use Rattle.link_model.specs.declared.key.KeyKind.{KeyKind}
use Rattle.link_model.specs.declared.key.KeyKind.TheVariants as kinds
use Rattle.link_model.specs.Program.{Item, OfFunction, OfVariable, OfExternal, Declaration, is_external}
use Rattle.link_model.specs.Numbers.{is_function, is_variable}
use Rattle.linked_program.specs.Kinds.{count_before, item_kind_in, kind_in}

-- ---- kinds behind so many functions, variables and externals

abbrev pub kind_behind : ℕ → ℕ → ℕ → Item → KeyKind
kind_behind f v x (OfFunction g) = kinds.Function f
kind_behind f v x (OfVariable g) = kinds.Variable v
kind_behind f v x (OfExternal g) = kinds.External x

abbrev pub next : (Item → Bool) → ℕ → Item → ℕ
next is_kind n item = cond (is_kind item) (n + 1) n

abbrev pub kinds_behind : ℕ → ℕ → ℕ → List Declaration → List KeyKind
kinds_behind f v x [] = []
kinds_behind f v x (d ∷ ds) =
    kind_behind f v x d.item ∷ kinds_behind (next is_function f d.item) (next is_variable v d.item) (next is_external x d.item) ds

abbrev counted : ℕ → ℕ → ℕ → List Declaration → ℕ → Item → KeyKind
counted f v x ds k item =
    kind_behind (f + count_before is_function ds k) (v + count_before is_variable ds k) (x + count_before is_external ds k) item

plus_zero : (n : ℕ) → n ≡ n + 0
plus_zero n = omega arith

next_count : (b : Bool) (n : ℕ) (d : Declaration) (l : List Declaration) → cond b (n + 1) n + length l ≡ n + length (cond b (d ∷ l) l)
next_count true n d l = omega arith
next_count false n d l = refl

next_is : (is_kind : Item → Bool) (n : ℕ) (d : Declaration) (ds : List Declaration) (k : ℕ)
    → next is_kind n d.item + count_before is_kind ds k ≡ n + count_before is_kind (d ∷ ds) (suc k)
next_is is_kind n d ds k = next_count (is_kind d.item) n d (filter (λ (e : Declaration). is_kind e.item) (take k ds))

kinds_at : (f v x : ℕ) (ds : List Declaration) (k : ℕ)
    → slice_get (kinds_behind f v x ds) k ≡ option_map (λ (d : Declaration). counted f v x ds k d.item) (slice_get ds k)
kinds_at f v x [] k = refl
kinds_at f v x (d ∷ ds) zero = λ i. Some (kind_behind (plus_zero f i) (plus_zero v i) (plus_zero x i) d.item)
kinds_at f v x (d ∷ ds) (suc k) =
    kinds_at (next is_function f d.item) (next is_variable v d.item) (next is_external x d.item) ds k
    ∙ (λ i. option_map (λ (e : Declaration).
    kind_behind (next_is is_function f d ds k i) (next_is is_variable v d ds k i) (next_is is_external x d ds k i) e.item) (slice_get ds k))

zero_plus : (n : ℕ) → 0 + n ≡ n
zero_plus n = omega arith

kind_is : (ds : List Declaration) (k : ℕ) (item : Item) → counted 0 0 0 ds k item ≡ item_kind_in ds k item
kind_is ds k (OfFunction f) = ap kinds.Function (zero_plus (count_before is_function ds k))
kind_is ds k (OfVariable f) = ap kinds.Variable (zero_plus (count_before is_variable ds k))
kind_is ds k (OfExternal f) = ap kinds.External (zero_plus (count_before is_external ds k))

pub kinds_are : (ds : List Declaration) (k : ℕ) → slice_get (kinds_behind 0 0 0 ds) k ≡ kind_in ds k
kinds_are ds k = kinds_at 0 0 0 ds k ∙ (λ i. option_map (λ (d : Declaration). kind_is ds k d.item i) (slice_get ds k))

-- ---- one more key

pub kinds_more : (list : List KeyKind) (f v x : ℕ) (ds : List Declaration) (i : ℕ) (e : Declaration) → i < length ds
    → (list ++ kind_behind f v x (get_or ds i e).item ∷ [])
    ++ kinds_behind (next is_function f (get_or ds i e).item) (next is_variable v (get_or ds i e).item)
    (next is_external x (get_or ds i e).item) (drop (i + 1) ds)
    ≡ list ++ kinds_behind f v x (drop i ds)
kinds_more list f v x ds i e lt =
    let d = get_or ds i e in
    append_assoc list (kind_behind f v x d.item ∷ [])
    (kinds_behind (next is_function f d.item) (next is_variable v d.item) (next is_external x d.item) (drop (i + 1) ds))
    ∙ ap (λ l. list ++ kinds_behind f v x l) (sym (drop_more ds i e lt))

pub items_more : {X Y : Type 0} (f : X → List Y) (list : List Y) (xs : List X) (i : ℕ) (d : X) → i < length xs
    → (list ++ f (get_or xs i d)) ++ flat_map f (drop (i + 1) xs) ≡ list ++ flat_map f (drop i xs)
items_more f list xs i d lt =
    append_assoc list (f (get_or xs i d)) (flat_map f (drop (i + 1) xs)) ∙ ap (λ l. list ++ flat_map f l) (sym (drop_more xs i d lt))

-- the numbers of those that pass, from i on
abbrev pub numbers_from : {X : Type 0} → (X → Bool) → List X → ℕ → List ℕ
numbers_from {X} p xs i = map (λ k. k.0) (filter (λ (k : ℕ × X). p k.1) (enumerate_from i (drop i xs)))

number_step : {X : Type 0} (b : Bool) (i : ℕ) (x : X) (rest : List (ℕ × X))
    → map (λ k. k.0) (cond b ((i, x) ∷ rest) rest) ≡ cond b (i ∷ []) [] ++ map (λ k. k.0) rest
number_step true i x rest = refl
number_step false i x rest = refl

pub numbers_more : {X : Type 0} (p : X → Bool) (list : List ℕ) (xs : List X) (i : ℕ) (d : X) → i < length xs
    → (list ++ cond (p (get_or xs i d)) (i ∷ []) []) ++ numbers_from p xs (i + 1) ≡ list ++ numbers_from p xs i
numbers_more {X} p list xs i d lt =
    append_assoc list (cond (p (get_or xs i d)) (i ∷ []) []) (numbers_from p xs (i + 1))
    ∙ ap (λ l. list ++ l) (sym (
    ap (λ l. map (λ k. k.0) (filter (λ (k : ℕ × X). p k.1) (enumerate_from i l))) (drop_more xs i d lt)
    ∙ number_step (p (get_or xs i d)) i (get_or xs i d) (filter (λ (k : ℕ × X). p k.1) (enumerate_from (i + 1) (drop (i + 1) xs)))))
