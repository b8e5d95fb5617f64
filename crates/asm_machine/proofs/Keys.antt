-- Lists made from the keys of a program, by one key more.
use Rattle.std.proofs.Common.{◌≡◌, ℕ, zero, suc, ◌+◌, ◌≤◌, Bool, true, false, List, [], ◌∷◌, ◌++◌, length, map, take, Option, Some, refl}
use Rattle.std.proofs.Common.{subst, ap, sym, ◌∙◌, arith}
use Rattle.std.specs.Prelude.{slice_get, filter, flat_map, reverse, cond}
use Rattle.std.specs.List.{enumerate_from}
use Rattle.std.proofs.lemmas.List.{length-append, length_push, map-append, reverse-append, take_all, take_more, append-nil}
use Rattle.std.proofs.lemmas.List.Concat.{flat_map-append}
use Rattle.std.proofs.lemmas.List.Elements.{filter-append}
use Rattle.std.proofs.lemmas.Option.{get_or_from_slice_get, slice_get_within}
use Rattle.asm_syntax.specs.declared.unit.Unit.{Unit}
use Rattle.link_model.specs.declared.key.KeyKind.{KeyKind}
use Rattle.link_model.specs.declared.key.KeyKind.TheVariants as kinds
use Rattle.link_model.specs.Numbers.{is_function, is_variable, item_variables, number_before, variables}
use Rattle.link_model.specs.Program.{Declaration, Item, Program, OfFunction, OfVariable, OfExternal, is_external, keys}
use Rattle.asm_syntax.specs.declared.unit.Sig.{Sig}
use Rattle.asm_step.specs.LinkedCode.{Linked, Routine}
use Rattle.asm_mem.specs.Blocks.{Live, Memory}
use Rattle.asm_mem.specs.Order.{Below}
use Rattle.asm_machine.specs.declared.executable.KindTable.{KindTable}
use Rattle.asm_machine.specs.Executables.{key_kind, key_kinds, linked, routines, sigs}
use Rattle.asm_machine.specs.Variables.{item_block, variable_block, variable_blocks, variable_keys}
use Rattle.asm_machine.specs.Parts.{HasKinds, HasVariables, next_kind, one_if, with_item}

-- ---- one element more

pub take_with : {A : Type 0} (xs : List A) (k : ℕ) (x : A) → slice_get xs k ≡ Some x → take (k + 1) xs ≡ take k xs ++ x ∷ []
take_with xs k x h = take_more xs k x (slice_get_within xs k x h) ∙ ap (λ y. take k xs ++ y ∷ []) (get_or_from_slice_get xs k x x h)

pub map_with : {A B : Type 0} (f : A → B) (xs : List A) (k : ℕ) (x : A) → slice_get xs k ≡ Some x
    → map f (take (k + 1) xs) ≡ map f (take k xs) ++ f x ∷ []
map_with f xs k x h = ap (map f) (take_with xs k x h) ∙ map-append f (take k xs) (x ∷ [])

pub flat_map_with : {A B : Type 0} (f : A → List B) (xs : List A) (k : ℕ) (x : A) → slice_get xs k ≡ Some x
    → flat_map f (take (k + 1) xs) ≡ flat_map f (take k xs) ++ f x
flat_map_with f xs k x h =
    ap (flat_map f) (take_with xs k x h) ∙ flat_map-append f (take k xs) (x ∷ []) ∙ ap (λ y. flat_map f (take k xs) ++ y) (append-nil (f x))

pub filter_with : {A : Type 0} (p : A → Bool) (xs : List A) (k : ℕ) (x : A) → slice_get xs k ≡ Some x
    → filter p (take (k + 1) xs) ≡ filter p (take k xs) ++ cond (p x) (x ∷ []) []
filter_with p xs k x h = ap (filter p) (take_with xs k x h) ∙ filter-append p (take k xs) (x ∷ [])

enumerate_with : {A : Type 0} (n : ℕ) (xs : List A) (x : A) → enumerate_from n (xs ++ x ∷ []) ≡ enumerate_from n xs
    ++ (n + length xs, x) ∷ []
enumerate_with n [] x = let e : n ≡ n + 0 = omega arith in ap (λ (m : ℕ). (m, x) ∷ []) e
enumerate_with n (y ∷ xs) x =
    let e : n + 1 + length xs ≡ n + suc (length xs) = omega arith in
    ap (λ l. (n, y) ∷ l) (enumerate_with (n + 1) xs x ∙ ap (λ (m : ℕ). enumerate_from (n + 1) xs ++ (m, x) ∷ []) e)

numbered_with : {A : Type 0} (xs : List A) (x : A) → enumerate_from 0 (xs ++ x ∷ []) ≡ enumerate_from 0 xs ++ (length xs, x) ∷ []
numbered_with xs x = let e : 0 + length xs ≡ length xs = omega arith in
    enumerate_with 0 xs x ∙ ap (λ (m : ℕ). enumerate_from 0 xs ++ (m, x) ∷ []) e

length_taken : {A : Type 0} (xs : List A) (k : ℕ) → k ≤ length xs → length (take k xs) ≡ k
length_taken xs zero h = refl
length_taken [] (suc k) h = absurd (omega arith)
length_taken (x ∷ xs) (suc k) h = ap suc (length_taken xs k (omega arith))

pub all_taken : {A : Type 0} (xs : List A) (k n : ℕ) → n ≡ length xs → n ≤ k → take k xs ≡ xs
all_taken xs k n e h = take_all k xs (omega arith)

-- ---- kinds

counted : (p : Item → Bool) (xs : List Declaration) (k : ℕ) (d : Declaration) → slice_get xs k ≡ Some d
    → length (filter (λ (e : Declaration). p e.item) (take (k + 1) xs))
    ≡ length (filter (λ (e : Declaration). p e.item) (take k xs)) + one_if (p d.item)
counted p xs k d h =
    ap length (filter_with (λ (e : Declaration). p e.item) xs k d h)
    ∙ length-append (filter (λ (e : Declaration). p e.item) (take k xs)) (cond (p d.item) (d ∷ []) [])
    ∙ ap (λ (m : ℕ). length (filter (λ (e : Declaration). p e.item) (take k xs)) + m) (one (p d.item))
  where
    one : (t : Bool) → length (cond t (d ∷ []) []) ≡ one_if t
    one true = refl
    one false = refl

kind_of_next : (units : List Unit) (k : ℕ) (t : KindTable) (d : Declaration) → HasKinds units k t
    → next_kind t d.item ≡ key_kind units (k, d)
kind_of_next units k t d h = at d.item
  where
    at : (i : Item) → next_kind t i ≡ key_kind units (k, record { unit = d.unit; item = i })
    at (OfFunction f) = ap kinds.Function h.functions
    at (OfVariable x) = ap kinds.Variable h.variables
    at (OfExternal x) = ap kinds.External h.externals

pub kinds_step : (units : List Unit) (k : ℕ) (t u : KindTable) (d : Declaration) → HasKinds units k t → slice_get (keys units) k ≡ Some d
    → u.kinds.items ≡ t.kinds.items ++ next_kind t d.item ∷ []
    → u.functions ≡ t.functions + one_if (is_function d.item)
    → u.variables ≡ t.variables + one_if (is_variable d.item)
    → u.externals ≡ t.externals + one_if (is_external d.item)
    → HasKinds units (k + 1) u
kinds_step units k t u d h is kinds functions variables externals = record {
  kinds = kinds ∙ ap (λ x. t.kinds.items ++ x ∷ []) (kind_of_next units k t d h) ∙ ap (λ l. l ++ key_kind units (k, d) ∷ []) h.kinds
      ∙ sym more;
  functions = functions ∙ ap (λ (m : ℕ). m + one_if (is_function d.item)) h.functions ∙ sym (counted is_function (keys units) k d is);
  variables = variables ∙ ap (λ (m : ℕ). m + one_if (is_variable d.item)) h.variables ∙ sym (counted is_variable (keys units) k d is);
  externals = externals ∙ ap (λ (m : ℕ). m + one_if (is_external d.item)) h.externals ∙ sym (counted is_external (keys units) k d is);
}
  where
    few : k ≤ length (keys units)
    few = let w = slice_get_within (keys units) k d is in omega arith

    more : map (key_kind units) (enumerate_from 0 (take (k + 1) (keys units)))
        ≡ map (key_kind units) (enumerate_from 0 (take k (keys units))) ++ key_kind units (k, d) ∷ []
    more =
        ap (λ l. map (key_kind units) (enumerate_from 0 l)) (take_with (keys units) k d is)
        ∙ ap (map (key_kind units)) (numbered_with (take k (keys units)) d)
        ∙ map-append (key_kind units) (enumerate_from 0 (take k (keys units))) ((length (take k (keys units)), d) ∷ [])
        ∙ ap (λ (m : ℕ). map (key_kind units) (enumerate_from 0 (take k (keys units))) ++ key_kind units (m, d) ∷ [])
        (length_taken (keys units) k few)

filtered_few : {A : Type 0} (p : A → Bool) (xs : List A) → length (filter p xs) ≤ length xs
filtered_few p [] = omega arith
filtered_few p (x ∷ xs) = at (p x) (filtered_few p xs)
  where
    at : (t : Bool) → length (filter p xs) ≤ length xs → length (cond t (x ∷ filter p xs) (filter p xs)) ≤ suc (length xs)
    at true h = omega arith
    at false h = omega arith

taken_few : {A : Type 0} (xs : List A) (k : ℕ) → length (take k xs) ≤ k
taken_few xs zero = omega arith
taken_few [] (suc k) = omega arith
taken_few (x ∷ xs) (suc k) = let h = taken_few xs k in omega arith

pub number_few : (p : Item → Bool) (units : List Unit) (k : ℕ) → number_before p units k ≤ k
number_few p units k =
    let a = filtered_few (λ (d : Declaration). p d.item) (take k (keys units)) in
    let b = taken_few (keys units) k in
    omega arith

-- ---- variables

pub variables_counted : (units : List Unit) → length (variables units) ≡ length (variable_keys units)
unfolding variables variable_keys
variables_counted units = at (keys units)
  where
    at : (ds : List Declaration) → length (flat_map (λ (d : Declaration). item_variables d.item) ds)
        ≡ length (filter (λ (d : Declaration). is_variable d.item) ds)
    at [] = refl
    at (d ∷ ds) = each d.item (at ds)
      where
        each : (i : Item) → length (flat_map (λ (e : Declaration). item_variables e.item) ds)
            ≡ length (filter (λ (e : Declaration). is_variable e.item) ds)
            → length (item_variables i ++ flat_map (λ (e : Declaration). item_variables e.item) ds)
            ≡ length (cond (is_variable i) (d ∷ filter (λ (e : Declaration). is_variable e.item) ds)
            (filter (λ (e : Declaration). is_variable e.item) ds))
        each (OfFunction f) h = h
        each (OfVariable x) h = ap suc h
        each (OfExternal x) h = h

blocks_with : (units : List Unit) (ds : List Declaration) (d : Declaration)
    → variable_blocks units (ds ++ d ∷ []) ≡ item_block units (length ds) d.unit d.item ∷ variable_blocks units ds
unfolding variable_blocks
blocks_with units ds d =
    ap (λ l. reverse (map (variable_block units) l)) (numbered_with ds d)
    ∙ ap reverse (map-append (variable_block units) (enumerate_from 0 ds) ((length ds, d) ∷ []))
    ∙ reverse-append (map (variable_block units) (enumerate_from 0 ds)) (variable_block units (length ds, d) ∷ [])

below_more : (n m : ℕ) (live : List Live) → n ≤ m → Below n live → Below m live
below_more n m [] h b = tt
below_more n m (k ∷ ks) h b = (omega arith, below_more n m ks h b.1)

with_one : (units : List Unit) (before : List Declaration) (d : Declaration) (m n : Memory) → HasVariables units before m
    → (i : Item) → d.item ≡ i → n ≡ with_item units m d.unit i → HasVariables units (before ++ cond (is_variable i) (d ∷ []) []) n
with_one units before d m n h (OfFunction f) q r = rw (append-nil before, r) h
with_one units before d m n h (OfExternal x) q r = rw (append-nil before, r) h
with_one units before d m n h (OfVariable x) q r =
    let number = blocks_with units before d in
    let block : item_block units (length before) d.unit d.item ∷ variable_blocks units before
    ≡ item_block units m.next d.unit (OfVariable x) ∷ variable_blocks units before = rw (q, ← h.next) refl in
    let last : length before + 1 ≡ suc (length before) = omega arith in
    rw r (record {
      live = ap (λ l. item_block units m.next d.unit (OfVariable x) ∷ l) h.live ∙ sym (number ∙ block);
      next = ap suc h.next ∙ sym (length_push before d ∙ last);
      below = (omega arith, below_more m.next (suc m.next) m.live (omega arith) h.below);
    })

pub variables_step : (units : List Unit) (xs : List Declaration) (k : ℕ) (d : Declaration) (m n : Memory) → slice_get xs k ≡ Some d
    → HasVariables units (filter (λ (e : Declaration). is_variable e.item) (take k xs)) m → n ≡ with_item units m d.unit d.item
    → HasVariables units (filter (λ (e : Declaration). is_variable e.item) (take (k + 1) xs)) n
variables_step units xs k d m n is h e =
    let P : List Declaration → Type 0 = λ ds. HasVariables units ds n in
    let before = filter (λ (e : Declaration). is_variable e.item) (take k xs) in
    subst P (sym (filter_with (λ (e : Declaration). is_variable e.item) xs k d is)) (with_one units before d m n h d.item refl e)

pub no_variables : (units : List Unit) → HasVariables units [] (record { live = []; next = 0 })
unfolding variable_blocks
no_variables units = record { live = refl; next = refl; below = tt }

pub all_variables : (units : List Unit) (k n : ℕ) (m : Memory) → n ≡ length (keys units) → n ≤ k
    → HasVariables units (filter (λ (e : Declaration). is_variable e.item) (take k (keys units))) m
    → HasVariables units (variable_keys units) m
unfolding variable_keys
all_variables units k n m e h v =
    let P : List Declaration → Type 0 = λ ds. HasVariables units (filter (λ (e : Declaration). is_variable e.item) ds) m in
    subst P (all_taken (keys units) k n e h) v

-- ---- the whole

pub kinds_all : (units : List Unit) (t : KindTable) → HasKinds units (length (keys units)) t
    → (t.kinds.items ≡ key_kinds units) × (t.variables ≡ length (variables units))
unfolding key_kinds variable_keys
kinds_all units t h =
    let all : take (length (keys units)) (keys units) ≡ keys units =
    all_taken (keys units) (length (keys units)) (length (keys units)) refl (omega arith) in (
      h.kinds ∙ ap (λ l. map (key_kind units) (enumerate_from 0 l)) all,
      h.variables ∙ ap (λ l. length (filter (λ (d : Declaration). is_variable d.item) l)) all ∙ sym (variables_counted units),
    )

pub made_linked : (p : Program) (rs : List Routine) (ks : List KeyKind) (ss : List (Option Sig)) (v : ℕ)
    → rs ≡ routines p.units → ks ≡ key_kinds p.units → ss ≡ sigs p.units → v ≡ length (variables p.units)
    → (let made : Linked = record { routines = rs; kinds = ks; sigs = ss; variables = v } in made ≡ linked p)
made_linked p rs ks ss v a b c d = rw (a, b, c, d) refl
