-- No key has a number past those of its kind.
use Rattle.std.proofs.Common.{◌≡◌, ℕ, zero, suc, ◌+◌, ◌≤◌, Bool, true, false, List, [], ◌∷◌, ◌++◌, length, map, None, refl, ap, sym, ◌∙◌}
use Rattle.std.proofs.Common.{cond, arith}
use Rattle.std.specs.Prelude.{filter, slice_get}
use Rattle.std.specs.List.{enumerate_from, flat_map}
use Rattle.std.proofs.lemmas.List.{length-append, length-map}
use Rattle.asm_syntax.specs.declared.unit.Unit.{Unit}
use Rattle.link_model.specs.declared.key.KeyKind.TheVariants as kinds
use Rattle.link_model.specs.Numbers.{externals, functions, is_function, is_variable, item_externals, item_functions, item_variables}
use Rattle.link_model.specs.Numbers.{key_of, variables}
use Rattle.link_model.specs.Program.{Declaration, Item, OfExternal, OfFunction, OfVariable, is_external, keys}

past : {X : Type 0} (xs : List X) (n : ℕ) → length xs ≤ n → slice_get xs n ≡ None
past [] n h = refl
past (x ∷ xs) zero h = absurd (omega arith)
past (x ∷ xs) (suc n) h = past xs n (omega arith)

-- a kind of keys, and what each gives a list of
module _ {X : Type 0} (is_kind : Item → Bool) (given : Item → List X) (one : (i : Item) → is_kind i ≡ true → length (given i) ≡ 1)
    (none : (i : Item) → is_kind i ≡ false → given i ≡ []) where
  counted : (k : ℕ) (ds : List Declaration)
      → length (filter (λ (x : ℕ × Declaration). is_kind x.1.item) (enumerate_from k ds))
      ≡ length (flat_map (λ (d : Declaration). given d.item) ds)
  counted k [] = refl
  counted k (d ∷ ds) = at (is_kind d.item) refl (counted (k + 1) ds)
    where
      at : (b : Bool) → is_kind d.item ≡ b
          → length (filter (λ (x : ℕ × Declaration). is_kind x.1.item) (enumerate_from (k + 1) ds))
          ≡ length (flat_map (λ (e : Declaration). given e.item) ds)
          → length (cond b ((k, d) ∷ filter (λ (x : ℕ × Declaration). is_kind x.1.item) (enumerate_from (k + 1) ds))
          (filter (λ (x : ℕ × Declaration). is_kind x.1.item) (enumerate_from (k + 1) ds)))
          ≡ length (given d.item ++ flat_map (λ (e : Declaration). given e.item) ds)
      at true e r =
          let sum = length-append (given d.item) (flat_map (λ (e : Declaration). given e.item) ds) in
          let single = one d.item e in
          omega arith
      at false e r = r ∙ ap (λ ys. length (ys ++ flat_map (λ (e : Declaration). given e.item) ds)) (sym (none d.item e))

  no_number : (ds : List Declaration) (n : ℕ) → length (flat_map (λ (d : Declaration). given d.item) ds) ≤ n
      → slice_get (map (λ (k : ℕ × Declaration). k.0) (filter (λ (x : ℕ × Declaration). is_kind x.1.item) (enumerate_from 0 ds))) n ≡ None
  no_number ds n h =
      let found = filter (λ (x : ℕ × Declaration). is_kind x.1.item) (enumerate_from 0 ds) in
      let count = counted 0 ds in
      let numbers = length-map found (λ (k : ℕ × Declaration). k.0) in
      past (map (λ (k : ℕ × Declaration). k.0) found) n (omega arith)

one_function : (i : Item) → is_function i ≡ true → length (item_functions i) ≡ 1
one_function (OfFunction f) h = refl
one_function (OfVariable x) h = absurd (cc)
one_function (OfExternal x) h = absurd (cc)

no_function : (i : Item) → is_function i ≡ false → item_functions i ≡ []
no_function (OfFunction f) h = absurd (cc)
no_function (OfVariable x) h = refl
no_function (OfExternal x) h = refl

one_variable : (i : Item) → is_variable i ≡ true → length (item_variables i) ≡ 1
one_variable (OfFunction f) h = absurd (cc)
one_variable (OfVariable x) h = refl
one_variable (OfExternal x) h = absurd (cc)

no_variable : (i : Item) → is_variable i ≡ false → item_variables i ≡ []
no_variable (OfFunction f) h = refl
no_variable (OfVariable x) h = absurd (cc)
no_variable (OfExternal x) h = refl

one_external : (i : Item) → is_external i ≡ true → length (item_externals i) ≡ 1
one_external (OfFunction f) h = absurd (cc)
one_external (OfVariable x) h = absurd (cc)
one_external (OfExternal x) h = refl

no_external : (i : Item) → is_external i ≡ false → item_externals i ≡ []
no_external (OfFunction f) h = refl
no_external (OfVariable x) h = refl
no_external (OfExternal x) h = absurd (cc)

pub function_none : (units : List Unit) (n : ℕ) → length (functions units) ≤ n → None ≡ key_of units (kinds.Function n)
unfolding key_of functions
function_none units n h = sym (no_number is_function item_functions one_function no_function (keys units) n h)

pub variable_none : (units : List Unit) (n : ℕ) → length (variables units) ≤ n → None ≡ key_of units (kinds.Variable n)
unfolding key_of variables
variable_none units n h = sym (no_number is_variable item_variables one_variable no_variable (keys units) n h)

pub external_none : (units : List Unit) (n : ℕ) → length (externals units) ≤ n → None ≡ key_of units (kinds.External n)
unfolding key_of externals
external_none units n h = sym (no_number is_external item_externals one_external no_external (keys units) n h)
