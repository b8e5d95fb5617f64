-- The names that decide which declarations are keys.
use Rattle.std.proofs.Common.{◌≡◌, ℕ, ◌+◌, ◌<◌, Bool, true, false, ◌&&◌, ◌||◌, not, List, [], ◌∷◌, length, get_or, take, refl, sym, ◌∙◌, ap}
use Rattle.std.specs.Prelude.{filter}
use Rattle.std.specs.List.{list_any}
use Rattle.std.specs.Str.{bytes_eq}
use Rattle.std.proofs.lemmas.List.{take_more}
use Rattle.std.proofs.lemmas.List.Elements.{filter_agree}
use Rattle.std.proofs.lemmas.List.Folds.{list_any-append}
use Rattle.std.proofs.lemmas.Slice.Eq.{bytes_eq-Decides}
use Rattle.asm_syntax.specs.declared.unit.Unit.{Unit}
use Rattle.link_model.specs.Program.{Item, OfFunction, OfVariable, OfExternal, Declaration, name_of, is_global_definition, declarations}
use Rattle.link_model.specs.Program.{defines_global, is_referred, is_key}
use Rattle.asm_program.specs.Standing.{is_key_by, stands_by, uses_external}
use Rattle.asm_program.proofs.NameSets.{bytes_eq_swap}

-- ---- a list with one more element

or_end : (a b : Bool) → (a || (b || false)) ≡ (b || a)
or_end true true = refl
or_end true false = refl
or_end false true = refl
or_end false false = refl

or_nothing : (a b : Bool) → b ≡ false → (a || (b || false)) ≡ a
or_nothing true b h = refl
or_nothing false b h = rw h refl

pub any_more : {X : Type 0} (p : X → Bool) (xs : List X) (i : ℕ) (d : X) → i < length xs
    → list_any p (take (i + 1) xs) ≡ (p (get_or xs i d) || list_any p (take i xs))
any_more p xs i d lt =
    ap (list_any p) (take_more xs i d lt)
    ∙ (list_any-append p (take i xs) (get_or xs i d ∷ []) ∙ or_end (list_any p (take i xs)) (p (get_or xs i d)))

or_swap : (a b : Bool) → (a || b) ≡ (b || a)
or_swap true true = refl
or_swap true false = refl
or_swap false true = refl
or_swap false false = refl

-- ---- the names of global definitions

abbrev pub is_global_of : List ℕ → Declaration → Bool
is_global_of v d = is_global_definition d && bytes_eq (name_of d) v

module _ (v : List ℕ) (set : List (List ℕ)) (ds : List Declaration) (i : ℕ) (d : Declaration) (lt : i < length ds) (at : get_or ds i d ≡ d)
    (so_far : list_any (bytes_eq v) set ≡ list_any (is_global_of v) (take i ds)) where
  pub name_added : (n : List ℕ) (others : List (List ℕ)) → n ≡ name_of d → is_global_definition d ≡ true
      → list_any (bytes_eq v) others ≡ (bytes_eq v n || list_any (bytes_eq v) set)
      → list_any (bytes_eq v) others ≡ list_any (is_global_of v) (take (i + 1) ds)
  name_added n others e g h =
      h ∙ ((λ k. bytes_eq v (e k) || so_far k)
      ∙ (ap (λ b. b || list_any (is_global_of v) (take i ds)) (bytes_eq_swap v (name_of d) ∙ sym (ap (λ t. t && bytes_eq (name_of d) v) g))
      ∙ sym (any_more (is_global_of v) ds i d lt ∙ ap (λ e. is_global_of v e || list_any (is_global_of v) (take i ds)) at)))

  pub name_passed : is_global_definition d ≡ false → list_any (bytes_eq v) set ≡ list_any (is_global_of v) (take (i + 1) ds)
  name_passed g =
      so_far ∙ sym (any_more (is_global_of v) ds i d lt
      ∙ (ap (λ e. is_global_of v e || list_any (is_global_of v) (take i ds)) at
      ∙ ap (λ t. (t && bytes_eq (name_of d) v) || list_any (is_global_of v) (take i ds)) g))

-- ---- the externals of a unit

-- o: it is there already; a: it was used; d, n: declared, not defined; e: it is the next that is used
with_name : (o a d n e : Bool) → (e ≡ true → d ≡ true) → (e ≡ true → n ≡ true)
    → (e || (o || ((a && d) && n))) ≡ (o || (((e || a) && d) && n))
with_name o a d n false h k = refl
with_name true a d n true h k = refl
with_name false a d n true h k = rw (h refl, k refl) refl

pub external_added : (v m : List ℕ) (o a : Bool) (declared defined : List (List ℕ))
    → list_any (bytes_eq m) declared ≡ true → list_any (bytes_eq m) defined ≡ false
    → (bytes_eq v m || (o || ((a && list_any (bytes_eq v) declared) && not (list_any (bytes_eq v) defined))))
    ≡ (o || (((bytes_eq m v || a) && list_any (bytes_eq v) declared) && not (list_any (bytes_eq v) defined)))
external_added v m o a declared defined h k =
    with_name o a (list_any (bytes_eq v) declared) (not (list_any (bytes_eq v) defined)) (bytes_eq v m)
    (λ t. ap (λ w. list_any (bytes_eq w) declared) ((bytes_eq-Decides v m).0 t) ∙ h)
    (λ t. ap (λ w. not (list_any (bytes_eq w) defined)) ((bytes_eq-Decides v m).0 t) ∙ ap not k)
    ∙ ap (λ e. o || (((e || a) && list_any (bytes_eq v) declared) && not (list_any (bytes_eq v) defined))) (bytes_eq_swap v m)

without_name : (o a d n e : Bool) → (e ≡ true → (d && n) ≡ false) → (o || ((a && d) && n)) ≡ (o || (((e || a) && d) && n))
without_name true a d n e h = refl
without_name false a d n false h = refl
without_name false true d n true h = refl
without_name false false d n true h = sym (h refl)

pub external_left : (v m : List ℕ) (o a : Bool) (declared defined : List (List ℕ))
    → (list_any (bytes_eq m) declared && not (list_any (bytes_eq m) defined)) ≡ false
    → (o || ((a && list_any (bytes_eq v) declared) && not (list_any (bytes_eq v) defined)))
    ≡ (o || (((bytes_eq m v || a) && list_any (bytes_eq v) declared) && not (list_any (bytes_eq v) defined)))
external_left v m o a declared defined h =
    without_name o a (list_any (bytes_eq v) declared) (not (list_any (bytes_eq v) defined)) (bytes_eq m v)
    (λ t. ap (λ w. list_any (bytes_eq w) declared && not (list_any (bytes_eq w) defined)) (sym ((bytes_eq-Decides m v).0 t)) ∙ h)

-- the externals of the names so far
abbrev pub are_externals : Bool → List ℕ → List (List ℕ) → List (List ℕ) → List (List ℕ) → Bool
are_externals o v used declared defined =
    o || ((list_any (λ m. bytes_eq m v) used && list_any (bytes_eq v) declared) && not (list_any (bytes_eq v) defined))

module _ (o : Bool) (v m : List ℕ) (set declared defined ns : List (List ℕ)) (i : ℕ) (lt : i < length ns) (at : get_or ns i m ≡ m)
    (so_far : list_any (bytes_eq v) set ≡ are_externals o v (take i ns) declared defined) where
  used_more : list_any (λ m. bytes_eq m v) (take (i + 1) ns) ≡ (bytes_eq m v || list_any (λ m. bytes_eq m v) (take i ns))
  used_more = any_more (λ m. bytes_eq m v) ns i m lt ∙ ap (λ e. bytes_eq e v || list_any (λ m. bytes_eq m v) (take i ns)) at

  pub used_added : (others : List (List ℕ)) → list_any (bytes_eq m) declared ≡ true → list_any (bytes_eq m) defined ≡ false
      → list_any (bytes_eq v) others ≡ (bytes_eq v m || list_any (bytes_eq v) set)
      → list_any (bytes_eq v) others ≡ are_externals o v (take (i + 1) ns) declared defined
  used_added others d n h =
      h ∙ (ap (λ b. bytes_eq v m || b) so_far
      ∙ (external_added v m o (list_any (λ m. bytes_eq m v) (take i ns)) declared defined d n
      ∙ sym (ap (λ a. o || ((a && list_any (bytes_eq v) declared) && not (list_any (bytes_eq v) defined))) used_more)))

  pub used_passed : (list_any (bytes_eq m) declared && not (list_any (bytes_eq m) defined)) ≡ false
      → list_any (bytes_eq v) set ≡ are_externals o v (take (i + 1) ns) declared defined
  used_passed h =
      so_far ∙ (external_left v m o (list_any (λ m. bytes_eq m v) (take i ns)) declared defined h
      ∙ sym (ap (λ a. o || ((a && list_any (bytes_eq v) declared) && not (list_any (bytes_eq v) defined))) used_more))

pub not_declared : (a b : Bool) → a ≡ false → (a && not b) ≡ false
not_declared true b h = cc
not_declared false b h = refl

pub defined_too : (a b : Bool) → b ≡ true → (a && not b) ≡ false
defined_too true true h = refl
defined_too true false h = cc
defined_too false b h = refl

-- ---- all units

pub units_more : (v : List ℕ) (set others : List (List ℕ)) (units : List Unit) (i : ℕ) (u : Unit) → i < length units → u ≡ get_or units i u
    → list_any (bytes_eq v) set ≡ list_any (uses_external v) (take i units)
    → list_any (bytes_eq v) others ≡ (list_any (bytes_eq v) set || uses_external v u)
    → list_any (bytes_eq v) others ≡ list_any (uses_external v) (take (i + 1) units)
units_more v set others units i u lt is so_far h =
    h ∙ ((λ k. so_far k || uses_external v (is k))
    ∙ (or_swap (list_any (uses_external v) (take i units)) (uses_external v (get_or units i u))
    ∙ sym (any_more (uses_external v) units i u lt)))

pub referred_is : (units : List Unit) (v : List ℕ) → list_any (uses_external v) units ≡ is_referred units v
unfolding is_referred
referred_is units v = refl

pub defined_globally : (units : List Unit) (v : List ℕ)
    → list_any (λ d. is_global_definition d && bytes_eq (name_of d) v) (declarations units) ≡ defines_global units v
unfolding defines_global
defined_globally units v = refl

abbrev AreDefined : List Unit → List (List ℕ) → Type 0
AreDefined units defined = (v : List ℕ) → list_any (bytes_eq v) defined ≡ defines_global units v

abbrev AreReferred : List Unit → List (List ℕ) → Type 0
AreReferred units referred = (v : List ℕ) → list_any (bytes_eq v) referred ≡ is_referred units v

key_by_is : (units : List Unit) (defined referred : List (List ℕ)) → AreDefined units defined → AreReferred units referred
    → (item : Item) → is_key_by defined referred item ≡ is_key units item
key_by_is units defined referred h k (OfFunction f) = refl
key_by_is units defined referred h k (OfVariable x) = refl
key_by_is units defined referred h k (OfExternal x) = λ i. not (h x.name i) && k x.name i

pub standing_is : (units : List Unit) (defined referred : List (List ℕ)) → AreDefined units defined → AreReferred units referred
    → (ds : List Declaration) → filter (stands_by defined referred) ds ≡ filter (λ d. is_key units d.item) ds
standing_is units defined referred h k ds =
    filter_agree (stands_by defined referred) (λ (d : Declaration). is_key units d.item)
    (λ d. key_by_is units defined referred h k d.item) ds
