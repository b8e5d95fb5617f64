-- One more key, or one more declaration, in the loops that make tables.
use Rattle.std.proofs.Common.{◌≡◌, ℕ, ◌+◌, ◌<◌, ◌≤◌, Bool, true, false, ◌&&◌, ◌||◌, List, [], ◌∷◌, ◌++◌, length, get_or, map, take, drop}
use Rattle.std.proofs.Common.{position, cond, refl, sym, ap, ◌∙◌, Option, Some, None, append_assoc, append-nil, Bor}
use Rattle.std.specs.Prelude.{is_some, filter}
use Rattle.std.specs.List.{list_any, flat_map, position_from, enumerate_from}
use Rattle.std.specs.Map.{lookup}
use Rattle.std.proofs.lemmas.List.{drop_more, drop_all}
use Rattle.asm_syntax.specs.declared.instr.Function.{Function}
use Rattle.asm_syntax.specs.declared.unit.Variable.{Variable}
use Rattle.asm_syntax.specs.declared.unit.External.{External}
use Rattle.link_model.specs.declared.key.KeyKind.{KeyKind}
use Rattle.asm_program.specs.declared.declared.Item as items
use Rattle.asm_program.specs.declared.declared.Item.TheVariants as Rust
use Rattle.asm_syntax.specs.declared.unit.Unit.{Unit}
use Rattle.link_model.specs.Program.{Item, Declaration, name_of, is_external, keys}
use Rattle.link_model.specs.Numbers.{is_function, is_variable, item_functions, item_variables, item_externals, is_entry, entry_key}
use Rattle.asm_program.specs.declared.declared.Declared.{Declared}
use Rattle.asm_program.specs.Scopes.{is_same}
use Rattle.asm_program.specs.Seen.{item_seen, declaration_seen}
use Rattle.asm_program.proofs.KeyLists.{position_is}
use Rattle.asm_program.proofs.StandingNames.{any_more}
use Rattle.linked_program.specs.Tables.{is_external_of}
use Rattle.linked_program.proofs.KindLists.{kind_behind, next, kinds_behind, kinds_more, items_more, numbers_from, numbers_more}

-- ---- keys of one kind

module _ {Y : Type 0} (f : Item → List Y) (is_kind : Item → Bool) (ds : List Declaration) (i : ℕ) (d : Declaration) (lt : i < length ds)
    (at : get_or ds i d ≡ d) where
  pub items_step : (list more : List Y) → more ≡ list ++ f d.item
      → more ++ flat_map (λ (d : Declaration). f d.item) (drop (i + 1) ds) ≡ list ++ flat_map (λ (d : Declaration). f d.item) (drop i ds)
  items_step list more h =
      ap (λ l. l ++ flat_map (λ (d : Declaration). f d.item) (drop (i + 1) ds)) (h ∙ ap (λ (e : Declaration). list ++ f e.item) (sym at))
      ∙ items_more (λ (d : Declaration). f d.item) list ds i d lt

  pub numbers_step : (list more : List ℕ) → more ≡ list ++ cond (is_kind d.item) (i ∷ []) []
      → more ++ numbers_from (λ (d : Declaration). is_kind d.item) ds (i + 1) ≡ list
      ++ numbers_from (λ (d : Declaration). is_kind d.item) ds i
  numbers_step list more h =
      ap (λ l. l ++ numbers_from (λ (d : Declaration). is_kind d.item) ds (i + 1))
      (h ∙ ap (λ (e : Declaration). list ++ cond (is_kind e.item) (i ∷ []) []) (sym at))
      ∙ numbers_more (λ (d : Declaration). is_kind d.item) list ds i d lt

pub no_function : (item : items.Item) → ((x : Bor Function) → item ≡ Rust.Function x → ⊥)
    → (item_functions (item_seen item) ≡ []) × (is_function (item_seen item) ≡ false)
no_function (Rust.Function f) h = absurd (h f refl)
no_function (Rust.Variable f) h = (refl, refl)
no_function (Rust.External f) h = (refl, refl)

pub no_variable : (item : items.Item) → ((x : Bor Variable) → item ≡ Rust.Variable x → ⊥)
    → (item_variables (item_seen item) ≡ []) × (is_variable (item_seen item) ≡ false)
no_variable (Rust.Variable f) h = absurd (h f refl)
no_variable (Rust.Function f) h = (refl, refl)
no_variable (Rust.External f) h = (refl, refl)

pub no_external : (item : items.Item) → ((x : Bor External) → item ≡ Rust.External x → ⊥)
    → (item_externals (item_seen item) ≡ []) × (is_external (item_seen item) ≡ false)
no_external (Rust.External f) h = absurd (h f refl)
no_external (Rust.Function f) h = (refl, refl)
no_external (Rust.Variable f) h = (refl, refl)

pub nothing_added : {Y : Type 0} (xs ys more : List Y) → ys ≡ [] → more ≡ xs → more ≡ xs ++ ys
nothing_added xs ys more e h = h ∙ (sym (append-nil xs) ∙ ap (λ l. xs ++ l) (sym e))

pub numbers_end : {X : Type 0} (p : X → Bool) (list : List ℕ) (xs : List X) (i : ℕ) (total : List ℕ) → length xs ≤ i
    → list ++ numbers_from p xs i ≡ total → list ≡ total
numbers_end p list xs i total le h =
    sym (ap (λ l. list ++ map (λ k. k.0) (filter (λ k. p k.1) (enumerate_from i l))) (drop_all i xs le) ∙ append-nil list) ∙ h

pub items_end : {X Y : Type 0} (f : X → List Y) (list : List Y) (xs : List X) (i : ℕ) (total : List Y) → length xs ≤ i
    → list ++ flat_map f (drop i xs) ≡ total → list ≡ total
items_end f list xs i total le h = sym (ap (λ l. list ++ flat_map f l) (drop_all i xs le) ∙ append-nil list) ∙ h

-- ---- kinds

pub kinds_step : (list more : List KeyKind) (f v x g w y : ℕ) (ds : List Declaration) (i : ℕ) (d : Declaration) (kind : KeyKind)
    → i < length ds
    → get_or ds i d ≡ d → more ≡ list ++ kind ∷ [] → kind ≡ kind_behind f v x d.item
    → g ≡ next is_function f d.item → w ≡ next is_variable v d.item → y ≡ next is_external x d.item
    → more ++ kinds_behind g w y (drop (i + 1) ds) ≡ list ++ kinds_behind f v x (drop i ds)
kinds_step list more f v x g w y ds i d kind lt at m k a b c =
    (λ j. m j ++ kinds_behind (a j) (b j) (c j) (drop (i + 1) ds))
    ∙ ((λ j. (list ++ k j ∷ []) ++ kinds_behind (next is_function f d.item) (next is_variable v d.item)
    (next is_external x d.item) (drop (i + 1) ds))
    ∙ ((λ j. (list ++ kind_behind f v x (sym at j).item ∷ [])
    ++ kinds_behind (next is_function f (sym at j).item) (next is_variable v (sym at j).item)
    (next is_external x (sym at j).item) (drop (i + 1) ds))
    ∙ kinds_more list f v x ds i d lt))

pub kinds_end : (list : List KeyKind) (f v x : ℕ) (ds : List Declaration) (i : ℕ) (total : List KeyKind) → length ds ≤ i
    → list ++ kinds_behind f v x (drop i ds) ≡ total → list ≡ total
kinds_end list f v x ds i total le h = sym (ap (λ l. list ++ kinds_behind f v x l) (drop_all i ds le) ∙ append-nil list) ∙ h

-- ---- a place

abbrev pub is_entry_of : List ℕ → Declaration → Bool
is_entry_of entry d = is_entry entry d.item

pub entry_is : (units : List Unit) (entry : List ℕ) (k : ℕ) → Some k ≡ position (is_entry_of entry) (keys units)
    → entry_key units entry ≡ Some k
unfolding entry_key
entry_is units entry k h = sym h

pub entry_there : (units : List Unit) (entry : List ℕ) (k : ℕ) → entry_key units entry ≡ Some k
    → (let none : Option ℕ = None in none ≡ position (is_entry_of entry) (keys units)) → ⊥
unfolding entry_key
entry_there units entry k e h = let both : (let none : Option ℕ = None in none ≡ Some k) = h ∙ e in cc

module _ {X : Type 0} (p : X → Bool) (ds : List X) (k : ℕ) (d : X) (lt : k < length ds) (at : get_or ds k d ≡ d)
    (so_far : position_from p k (drop k ds) ≡ position_from p 0 ds) where
  ahead : position_from p k (drop k ds) ≡ cond (p d) (Some k) (position_from p (k + 1) (drop (k + 1) ds))
  ahead = ap (position_from p k) (drop_more ds k d lt ∙ ap (λ e. e ∷ drop (k + 1) ds) at)

  pub place_found : p d ≡ true → Some k ≡ position p ds
  place_found h =
      sym (ap (λ b. cond b (Some k) (position_from p (k + 1) (drop (k + 1) ds))) h) ∙ (sym ahead ∙ (so_far ∙ position_is p ds))

  pub place_passed : p d ≡ false → position_from p (k + 1) (drop (k + 1) ds) ≡ position_from p 0 ds
  place_passed h = sym (ahead ∙ ap (λ b. cond b (Some k) (position_from p (k + 1) (drop (k + 1) ds))) h) ∙ so_far

pub place_none : {X : Type 0} (p : X → Bool) (ds : List X) (k : ℕ) → length ds ≤ k → position_from p k (drop k ds) ≡ position_from p 0 ds
    → (let none : Option ℕ = None in none ≡ position p ds)
place_none p ds k le so_far = sym (ap (position_from p k) (drop_all k ds le)) ∙ (so_far ∙ position_is p ds)

-- ---- externals of units

some_cond : (b : Bool) (n : ℕ) (o : Option ℕ) → is_some (cond b (Some n) o) ≡ (b || is_some o)
some_cond true n o = refl
some_cond false n o = refl

module _ (q : ℕ × List ℕ) (names : List ((ℕ × List ℕ) × ℕ)) (ds : List Declaration) (i : ℕ) (d : Declaration) (lt : i < length ds)
    (at : get_or ds i d ≡ d) (so_far : is_some (lookup (is_same q) names) ≡ list_any (is_external_of q) (take i ds)) where
  then_any : list_any (is_external_of q) (take (i + 1) ds) ≡ (is_external_of q d || list_any (is_external_of q) (take i ds))
  then_any = any_more (is_external_of q) ds i d lt ∙ ap (λ e. is_external_of q e || list_any (is_external_of q) (take i ds)) at

  pub external_set : (others : List ((ℕ × List ℕ) × ℕ)) (r : ℕ × List ℕ) (n : ℕ) → r ≡ (d.unit, name_of d) → is_external d.item ≡ true
      → lookup (is_same q) others ≡ cond (is_same q r) (Some n) (lookup (is_same q) names)
      → is_some (lookup (is_same q) others) ≡ list_any (is_external_of q) (take (i + 1) ds)
  external_set others r n e g h =
      ap is_some h
      ∙ (some_cond (is_same q r) n (lookup (is_same q) names)
      ∙ ((λ j. is_same q (e j) || so_far j)
      ∙ sym (then_any ∙ ap (λ b. (b && is_same q (d.unit, name_of d)) || list_any (is_external_of q) (take i ds)) g)))

  pub external_passed : is_external d.item ≡ false → is_some (lookup (is_same q) names) ≡ list_any (is_external_of q) (take (i + 1) ds)
  external_passed g =
      so_far ∙ sym (then_any ∙ ap (λ b. (b && is_same q (d.unit, name_of d)) || list_any (is_external_of q) (take i ds)) g)

-- ---- what is made of each key

pub made_more : {Y : Type 0} (f : Declaration → Y) (list more : List Y) (keys : List Declared) (i : ℕ) (x : Declared) (y : Y)
    → i < length keys
    → x ≡ get_or keys i x → more ≡ list ++ y ∷ [] → y ≡ f (declaration_seen x)
    → more ++ map f (map declaration_seen (drop (i + 1) keys)) ≡ list ++ map f (map declaration_seen (drop i keys))
made_more f list more keys i x y lt is m e =
    (λ j. m j ++ map f (map declaration_seen (drop (i + 1) keys)))
    ∙ ((λ j. (list ++ e j ∷ []) ++ map f (map declaration_seen (drop (i + 1) keys)))
    ∙ (append_assoc list (f (declaration_seen x) ∷ []) (map f (map declaration_seen (drop (i + 1) keys)))
    ∙ ap (λ l. list ++ map f (map declaration_seen l)) (sym (drop_more keys i x lt ∙ ap (λ e. e ∷ drop (i + 1) keys) (sym is)))))
