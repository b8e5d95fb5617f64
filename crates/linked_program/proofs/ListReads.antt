-- Lists that are kept in another form, at a place.
use Rattle.std.proofs.Common.{◌≡◌, ℕ, zero, suc, ◌+◌, ◌<◌, ◌≤◌, Bool, true, false, List, [], ◌∷◌, ◌++◌, length, map, get_or, cond, refl}
use Rattle.std.proofs.Common.{sym, ap, ◌∙◌, arith, Some}
use Rattle.std.specs.Prelude.{slice_get, option_map, filter}
use Rattle.std.specs.List.{flat_map, enumerate_from}
use Rattle.std.proofs.lemmas.List.{length-map}
use Rattle.std.proofs.lemmas.Option.{slice_get-map, slice_get-get_or}
use Rattle.link_model.specs.declared.key.KeyKind.{KeyKind}
use Rattle.link_model.specs.declared.key.KeyKind.TheVariants as kinds
use Rattle.asm_syntax.specs.declared.instr.Function.{Function}
use Rattle.asm_syntax.specs.declared.unit.Variable.{Variable}
use Rattle.asm_syntax.specs.declared.unit.External.{External}
use Rattle.asm_syntax.specs.declared.unit.Unit.{Unit}
use Rattle.link_model.specs.Program.{Item, OfFunction, OfVariable, OfExternal, Declaration, is_external, keys, key_alignment, declarations}
use Rattle.link_model.specs.Numbers.{is_function, is_variable, item_functions, item_variables, item_externals, functions, variables}
use Rattle.link_model.specs.Numbers.{externals, key_of, kind_of, item_kind}
use Rattle.linked_program.specs.Alignments.{alignment_in, variable_alignment}
use Rattle.linked_program.specs.Kinds.{key_numbers, item_kind_in, kind_in}
use Rattle.linked_program.proofs.Greatest.{key_greatest, positive}
use Rattle.asm_program.specs.Scopes.{scoped_name}

pub kept_length : {X Y : Type 0} (f : X → Y) (xs : List X) (ys : List Y) → map f xs ≡ ys → length xs ≡ length ys
kept_length f xs ys h = sym (length-map xs f) ∙ ap length h

pub kept_read : {X Y : Type 0} (f : X → Y) (xs : List X) (ys : List Y) (k : ℕ) (x : X) → map f xs ≡ ys → k < length ys → x ≡ get_or xs k x
    → slice_get ys k ≡ Some (f x)
kept_read f xs ys k x h lt is =
    let short : k < length xs = omega (arith, kept_length f xs ys h) in
    ap (λ l. slice_get l k) (sym h)
    ∙ (slice_get-map f xs k ∙ (ap (option_map f) (slice_get-get_or xs k x short) ∙ ap (λ r. Some (f r)) (sym is)))

pub there : {X : Type 0} (xs : List X) (k : ℕ) (x : X) → slice_get xs k ≡ Some x → k < length xs
there [] k x h = absurd (cc)
there (y ∷ ys) zero x h = omega arith
there (y ∷ ys) (suc k) x h = omega (arith, there ys k x h)

-- ---- counts

at_most : {A : Type 0} (f : Item → List A) → ((item : Item) → length (f item) ≤ 1) → (ds : List Declaration)
    → length (flat_map (λ (d : Declaration). f d.item) ds) ≤ length ds
at_most f one [] = omega arith
at_most f one (d ∷ ds) = more (f d.item) (flat_map (λ (e : Declaration). f e.item) ds) (length ds) (one d.item) (at_most f one ds)
  where
    more : {A : Type 0} (xs ys : List A) (n : ℕ) → length xs ≤ 1 → length ys ≤ n → length (xs ++ ys) ≤ suc n
    more [] ys n h k = omega arith
    more (x ∷ []) ys n h k = omega arith
    more (x ∷ y ∷ xs) ys n h k = absurd (omega arith)

one_function : (item : Item) → length (item_functions item) ≤ 1
one_function (OfFunction f) = omega arith
one_function (OfVariable f) = omega arith
one_function (OfExternal f) = omega arith

one_variable : (item : Item) → length (item_variables item) ≤ 1
one_variable (OfFunction f) = omega arith
one_variable (OfVariable f) = omega arith
one_variable (OfExternal f) = omega arith

one_external : (item : Item) → length (item_externals item) ≤ 1
one_external (OfFunction f) = omega arith
one_external (OfVariable f) = omega arith
one_external (OfExternal f) = omega arith

pub few_functions : (units : List Unit) → length (functions units) ≤ length (keys units)
unfolding functions
few_functions units = at_most item_functions one_function (keys units)

pub few_variables : (units : List Unit) → length (variables units) ≤ length (keys units)
unfolding variables
few_variables units = at_most item_variables one_variable (keys units)

pub few_externals : (units : List Unit) → length (externals units) ≤ length (keys units)
unfolding externals
few_externals units = at_most item_externals one_external (keys units)

-- ---- the lists of a program

pub functions_are : (units : List Unit) (fs : List Function) → fs ≡ flat_map (λ (d : Declaration). item_functions d.item) (keys units)
    → fs ≡ functions units
unfolding functions
functions_are units fs h = h

pub variables_are : (units : List Unit) (xs : List Variable) → xs ≡ flat_map (λ (d : Declaration). item_variables d.item) (keys units)
    → xs ≡ variables units
unfolding variables
variables_are units xs h = h

pub externals_are : (units : List Unit) (xs : List External) → xs ≡ flat_map (λ (d : Declaration). item_externals d.item) (keys units)
    → xs ≡ externals units
unfolding externals
externals_are units xs h = h

-- ---- kinds

kind_step : (units : List Unit) (k : ℕ) (item : Item) → item_kind_in (keys units) k item ≡ item_kind units k item
kind_step units k (OfFunction f) = refl
kind_step units k (OfVariable f) = refl
kind_step units k (OfExternal f) = refl

pub kind_is : (units : List Unit) (k : ℕ) → kind_in (keys units) k ≡ kind_of units k
unfolding kind_of
kind_is units k = λ i. option_map (λ (d : Declaration). kind_step units k d.item i) (slice_get (keys units) k)

-- a key has a kind
pub kind_there : (ds : List Declaration) (list : List KeyKind) → ((k : ℕ) → slice_get list k ≡ kind_in ds k) → (k : ℕ) → k < length ds
    → k < length list
kind_there [] list h k lt = absurd (omega arith)
kind_there (d ∷ ds) list h k lt =
    there list k _ (h k ∙ ap (option_map (λ (e : Declaration). item_kind_in (d ∷ ds) k e.item)) (slice_get-get_or (d ∷ ds) k d lt))

pub kind_read : (units : List Unit) (list : List KeyKind) (k : ℕ) (x : KeyKind) → ((k : ℕ) → slice_get list k ≡ kind_in (keys units) k)
    → k < length (keys units) → x ≡ get_or list k x → kind_of units k ≡ Some x
kind_read units list k x h lt is =
    sym (h k ∙ kind_is units k) ∙ (slice_get-get_or list k x (kind_there (keys units) list h k lt) ∙ ap Some (sym is))

-- ---- the numbers of keys

below_step : (b : Bool) (a n k m : ℕ) (rest : List (ℕ × Declaration)) (d : Declaration)
    → ((j : ℕ) → slice_get (map (λ k. k.0) rest) j ≡ Some k → k < a + 1 + m)
    → slice_get (map (λ k. k.0) (cond b ((a, d) ∷ rest) rest)) n ≡ Some k → k < a + suc m
below_step true a zero k m rest d again h = let e : a ≡ k = cc in omega arith
below_step true a (suc n) k m rest d again h = let lt = again n h in omega arith
below_step false a n k m rest d again h = let lt = again n h in omega arith

below : (p : ℕ × Declaration → Bool) (a : ℕ) (ds : List Declaration) (n k : ℕ)
    → slice_get (map (λ k. k.0) (filter p (enumerate_from a ds))) n ≡ Some k → k < a + length ds
below p a [] n k h = absurd (cc)
below p a (d ∷ ds) n k h =
    below_step (p (a, d)) a n k (length ds) (filter p (enumerate_from (a + 1) ds)) d (λ j e. below p (a + 1) ds j k e) h

pub number_below : (is_kind : Item → Bool) (ds : List Declaration) (n k : ℕ) → slice_get (key_numbers is_kind ds) n ≡ Some k → k < length ds
number_below is_kind ds n k h = let lt = below (λ (k : ℕ × Declaration). is_kind k.1.item) 0 ds n k h in omega arith

pub function_number : (units : List Unit) (n k : ℕ) → slice_get (key_numbers is_function (keys units)) n ≡ Some k
    → key_of units (kinds.Function n) ≡ Some k
unfolding key_of
function_number units n k h = h

pub variable_number : (units : List Unit) (n k : ℕ) → slice_get (key_numbers is_variable (keys units)) n ≡ Some k
    → key_of units (kinds.Variable n) ≡ Some k
unfolding key_of
variable_number units n k h = h

pub external_number : (units : List Unit) (n k : ℕ) → slice_get (key_numbers is_external (keys units)) n ≡ Some k
    → key_of units (kinds.External n) ≡ Some k
unfolding key_of
external_number units n k h = h

-- ---- alignments

pub alignment_read : (units : List Unit) (list : List ℕ) (k x : ℕ) → list ≡ map (alignment_in (declarations units)) (keys units)
    → k < length (keys units) → x ≡ get_or list k x → option_map (key_alignment units) (slice_get (keys units) k) ≡ Some x
alignment_read units list k x h lt is =
    let long : length list ≡ length (keys units) = ap length h ∙ length-map (keys units) (alignment_in (declarations units)) in
    let short : k < length list = omega arith in
    (λ i. option_map (λ d. sym (key_greatest units d) i) (slice_get (keys units) k))
    ∙ (sym (slice_get-map (alignment_in (declarations units)) (keys units) k)
    ∙ (ap (λ l. slice_get l k) (sym h) ∙ (slice_get-get_or list k x short ∙ ap Some (sym is))))

positive_at : (ds ks : List Declaration) (k x : ℕ) → option_map (alignment_in ds) (slice_get ks k) ≡ Some x → 0 < x
positive_at ds [] k x h = absurd (cc)
positive_at ds (d ∷ ks) zero x h = let e : alignment_in ds d ≡ x = cc in let p = positive (scoped_name d) ds in omega (arith, e, p)
positive_at ds (d ∷ ks) (suc k) x h = positive_at ds ks k x h

pub alignment_positive : (units : List Unit) (k x : ℕ) → option_map (key_alignment units) (slice_get (keys units) k) ≡ Some x → 0 < x
alignment_positive units k x h =
    positive_at (declarations units) (keys units) k x ((λ i. option_map (λ d. key_greatest units d i) (slice_get (keys units) k)) ∙ h)

pub variable_aligned : (units : List Unit) (v k x : ℕ) → key_of units (kinds.Variable v) ≡ Some k
    → option_map (key_alignment units) (slice_get (keys units) k) ≡ Some x → variable_alignment units v ≡ Some x
variable_aligned units v k x h e = rw h e
