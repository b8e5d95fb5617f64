-- What holds of all that the grammar of units reads, and of the faults for which it reads nothing.
use Rattle.std.proofs.Common.{◌≡◌, ℕ, ◌+◌, Bool, true, false, not, ◌&&◌, List, [], ◌∷◌, length, map, Option, Some, None, Result, Ok, Err}
use Rattle.std.proofs.Common.{refl}
use Rattle.std.specs.Prelude.{nat_le, slice_index_or, if◌then◌else◌, IsTrue}
use Rattle.std.specs.List.{list_all}
use Rattle.serde_json.specs.Data.{Data, null}
use Rattle.serde_json.specs.Find.{get}
use Rattle.asm_syntax.specs.declared.path.Step.{Step}
use Rattle.asm_syntax.specs.declared.path.Step.TheVariants.{Key, Index}
use Rattle.json_tree.specs.declared.fault.Cause.TheVariants.{Limit, OutOfRange}
use Rattle.json_tree.specs.declared.fault.Fault.{Fault}
use Rattle.json_tree.specs.Reading.{◌>>=◌, ◌>>◌, fail, under, if_there, field, name}
use Rattle.json_tree.specs.Arrays.{items, limited, each_from, list, nth}
use Rattle.json_tree.specs.NewNames.{named_list, new_name, is_taken, with_name}
use Rattle.json_tree.specs.Causes.{FailsBy}
use Rattle.json_tree.proofs.Causes.{of_items, of_name}
use Rattle.dump_reader.specs.Causes.{is_dump_cause}
use Rattle.dump_reader.proofs.OperandCauses.{shared}

-- what is read has a property, and a fault has a cause of units
abbrev pub Has : {T : Type 0} → (T → Type 0) → Result T Fault → Type 0
Has P (Ok x) = P x
Has P (Err fault) = IsTrue (is_dump_cause fault.cause)

pub of_ok : {T : Type 0} (P : T → Type 0) (r : Result T Fault) (x : T) → Has P r → r ≡ Ok x → P x
of_ok P r x h is = rw is at h

pub any : {T : Type 0} (r : Result T Fault) → FailsBy is_dump_cause r → Has (λ _. Unit {0}) r
any (Ok x) h = tt
any (Err fault) h = h

pub causes : {T : Type 0} (P : T → Type 0) (r : Result T Fault) → Has P r → FailsBy is_dump_cause r
causes P (Ok x) h = tt
causes P (Err fault) h = h

-- ---- one reading after another

pub after : {A T : Type 0} (Q : A → Type 0) (P : T → Type 0) (r : Result A Fault) (read : A → Result T Fault) → Has Q r → ((a : A)
    → Q a → Has P (read a)) → Has P (r >>= read)
after Q P (Ok a) read q h = h a q
after Q P (Err fault) read q h = q

pub after_any : {A T : Type 0} (P : T → Type 0) (r : Result A Fault) (read : A → Result T Fault) → FailsBy is_dump_cause r → ((a : A)
    → Has P (read a)) → Has P (r >>= read)
after_any P (Ok a) read f h = h a
after_any P (Err fault) read f h = f

pub behind : {A T : Type 0} (P : T → Type 0) (r : Result A Fault) (read : Result T Fault) → FailsBy is_dump_cause r → Has P read
    → Has P (r >> read)
behind P (Ok a) read f h = h
behind P (Err fault) read f h = f

pub behind_passed : {A T : Type 0} (Q : A → Type 0) (P : T → Type 0) (r : Result A Fault) (read : Result T Fault) → Has Q r → ((a : A)
    → Q a → Has P read) → Has P (r >> read)
behind_passed Q P (Ok a) read q h = h a q
behind_passed Q P (Err fault) read q h = q

pub weaken : {T : Type 0} (P Q : T → Type 0) → ((x : T) → P x → Q x) → (r : Result T Fault) → Has P r → Has Q r
weaken P Q f (Ok x) h = f x h
weaken P Q f (Err fault) h = h

pub below : {T : Type 0} (P : T → Type 0) (step : Step) (r : Result T Fault) → Has P r → Has P (under step r)
below P step (Ok x) h = h
below P step (Err fault) h = h

pub at_field : {T : Type 0} (P : T → Type 0) (key : List ℕ) (read : Data → Result T Fault) (d : Data) → ((e : Data) → Has P (read e))
    → Has P (field key read d)
unfolding field
at_field P key read d h = below P (Key key) (if_there (get key d) read) (at (get key d)) where
  at : (o : Option Data) → Has P (if_there o read)
  at None = refl
  at (Some e) = h e

-- ---- arrays

pub at_item : {T : Type 0} (P : T → Type 0) (i : ℕ) (read : Data → Result T Fault) (ds : List Data) → ((e : Data) → Has P (read e))
    → Has P (nth i read ds)
unfolding nth
at_item P i read ds h = below P (Index i) (read (slice_index_or ds i null)) (h (slice_index_or ds i null))

-- each item has a property of what those before it left
abbrev pub Each : {S T : Type 0} → (S → T → Type 0) → (S → T → S) → S → List T → Type 0
Each P next left [] = Unit {0}
Each P next left (x ∷ xs) = P left x × Each P next (next left x) xs

pub each_has : {S T : Type 0} (P : S → T → Type 0) (next : S → T → S) (read : S → Data → Result T Fault) → ((left : S) (e : Data)
    → Has (P left) (read left e)) → (left : S) (i : ℕ) (ds : List Data)
    → Has (λ xs. Each P next left xs × (length xs ≡ length ds)) (each_from next read left i ds)
unfolding each_from
each_has P next read h left i [] = (tt, refl)
each_has P next read h left i (d ∷ ds) =
    after (P left) _ (under (Index i) (read left d)) _ (below (P left) (Index i) (read left d) (h left d)) λ x p.
    after (λ xs. Each P next (next left x) xs × (length xs ≡ length ds)) _ (each_from next read (next left x) (i + 1) ds) _
    (each_has P next read h (next left x) (i + 1) ds) λ xs q. ((p, q.0), rw q.1 refl)

pub few : (limit : ℕ) (ds : List Data) → Has (λ _. nat_le (length ds) limit ≡ true) (limited limit ds)
unfolding limited
few limit ds = at (nat_le (length ds) limit) refl where
  at : (b : Bool) → nat_le (length ds) limit ≡ b
      → Has {T = Unit {0}} (λ _. nat_le (length ds) limit ≡ true) (if b then Ok tt else fail (Limit limit))
  at true is = is
  at false is = refl

abbrev pub Limited : {T : Type 0} → ℕ → (List T → Type 0) → List T → Type 0
Limited limit P xs = P xs × (nat_le (length xs) limit ≡ true)

all_read : {T : Type 0} (test : T → Bool) (xs : List T) → Each {S = Unit {0}} (λ left x. test x ≡ true) (λ left x. left) tt xs
    → list_all test xs ≡ true
all_read test [] h = refl
all_read test (x ∷ xs) h = rw (h.0, all_read test xs h.1) refl

-- the items of an array with a limit pass a test that each item passes that is read
pub list_has : {T : Type 0} (test : T → Bool) (limit : ℕ) (read : Data → Result T Fault) → ((e : Data)
    → Has (λ x. test x ≡ true) (read e)) → (d : Data) → Has (Limited limit (λ xs. list_all test xs ≡ true)) (list limit read d)
unfolding list
list_has test limit read h d =
    after_any _ (items d) _ (of_items _ shared d) λ ds.
    behind_passed (λ _. nat_le (length ds) limit ≡ true) _ (limited limit ds) _ (few limit ds) λ _ le.
    weaken _ (Limited limit (λ xs. list_all test xs ≡ true)) (λ xs q.
    (all_read test xs q.0, rw q.1 le)) _ (each_has {S = Unit {0}} (λ left x. test x ≡ true) (λ left x. left) (λ left. read) (λ left e.
    h e) tt 0 ds)

-- ---- names

-- each name is none of those that are taken, nor of those before it
abbrev pub fresh : List (List ℕ) → List (List ℕ) → Bool
fresh taken [] = true
fresh taken (name ∷ names) = not (is_taken taken name) && fresh (with_name taken name) names

abbrev pub IsNew : {T : Type 0} → (T → Bool) → (T → List ℕ) → List (List ℕ) → T → Type 0
IsNew test name_of taken x = (test x ≡ true) × (is_taken taken (name_of x) ≡ false)

abbrev pub AreNew : {T : Type 0} → (T → Bool) → (T → List ℕ) → List (List ℕ) → List T → Type 0
AreNew test name_of taken xs = (list_all test xs ≡ true) × (fresh taken (map name_of xs) ≡ true)

all_new : {T : Type 0} (test : T → Bool) (name_of : T → List ℕ) (taken : List (List ℕ)) (xs : List T)
    → Each (IsNew test name_of) (λ left x. with_name left (name_of x)) taken xs → AreNew test name_of taken xs
all_new test name_of taken [] h = (refl, refl)
all_new test name_of taken (x ∷ xs) h =
    let rest = all_new test name_of (with_name taken (name_of x)) xs h.1 in
    (rw (h.0.0, rest.0) refl, rw (h.0.1, rest.1) refl)

pub named_list_has : {T : Type 0} (test : T → Bool) (name_of : T → List ℕ) (read : List (List ℕ) → Data → Result T Fault)
    → ((taken : List (List ℕ)) (e : Data) → Has (IsNew test name_of taken) (read taken e))
    → (taken : List (List ℕ)) (limit : ℕ) (d : Data)
    → Has (Limited limit (AreNew test name_of taken)) (named_list name_of read taken limit d)
unfolding named_list
named_list_has test name_of read h taken limit d =
    after_any _ (items d) _ (of_items _ shared d) λ ds.
    behind_passed (λ _. nat_le (length ds) limit ≡ true) _ (limited limit ds) _ (few limit ds) λ _ le.
    weaken _ (Limited limit (AreNew test name_of taken)) (λ xs q.
    (all_new test name_of taken xs q.0, rw q.1 le)) _ (each_has (IsNew test name_of) (λ left x.
    with_name left (name_of x)) read h taken 0 ds)

-- a name that is new is not taken
pub new_name_has : (taken : List (List ℕ)) (d : Data) → Has (λ name. is_taken taken name ≡ false) (new_name taken d)
unfolding new_name
new_name_has taken d = after_any _ (name d) _ (of_name _ shared d) λ bytes. at bytes (is_taken taken bytes) refl where
  at : (bytes : List ℕ) (b : Bool) → is_taken taken bytes ≡ b
      → Has (λ name. is_taken taken name ≡ false) (if b then fail OutOfRange else Ok bytes)
  at bytes true is = refl
  at bytes false is = is
