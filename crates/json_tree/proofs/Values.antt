-- What holds of the values that are read.
use Rattle.std.proofs.Common.{◌≡◌, ℕ, ◌+◌, ◌≤◌, Bool, true, false, List, [], ◌∷◌, length, refl, arith}
use Rattle.std.specs.Prelude.{Option, Some, None, Result, Ok, Err, IfOk, nat_le}
use Rattle.std.proofs.lemmas.Bool.{leb-true}
use Rattle.serde_json.specs.Data.{Data}
use Rattle.serde_json.specs.Find.{get}
use Rattle.asm_syntax.specs.declared.path.Step.{Step}
use Rattle.asm_syntax.specs.declared.path.Step.TheVariants.{Key, Index}
use Rattle.ordered_tests.specs.Lists.{EachOf}
use Rattle.ordered_tests.specs.Steps.{◌>>◌}
use Rattle.ordered_tests.proofs.Steps.{if_bind, if_next}
use Rattle.json_tree.specs.declared.fault.Fault.{Fault}
use Rattle.json_tree.specs.Reading.{under, if_there, field}
use Rattle.json_tree.specs.Arrays.{items, limited, list, each_from}

pub if_under : {A : Type 0} (P : A → Type 0) (step : Step) (r : Result A Fault) → IfOk r P → IfOk (under step r) P
if_under P step (Ok x) h = h
if_under P step (Err fault) h = tt

pub if_field : {A : Type 0} (P : A → Type 0) (key : List ℕ) (read : Data → Result A Fault) (d : Data) → ((e : Data) → IfOk (read e) P)
    → IfOk (field key read d) P
unfolding field
if_field P key read d h = if_under P (Key key) (if_there (get key d) read) (at (get key d))
  where
    at : (o : Option Data) → IfOk (if_there o read) P
    at None = tt
    at (Some e) = h e

-- each item, and how many there are
abbrev pub AreItems : {T : Type 0} → (T → Type 0) → ℕ → List T → Type 0
AreItems P count xs = EachOf P xs × (length xs ≡ count)

if_each : {T : Type 0} (P : T → Type 0) (read : Data → Result T Fault) → ((e : Data) → IfOk (read e) P) → (i : ℕ) (ds : List Data)
    → IfOk (each_from {S = Unit {0}} (λ left x. left) (λ left. read) tt i ds) (AreItems P (length ds))
unfolding each_from
if_each P read h i [] = (tt, refl)
if_each P read h i (d ∷ ds) =
    if_bind P (AreItems P (length (d ∷ ds))) (under (Index i) (read d)) _ (if_under P (Index i) (read d) (h d)) (λ x p.
    if_bind (AreItems P (length ds)) (AreItems P (length (d ∷ ds)))
    (each_from {S = Unit {0}} (λ left x. left) (λ left. read) tt (i + 1) ds) _
    (if_each P read h (i + 1) ds) (λ xs q. ((p, q.0), omega arith)))

-- each item, of which there are no more than the limit
abbrev pub AreLimited : {T : Type 0} → (T → Type 0) → ℕ → List T → Type 0
AreLimited P limit xs = EachOf P xs × (length xs ≤ limit)

-- behind the test of their number, items are so many
pub if_limited : {T : Type 0} (Q : T → Type 0) (limit : ℕ) (ds : List Data) (next : Result T Fault) → (length ds ≤ limit → IfOk next Q)
    → IfOk (limited limit ds >> next) Q
unfolding limited
if_limited Q limit ds next h = at (nat_le (length ds) limit) refl
  where
    at : (t : Bool) → nat_le (length ds) limit ≡ t → IfOk (limited limit ds >> next) Q
    at true e = rw e (h (leb-true (length ds) limit e))
    at false e = rw e tt

pub if_list : {T : Type 0} (P : T → Type 0) (limit : ℕ) (read : Data → Result T Fault) (d : Data) → ((e : Data) → IfOk (read e) P)
    → IfOk (list limit read d) (AreLimited P limit)
unfolding list
if_list {T = T} P limit read d h =
    if_next (AreLimited P limit) (items d) _ (λ ds. if_limited (AreLimited P limit) limit ds _ (λ few.
    weak ds few (each_from {S = Unit {0}} (λ left x. left) (λ left. read) tt 0 ds) (if_each P read h 0 ds)))
  where
    weak : (ds : List Data) → length ds ≤ limit → (r : Result (List T) Fault) → IfOk r (AreItems P (length ds))
        → IfOk r (AreLimited P limit)
    weak ds few (Ok xs) p = (p.0, omega (arith, p.1, few))
    weak ds few (Err fault) p = tt
