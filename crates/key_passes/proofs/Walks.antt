-- The tests and the claims of the keys, one key after another.
use Rattle.std.proofs.Common.{◌≡◌, ℕ, zero, suc, ◌+◌, ◌<◌, ◌≤◌, List, [], ◌∷◌, ◌++◌, length, get_or, map, take, drop, Option, Some, None}
use Rattle.std.proofs.Common.{Ok, Err, refl, sym, ap, ◌∙◌, arith, append_assoc, append-nil, length-append, true, false, Bool, if◌then◌else◌}
use Rattle.std.specs.Prelude.{slice_get, option_map, Result, OnOk}
use Rattle.std.specs.List.{flat_map, enumerate_from}
use Rattle.std.proofs.lemmas.List.{drop_more, drop_all}
use Rattle.ordered_tests.specs.Checks.{Check, check, first_fault}
use Rattle.ordered_tests.proofs.Faults.{first_fault_after, first_fault_before}
use Rattle.code_model.specs.declared.spot.Spot.{Spot}
use Rattle.link_model.specs.declared.fault.Fault.{Fault}
use Rattle.link_model.specs.Overlaps.{fault_at}
use Rattle.asm_syntax.specs.declared.unit.External.{External}
use Rattle.link_model.specs.Numbers.{unit_name, item_externals}
use Rattle.link_model.specs.Program.{Declaration, keys, name_of}
use Rattle.link_model.specs.Candidates.{Inputs}
use Rattle.link_model.specs.Passes.{at_key, item_external_checks, item_function_checks, item_variable_checks}
use Rattle.key_passes.specs.declared.fault.CheckFault.{CheckFault}
use Rattle.key_passes.specs.declared.fault.CheckFault.TheVariants.{No, Memory}
use Rattle.expansions.proofs.Walks.{at_get}
use Rattle.key_passes.specs.Answers.{Decides, fault_of}

-- ---- what the elements from the place k on give, by their places

abbrev pub given_from : {X Y : Type 0} → (ℕ × X → List Y) → List X → ℕ → List Y
given_from f xs k = flat_map f (enumerate_from k (drop k xs))

pub given_step : {X Y : Type 0} (f : ℕ × X → List Y) (xs : List X) (k : ℕ) (x : X) → slice_get xs k ≡ Some x
    → given_from f xs k ≡ f (k, x) ++ given_from f xs (k + 1)
given_step f xs k x h = ap (λ l. flat_map f (enumerate_from k l)) (at_get xs k x h)

pub given_end : {X Y : Type 0} (f : ℕ × X → List Y) (xs : List X) (k : ℕ) → length xs ≤ k → given_from f xs k ≡ []
given_end f xs k le = ap (λ l. flat_map f (enumerate_from k l)) (drop_all k xs le)

-- ---- tests of one key

first_of_map : (g : Inputs) (d : Declaration) (cs : List (Check Spot))
    → first_fault (map (at_key g d) cs) ≡ fault_of (unit_name g.program.units d.unit) (name_of d) (first_fault cs)
first_of_map g d [] = refl
first_of_map g d (c ∷ cs) = at c.passes (first_of_map g d cs)
  where
    at : (b : Bool) → first_fault (map (at_key g d) cs) ≡ fault_of (unit_name g.program.units d.unit) (name_of d) (first_fault cs)
        → (if b then first_fault (map (at_key g d) cs) else Some (fault_at (unit_name g.program.units d.unit) (name_of d) c.fault None))
        ≡ fault_of (unit_name g.program.units d.unit) (name_of d) (if b then first_fault cs else Some c.fault)
    at true h = h
    at false h = refl

-- the first fault of the keys from number k on
abbrev pub faults_from : Inputs → (ℕ × Declaration → List (Check Spot)) → ℕ → Option Fault
faults_from g checks k = first_fault (given_from (λ j. map (at_key g j.1) (checks j)) (keys g.program.units) k)

module _ (g : Inputs) (checks : ℕ × Declaration → List (Check Spot)) (total : Option Fault) (k : ℕ) (d : Declaration) where
  -- no place of key k fails
  pub key_passes : slice_get (keys g.program.units) k ≡ Some d
      → (let none : Option Fault = None in fault_of (unit_name g.program.units d.unit) (name_of d) (first_fault (checks (k, d))) ≡ none)
      → faults_from g checks k ≡ total → faults_from g checks (k + 1) ≡ total
  key_passes here passes so_far =
      let h : ℕ × Declaration → List (Check Fault) = λ j. map (at_key g j.1) (checks j) in
      sym (ap first_fault (given_step h (keys g.program.units) k d here)
      ∙ first_fault_after (h (k, d)) (given_from h (keys g.program.units) (k + 1)) (first_of_map g d (checks (k, d)) ∙ passes))
      ∙ so_far

  -- one fails, or memory ran out
  pub key_fails : (T : Type 0) (e : CheckFault) → slice_get (keys g.program.units) k ≡ Some d
      → Decides {T = T} (fault_of (unit_name g.program.units d.unit) (name_of d) (first_fault (checks (k, d)))) (Err e)
      → faults_from g checks k ≡ total → Decides {T = T} total (Err e)
  key_fails T Memory here fails so_far = tt
  key_fails T (No f) here fails so_far =
      let h : ℕ × Declaration → List (Check Fault) = λ j. map (at_key g j.1) (checks j) in
      sym so_far ∙ (ap first_fault (given_step h (keys g.program.units) k d here)
      ∙ first_fault_before (h (k, d)) (given_from h (keys g.program.units) (k + 1)) f (first_of_map g d (checks (k, d)) ∙ fails))

-- no key is left
pub keys_end : (g : Inputs) (checks : ℕ × Declaration → List (Check Spot)) (total : Option Fault) (k : ℕ)
    → length (keys g.program.units) ≤ k → faults_from g checks k ≡ total → (let none : Option Fault = None in total ≡ none)
keys_end g checks total k le so_far =
    sym so_far ∙ ap first_fault (given_end (λ j. map (at_key g j.1) (checks j)) (keys g.program.units) k le)

-- ---- claims

-- what was there, and what the keys so far gave
pub claims_more : {X Y : Type 0} (f : ℕ × X → List Y) (xs : List X) (k : ℕ) (x : X) (before now after : List Y)
    → slice_get xs k ≡ Some x → after ≡ now ++ f (k, x) → now ++ given_from f xs k ≡ before → after ++ given_from f xs (k + 1) ≡ before
claims_more f xs k x before now after here is so_far =
    ap (λ l. l ++ given_from f xs (k + 1)) is
    ∙ (append_assoc now (f (k, x)) (given_from f xs (k + 1))
    ∙ (sym (ap (λ l. now ++ l) (given_step f xs k x here)) ∙ so_far))

pub claims_end : {X Y : Type 0} (f : ℕ × X → List Y) (xs : List X) (k : ℕ) (before now : List Y)
    → length xs ≤ k → now ++ given_from f xs k ≡ before → now ≡ before
claims_end f xs k before now le so_far =
    sym (append-nil now) ∙ (sym (ap (λ l. now ++ l) (given_end f xs k le)) ∙ so_far)

-- ---- the tests of a key, by pass

abbrev pub external_tests : Inputs → List ℕ → ℕ × Declaration → List (Check Spot)
external_tests g bs k = item_external_checks g bs k.0 k.1.item

abbrev pub function_tests : Inputs → List ℕ → ℕ × Declaration → List (Check Spot)
function_tests g bs k = item_function_checks g bs k.0 k.1.unit k.1.item

abbrev pub variable_tests : Inputs → List ℕ → ℕ × Declaration → List (Check Spot)
variable_tests g bs k = item_variable_checks g bs k.0 k.1.unit k.1.item

-- ---- external keys

abbrev pub declared_externals : Declaration → List External
declared_externals d = item_externals d.item

pub count_more : {X Y : Type 0} (f : X → List Y) (xs : List X) (k : ℕ) (x : X) (count one total : ℕ) → slice_get xs k ≡ Some x
    → one ≡ length (f x) → count + length (flat_map f (drop k xs)) ≡ total → count + one + length (flat_map f (drop (k + 1) xs)) ≡ total
count_more f xs k x count one total here is so_far =
    let e : length (flat_map f (drop k xs)) ≡ length (f x) + length (flat_map f (drop (k + 1) xs)) =
    ap (λ l. length (flat_map f l)) (at_get xs k x here) ∙ length-append (f x) (flat_map f (drop (k + 1) xs)) in
    omega arith

pub count_end : {X Y : Type 0} (f : X → List Y) (xs : List X) (k count total : ℕ) → length xs ≤ k
    → count + length (flat_map f (drop k xs)) ≡ total → count ≡ total
count_end f xs k count total le so_far =
    let e : length (flat_map f (drop k xs)) ≡ 0 = ap (λ l. length (flat_map f l)) (drop_all k xs le) in omega arith
