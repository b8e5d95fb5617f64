-- The external functions by their addresses, as the keys come one after another.
use Rattle.std.proofs.Common.{◌≡◌, ◌≢◌, ℕ, ◌+◌, Bool, true, false, List, [], ◌∷◌, ◌++◌, take, Option, Some, None, refl, ap, sym, ◌∙◌}
use Rattle.std.proofs.Common.{cond, eq-eqb, if◌then◌else◌}
use Rattle.std.specs.Prelude.{◌&&◌, ◌==◌, find, is_some, option_and_then}
use Rattle.std.specs.Option.{option_or}
use Rattle.std.proofs.lemmas.Bool.{eqb-true}
use Rattle.asm_syntax.specs.declared.unit.Sig.{Sig}
use Rattle.link_model.specs.Binding.{key_address}
use Rattle.link_model.specs.Program.{Declaration}
use Rattle.asm_machine.specs.Executables.{item_sig}
use Rattle.ppc_machine.specs.declared.externals.External.{External}
use Rattle.ppc_machine.specs.Externals.{Adds, Table, external_at}
use Rattle.machine_model.specs.FlatRuns.{external_of, stands_at}
use Rattle.machine_runs.specs.Outside.{AddsKey, external_here}

or_none : {X : Type 0} (o : Option X) → o ≡ option_or o None
or_none None = refl
or_none (Some x) = refl

-- a key that is called by nobody
nowhere : (bs : List ℕ) (a : ℕ) (k : ℕ × Declaration) → item_sig k.1.item ≡ None → external_here bs a k ≡ None
nowhere bs a k h = rw h (at (key_address bs k.0 == a) None)
  where
    at : (t : Bool) (o : Option External) → (if t && false then o else None) ≡ None
    at true o = refl
    at false o = refl

pub unchanged : (bs : List ℕ) (k : ℕ × Declaration) (table : Table) → item_sig k.1.item ≡ None → AddsKey bs k table table
unchanged bs k table h a = or_none (external_at table a) ∙ ap (option_or (external_at table a)) (sym (nowhere bs a k h))

-- the first key stays
pub taken : (bs : List ℕ) (k : ℕ × Declaration) (table : Table) → is_some (external_at table (key_address bs k.0)) ≡ true
    → AddsKey bs k table table
taken bs k table h a = at (external_at table a) (key_address bs k.0 == a) refl refl
  where
    at : (o : Option External) (t : Bool) → external_at table a ≡ o → (key_address bs k.0 == a) ≡ t
        → o ≡ option_or o (if t && is_some (item_sig k.1.item) then external_of k else None)
    at (Some x) t e f = refl
    at None false e f = refl
    at None true e f =
        let same : key_address bs k.0 ≡ a = eqb-true (key_address bs k.0) a f in
        let none : is_some (external_at table (key_address bs k.0)) ≡ false = ap (λ b. is_some (external_at table b)) same ∙ ap is_some e in
        absurd (cc)

pub added : (bs : List ℕ) (k : ℕ × Declaration) (sig : Sig) (old new : Table) → item_sig k.1.item ≡ Some sig
    → external_at old (key_address bs k.0) ≡ None → Adds old new (key_address bs k.0) (record { number = k.0; sig = sig })
    → AddsKey bs k old new
added bs k sig old new h free adds a = at (key_address bs k.0 == a) refl
  where
    other : (key_address bs k.0 == a) ≡ false → a ≢ key_address bs k.0
    other f e = let t : (key_address bs k.0 == a) ≡ true = eq-eqb (key_address bs k.0) a (sym e) in absurd (cc)

    at : (t : Bool) → (key_address bs k.0 == a) ≡ t
        → external_at new a ≡ option_or (external_at old a) (if t && is_some (item_sig k.1.item) then external_of k else None)
    at false f = adds.others a (other f) ∙ or_none (external_at old a)
    at true f =
        let same : a ≡ key_address bs k.0 = sym (eqb-true (key_address bs k.0) a f) in
        ap (external_at new) same ∙ (adds.added ∙ sym (rw (ap (external_at old) same ∙ free, h) refl))

-- ---- the keys one after another

-- what some keys have at an address
abbrev pub first_at : List ℕ → ℕ → List (ℕ × Declaration) → Option External
first_at bs a ks = option_and_then external_of (find (stands_at bs a) ks)

one_here : (bs : List ℕ) (a : ℕ) (y : ℕ × Declaration) → first_at bs a (y ∷ []) ≡ external_here bs a y
one_here bs a y = at (stands_at bs a y)
  where
    at : (t : Bool) → option_and_then external_of (cond t (Some y) None) ≡ (if t then external_of y else None)
    at true = refl
    at false = refl

first_more : (bs : List ℕ) (a : ℕ) (xs : List (ℕ × Declaration)) (y : ℕ × Declaration)
    → first_at bs a (xs ++ y ∷ []) ≡ option_or (first_at bs a xs) (external_here bs a y)
first_more bs a [] y = one_here bs a y
first_more bs a (x ∷ xs) y = at (key_address bs x.0 == a) (item_sig x.1.item) refl (first_more bs a xs y)
  where
    at : (t : Bool) (s : Option Sig) → item_sig x.1.item ≡ s
        → first_at bs a (xs ++ y ∷ []) ≡ option_or (first_at bs a xs) (external_here bs a y)
        → option_and_then external_of (cond (t && is_some s) (Some x) (find (stands_at bs a) (xs ++ y ∷ [])))
        ≡ option_or (option_and_then external_of (cond (t && is_some s) (Some x) (find (stands_at bs a) xs))) (external_here bs a y)
    at true (Some sig) e r = rw e refl
    at true None e r = r
    at false s e r = r

-- with the key that comes next
pub next_key : (bs : List ℕ) (ks : List (ℕ × Declaration)) (i : ℕ) (k : ℕ × Declaration) (old new : Table)
    → take (i + 1) ks ≡ take i ks ++ k ∷ [] → ((a : ℕ) → external_at old a ≡ first_at bs a (take i ks)) → AddsKey bs k old new
    → (a : ℕ) → external_at new a ≡ first_at bs a (take (i + 1) ks)
next_key bs ks i k old new more before adds a =
    adds a ∙ (ap (λ o. option_or o (external_here bs a k)) (before a)
    ∙ sym (ap (first_at bs a) more ∙ first_more bs a (take i ks) k))
