-- What holds of the value that steps give, step by step.
use Rattle.std.proofs.Common.{◌≡◌, Option, Some, None, List, Result, Ok, Err, refl}
use Rattle.std.specs.Prelude.{IfOk}
use Rattle.ordered_tests.specs.Checks.{Check, first_fault}
use Rattle.ordered_tests.specs.Steps.{◌>>=◌, ◌>>◌, unless, all_pass}

pub if_bind : {A B F : Type 0} (P : A → Type 0) (Q : B → Type 0) (r : Result A F) (next : A → Result B F) → IfOk r P
    → ((x : A) → P x → IfOk (next x) Q) → IfOk (r >>= next) Q
if_bind P Q (Ok x) next p h = h x p
if_bind P Q (Err fault) next p h = tt

-- where nothing is said of the first value
pub if_next : {A B F : Type 0} (Q : B → Type 0) (r : Result A F) (next : A → Result B F) → ((x : A) → IfOk (next x) Q) → IfOk (r >>= next) Q
if_next Q (Ok x) next h = h x
if_next Q (Err fault) next h = tt

pub if_then : {A B F : Type 0} (Q : B → Type 0) (r : Result A F) (next : Result B F) → IfOk next Q → IfOk (r >> next) Q
if_then Q (Ok x) next h = h
if_then Q (Err fault) next h = tt

-- behind tests, these pass
pub if_passed : {B F : Type 0} (Q : B → Type 0) (tests : List (Check F)) (next : Result B F) → (first_fault tests ≡ None → IfOk next Q)
    → IfOk (all_pass tests >> next) Q
if_passed {F = F} Q tests next h = at (first_fault tests) h
  where
    at : (fault : Option F) → (fault ≡ None → IfOk next Q) → IfOk (unless fault >> next) Q
    at None k = k refl
    at (Some fault) k = tt
