-- Lists of tests, one after another.
use Rattle.std.proofs.Common.{◌≡◌, ℕ, Bool, true, false, ◌&&◌, List, [], ◌∷◌, ◌++◌, cond, Option, Some, None, Ok, refl, sym, ap, ◌∙◌, subst}
use Rattle.std.proofs.Common.{append_assoc}
use Rattle.std.specs.Prelude.{⊤, Result, filter}
use Rattle.ordered_tests.specs.Checks.{Check, first_fault}
use Rattle.ordered_tests.specs.Steps.{unless, all_pass, ◌>>◌}
use Rattle.ordered_tests.specs.Answers.{IsTold}
use Rattle.ordered_tests.proofs.Faults.{first_fault_after, first_fault_before}
use Rattle.ordered_tests.proofs.Answers.{no_fault, one_fault}
use Rattle.asm_syntax.specs.declared.unit.Unit.{Unit}
use Rattle.link_model.specs.declared.link_error.LinkError.TheVariants.{DefinedTwice, SigDiffers}
use Rattle.link_model.specs.Program.{Declaration, name_of, is_external, is_global_definition, is_key, joins, declarations, keys}
use Rattle.link_model.specs.LinkTests.{unit_tests, definition_tests, name_tests, sig_tests, repeat_tests, same_external, entry_test}
use Rattle.link_model.specs.LinkTests.{size_tests, link_tests}
use Rattle.linked_program.specs.Linked.{all_name_tests}

-- where the first tests pass, the others decide
pub past : {F : Type 0} → (xs ys : List (Check F)) → all_pass xs ≡ Ok tt → all_pass (xs ++ ys) ≡ all_pass ys
past xs ys h = ap unless (first_fault_after xs ys (no_fault (first_fault xs) h))

-- what the first tests tell, all tell
pub told_first : {F : Type 0} → (o : Option F) (xs ys : List (Check F)) → IsTold {T = ⊤} o (all_pass xs)
    → IsTold {T = ⊤} o (all_pass (xs ++ ys))
told_first None xs ys h = tt
told_first (Some f) xs ys h = ap unless (first_fault_before xs ys f (one_fault (first_fault xs) f h))

-- what the others tell, all tell where the first pass
pub told_past : {F : Type 0} → (o : Option F) (xs ys : List (Check F)) → all_pass xs ≡ Ok tt → IsTold {T = ⊤} o (all_pass ys)
    → IsTold {T = ⊤} o (all_pass (xs ++ ys))
told_past o xs ys h t = subst (IsTold {T = ⊤} o) (sym (past xs ys h)) t

-- a fault stays where something follows
pub told_then : {T F : Type 0} → (o : Option F) (r : Result ⊤ F) (next : Result T F) → IsTold {T = ⊤} o r → IsTold {T = T} o (r >> next)
told_then None r next h = tt
told_then {F = F} (Some f) r next h = ap (λ (r : Result ⊤ F). r >> next) h

pub tests_are : (units : List Unit) (entry : List ℕ)
    → all_name_tests units ++ (entry_test units entry ∷ [] ++ size_tests 0 (keys units)) ≡ link_tests units entry
unfolding link_tests
tests_are units entry =
    let rest = entry_test units entry ∷ size_tests 0 (keys units) in
    append_assoc (unit_tests units) (definition_tests units ++ (name_tests units ++ sig_tests units)) rest
    ∙ ap (λ cs. unit_tests units ++ cs) (append_assoc (definition_tests units) (name_tests units ++ sig_tests units) rest
    ∙ ap (λ cs. definition_tests units ++ cs) (append_assoc (name_tests units) (sig_tests units) rest))

-- ---- the tests of declarations

pub definitions_are : (units : List Unit) (ds : List Declaration) → ds ≡ declarations units
    → repeat_tests joins (λ d. DefinedTwice d.unit (name_of d)) (filter is_global_definition ds) ≡ definition_tests units
definitions_are units ds h = ap (λ ds. repeat_tests joins (λ d. DefinedTwice d.unit (name_of d)) (filter is_global_definition ds)) h

both_step : (p q : Bool) (d : Declaration) (xs ys : List Declaration) (r : Declaration → Bool) → r d ≡ p → filter r xs ≡ ys
    → filter r (cond q (d ∷ xs) xs) ≡ cond (p && q) (d ∷ ys) ys
both_step true true d xs ys r h k = rw h (ap (λ l. d ∷ l) k)
both_step true false d xs ys r h k = k
both_step false true d xs ys r h k = rw h k
both_step false false d xs ys r h k = k

filter_both : (r q : Declaration → Bool) (ds : List Declaration) → filter r (filter q ds) ≡ filter (λ d. r d && q d) ds
filter_both r q [] = refl
filter_both r q (d ∷ ds) = both_step (r d) (q d) d (filter q ds) (filter (λ d. r d && q d) ds) r refl (filter_both r q ds)

pub signatures_are : (units : List Unit) (ds : List Declaration) → ds ≡ filter (λ d. is_key units d.item) (declarations units)
    → repeat_tests same_external (λ d. SigDiffers d.unit (name_of d)) (filter (λ (d : Declaration). is_external d.item) ds)
    ≡ sig_tests units
signatures_are units ds h =
    ap (λ ds. repeat_tests same_external (λ d. SigDiffers d.unit (name_of d)) ds)
    (ap (filter (λ (d : Declaration). is_external d.item)) h
    ∙ filter_both (λ (d : Declaration). is_external d.item) (λ (d : Declaration). is_key units d.item) (declarations units))
