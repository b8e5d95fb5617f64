-- The tests of a function's instructions, from the front.
use Rattle.std.proofs.Common.{◌≡◌, ℕ, ◌+◌, ◌<◌, List, [], ◌∷◌, length, get_or, take, drop, Bool, true, false, Option, Some, None, refl, ap}
use Rattle.std.proofs.Common.{sym, ◌∙◌, arith}
use Rattle.std.specs.Prelude.{is_none, not, slice_get}
use Rattle.std.specs.List.{enumerate_from, list_any}
use Rattle.std.proofs.lemmas.List.{drop_more}
use Rattle.ordered_tests.specs.Checks.{Check, check, each_check, first_fault}
use Rattle.ordered_tests.specs.Lists.{EachOf}
use Rattle.ordered_tests.proofs.Faults.{each_passes_of, first_fault_before, head_passes, rest_passes}
use Rattle.ordered_tests.proofs.Lists.{each_flat, number_get}
use Rattle.asm_syntax.specs.declared.instr.Instr.{Instr}
use Rattle.asm_syntax.specs.declared.shape.ShapeError.{ShapeError}
use Rattle.asm_syntax.specs.declared.shape.ShapeError.TheVariants.{Empty}
use Rattle.asm_syntax.specs.Instructions.{has_words}
use Rattle.asm_shapes.specs.Shapes.{HasInstrShape, HasShape, code_tests, function_tests, is_valid_code, place_tests, repeats_label}
use Rattle.asm_shapes.specs.Shapes.{writes_reserved}

-- a place that fails decides
pub place_fails : {P F : Type 0} → (g : ℕ × P → List (Check F)) (xs : List P) (i : ℕ) (d : P) (f : F) → i < length xs
    → first_fault (g (i, get_or xs i d)) ≡ Some f → first_fault (each_check g (enumerate_from i (drop i xs))) ≡ Some f
place_fails g xs i d f h p =
    ap (λ l. first_fault (each_check g (enumerate_from i l))) (drop_more xs i d h)
    ∙ first_fault_before (g (i, get_or xs i d)) (each_check g (enumerate_from (i + 1) (drop (i + 1) xs))) f p

pub numbered_place_fails : {P F : Type 0} → (g : ℕ × P → List (Check F)) (xs : List P) (i : ℕ) (x : P) (f : F) → i < length xs
    → x ≡ get_or xs i x → first_fault (g (i, x)) ≡ Some f → first_fault (each_check g (enumerate_from i (drop i xs))) ≡ Some f
numbered_place_fails g xs i x f h is p = place_fails g xs i x f h (rw (← is) p)

none_from_test : {F : Type 0} → (o : Option F) → is_none o ≡ true → o ≡ None
none_from_test None h = refl
none_from_test (Some f) h = absurd (cc)

passes_of_not : (b : Bool) → not b ≡ true → b ≡ false
passes_of_not true h = sym h
passes_of_not false h = refl

abbrev passes : Check ShapeError → Type 0
passes c = c.passes ≡ true

-- what the tests of a function tell of each of its instructions
pub shape_of : (code : List Instr) → first_fault (function_tests code) ≡ None → HasShape code
shape_of code valid = record { words = head_passes (check (list_any has_words code) (Empty 0)) (code_tests code) valid; each = each }
  where
    all : EachOf passes (code_tests code)
    all = each_passes_of (code_tests code) (rest_passes (check (list_any has_words code) (Empty 0) ∷ []) (code_tests code) valid)

    each : (n : ℕ) (i : Instr) → slice_get code n ≡ Some i → HasInstrShape code n i
    each n i is =
        let number : 0 + n ≡ n = omega arith in
        let p = each_flat passes (place_tests code) (enumerate_from 0 code) all n (n, i) (rw number at (number_get 0 code n i is)) in
        record {
          register = passes_of_not (writes_reserved i) p.0;
          labels = p.1.0;
          first = passes_of_not (repeats_label (take n code) i) p.1.1.0;
          frame = p.1.1.1.0;
          operands = p.1.1.1.1.0;
        }

pub valid_shape : (code : List Instr) → is_valid_code code ≡ true → HasShape code
valid_shape code valid = shape_of code (none_from_test (first_fault (function_tests code)) valid)
