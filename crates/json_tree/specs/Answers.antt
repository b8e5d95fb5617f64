-- What a function answers where a definition says what is to be read.
use Rattle.std.specs.Prelude.{Option, Some, None, Result}
use Rattle.ordered_tests.specs.Answers.{AnswersAs}
use Rattle.json_tree.specs.declared.fault.Fault.{Fault}
use Rattle.json_tree.specs.declared.fault.ReadError.{ReadError}
use Rattle.json_tree.specs.declared.fault.ReadError.TheVariants as errors

abbrev pub told : ReadError → Option Fault
told errors.Memory = None
told (errors.Fault fault) = Some fault

-- the answer, seen by a view, is what the reading gives, unless memory ran out
abbrev pub GivesAs : {X T : Type 0} → (X → T) → Result X ReadError → Result T Fault → Type 0
GivesAs view answer reading = AnswersAs told view answer reading

abbrev pub Gives : {T : Type 0} → Result T ReadError → Result T Fault → Type 0
Gives answer reading = GivesAs (λ x. x) answer reading
