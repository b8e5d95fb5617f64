-- What a call answers where a definition says what is due: the value or the fault that is due. Want of memory alone is free.
use Rattle.std.specs.Prelude.{◌≡◌, Option, Some, None, Result, Ok, Err, ⊤}

-- what is due is the fault that an error tells, if it tells one
abbrev pub IsTold : {T F : Type 0} → Option F → Result T F → Type 0
IsTold None due = ⊤
IsTold (Some fault) due = due ≡ Err fault

-- `told` is the fault that an error tells, None for want of memory. The value is seen by `view`
abbrev pub AnswersAs : {X T E F : Type 0} → (E → Option F) → (X → T) → Result X E → Result T F → Type 0
AnswersAs told view (Ok x) due = due ≡ Ok (view x)
AnswersAs told view (Err error) due = IsTold (told error) due

abbrev pub Answers : {T E F : Type 0} → (E → Option F) → Result T E → Result T F → Type 0
Answers told answer due = AnswersAs told (λ x. x) answer due
