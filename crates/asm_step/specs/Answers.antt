-- How the answer of a step tells what it leads to.
use Rattle.std.specs.Prelude.{◌≡◌, ℕ, true, false, Bool, List, [], ◌∷◌, length, slice_index_or}
use Rattle.asm_mem.specs.declared.value.Val.TheVariants.{Undef}
use Rattle.asm_step.specs.declared.answer.Asm as asm
use Rattle.asm_step.specs.declared.answer.Asm.TheVariants as answers
use Rattle.asm_step.specs.declared.answer.AsmEvent.{AsmEvent}
use Rattle.asm_step.specs.State.{State, Call, Next, Went, Called, Ended, Starved, Undefined}

-- the event of a call: eight values, those past its arguments Undef
abbrev pub event_of : Call → AsmEvent
event_of c =
    let v = λ (n : ℕ). slice_index_or c.values n Undef in
    record { number = c.key; count = length c.values; vals = v 0 ∷ v 1 ∷ v 2 ∷ v 3 ∷ v 4 ∷ v 5 ∷ v 6 ∷ v 7 ∷ [] }

-- the answer, and the states before and after
abbrev pub Answers : Next → asm.Asm → State → State → Type 0
Answers (Went t) answer old new = (answer ≡ answers.Went) × (new ≡ t)
Answers (Called c t) answer old new = (answer ≡ answers.Called (event_of c)) × (new ≡ t)
Answers (Ended n) answer old new = (answer ≡ answers.Ended n) × (new ≡ old)
Answers Starved answer old new = (answer ≡ answers.Starved) × (new ≡ old)
Answers (Undefined why) answer old new = (answer ≡ answers.Undefined why) × (new ≡ old)

-- the bytes that a step reads
abbrev pub reads_of : Next → List (List ℕ)
reads_of (Called c t) = c.reads
reads_of _ = []

-- the bytes that stand there after an answer
abbrev pub Shows : asm.Asm → Next → List (List ℕ) → Type 0
Shows (answers.Called e) n bytes = bytes ≡ reads_of n
Shows _ n bytes = bytes ≡ []

abbrev pub is_call : asm.Asm → Bool
is_call (answers.Called e) = true
is_call _ = false

-- what calls no external function
abbrev pub Acts : Next → asm.Asm → State → State → Type 0
Acts n answer old new = Answers n answer old new × (is_call answer ≡ false)
