-- What a step of the code answers and leaves, by what the definition says.
use Rattle.std.specs.Prelude.{◌≡◌, ℕ, List, [], ◌∷◌, length, slice_index_or, Option}
use Rattle.ppc_machine.specs.declared.externals.Event.{Event}
use Rattle.ppc_machine.specs.declared.cpu.Flat as answer
use Rattle.ppc_machine.specs.declared.cpu.Flat.TheVariants as gives
use Rattle.image_model.specs.Image.{Segment}
use Rattle.asm_syntax.specs.declared.unit.Reply.{Reply}
use Rattle.ppc_machine.specs.Externals.{Table, external_at}
use Rattle.ppc_machine.specs.Steps.{flat_step}
use Rattle.ppc_machine.specs.State.{FlatCpu, Processor, state, FlatState, FlatNext, Went, Called, Ended, Starved, Faulted}

-- a word of the arguments, 0 behind the last
abbrev pub word_at : List ℕ → ℕ → ℕ
word_at words i = slice_index_or words i 0

-- the number of an external and the words of its arguments, in eight places
abbrev pub shown : ℕ → List ℕ → Event
shown number words = record {
  number = number;
  count = length words;
  words =
      word_at words 0 ∷ word_at words 1 ∷ word_at words 2 ∷ word_at words 3
      ∷ word_at words 4 ∷ word_at words 5 ∷ word_at words 6 ∷ word_at words 7 ∷ [];
}

-- the answer, and the states before and after
abbrev pub Answers : FlatNext → answer.Flat → FlatState → FlatState → Type 0
Answers (Went t) result old new = (result ≡ gives.Went) × (new ≡ t)
Answers (Called e t) result old new = (result ≡ gives.Called (shown e.number e.words)) × (new ≡ t)
Answers (Ended w) result old new = (result ≡ gives.Ended w) × (new ≡ old)
Answers Starved result old new = (result ≡ gives.Starved) × (new ≡ old)
Answers (Faulted e) result old new = (result ≡ gives.Faulted e) × (new ≡ old)

-- a step that leads there from the state of a processor and its memory, and the two behind it
abbrev pub Runs : (FlatState → FlatNext) → answer.Flat → Processor → List Segment → Processor → List Segment → Type 0
Runs step result c m c' m' = Answers (step (state c m)) result (state c m) (state c' m')

-- the bytes of the buffers that a call reads; all other steps read none
abbrev pub read_by : FlatNext → List (List ℕ)
read_by (Called e t) = e.reads
read_by _ = []

-- the step of a machine, by the external function at its place
abbrev pub step_from : FlatCpu → Table → Option Reply → FlatState → FlatNext
step_from c table r t = flat_step c.stop t (external_at table t.pc) r
