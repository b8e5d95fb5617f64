-- The text of a run: the traces of both machines, and whether they agree.
use Rattle.std.specs.Prelude.{ℕ, List, [], ◌∷◌, ◌++◌, codes, decimal, map, take, if◌then◌else◌, slice_get}
use Rattle.std.specs.List.{flat_map}
use Rattle.std.specs.Option.{option_map_or}
use Rattle.hex.specs.Hex.{encode_lower}
use Rattle.isa_model.specs.Word.{word_digits}
use Rattle.text_model.specs.Lines.{line}
use Rattle.asm_syntax.specs.declared.unit.Unit.{Unit}
use Rattle.link_model.specs.Program.{keys, name_of}
use Rattle.flat_mem.specs.declared.memory.FaultKind.{FaultKind}
use Rattle.flat_mem.specs.declared.memory.FaultKind.TheVariants as kinds
use Rattle.asm_step.specs.declared.answer.Why.{Why}
use Rattle.asm_step.specs.declared.answer.Why.TheVariants as whys
use Rattle.machine_runs.specs.declared.trace.Seen.{Seen}
use Rattle.machine_runs.specs.declared.trace.Outcome.{Outcome}
use Rattle.machine_runs.specs.declared.trace.Outcome.TheVariants.{Going, Ended, Starved, Undefined, Stack, Faulted, Full}
use Rattle.machine_runs.specs.declared.trace.Trace.{Trace}
use Rattle.run_text.specs.Agreement.{common_events, is_same}

-- ---- events

-- the name of a key
abbrev pub key_name : List Unit → ℕ → List ℕ
key_name units k = option_map_or name_of (slice_get (keys units) k) []

abbrev pub word_text : ℕ → List ℕ
word_text w = 0x20 ∷ word_digits w

-- the bytes of a buffer that is read
abbrev pub read_text : List ℕ → List ℕ
read_text bytes = codes " in:" ++ encode_lower bytes

abbrev pub words_text : Seen → List ℕ
words_text e = flat_map word_text (take e.event.count e.event.words)

abbrev pub reads_text : Seen → List ℕ
reads_text e = flat_map read_text e.read

abbrev pub event_text : List Unit → Seen → List ℕ
event_text units e = codes "call " ++ (key_name units e.event.number ++ (words_text e ++ (reads_text e ++ 0x0a ∷ [])))

-- ---- outcomes

abbrev pub why_word : Why → List ℕ
why_word whys.End = codes "end"
why_word whys.Access = codes "access"
why_word whys.Bit = codes "bit"
why_word whys.Count = codes "count"
why_word whys.Target = codes "target"
why_word whys.Argument = codes "argument"
why_word whys.Final = codes "final"
why_word whys.Divide = codes "divide"
why_word whys.Trap = codes "trap"
why_word whys.Frame = codes "frame"
why_word whys.Table = codes "table"
why_word whys.Buffer = codes "buffer"

abbrev pub kind_word : FaultKind → List ℕ
kind_word kinds.Unmapped = codes "unmapped"
kind_word kinds.NotCode = codes "not-code"
kind_word kinds.ReadOnly = codes "read-only"
kind_word kinds.Opcode = codes "opcode"
kind_word kinds.Divide = codes "divide"
kind_word kinds.Trap = codes "trap"
kind_word kinds.Buffer = codes "buffer"

abbrev pub outcome_words : Outcome → List (List ℕ)
outcome_words Going = codes "going" ∷ []
outcome_words (Ended word) = codes "ended" ∷ word_digits word ∷ []
outcome_words Starved = codes "starved" ∷ []
outcome_words (Undefined why) = codes "undefined" ∷ why_word why ∷ []
outcome_words Stack = codes "stack" ∷ []
outcome_words (Faulted kind) = codes "faulted" ∷ kind_word kind ∷ []
outcome_words Full = codes "full" ∷ []

-- ---- the run

-- under the name of the machine
abbrev pub trace_text : List Unit → List ℕ → Trace → List ℕ
trace_text units machine t = line (machine ∷ []) ++ (flat_map (event_text units) t.events ++ line (outcome_words t.outcome))

-- where they differ, how many events they have in common
abbrev pub agreement_words : Trace → Trace → List (List ℕ)
agreement_words asm image =
    if is_same asm image then codes "same" ∷ [] else codes "differ" ∷ decimal (common_events asm.events image.events) ∷ []

abbrev pub run_text : List Unit → Trace → Trace → List ℕ
run_text units asm image =
    trace_text units (codes "assembly") asm ++ (trace_text units (codes "image") image ++ line (agreement_words asm image))
