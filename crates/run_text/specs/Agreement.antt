-- Whether the trace of an image is one that the trace of its assembly allows.
use Rattle.std.specs.Prelude.{ℕ, zero, suc, Bool, true, false, ◌&&◌, ◌==◌, if◌then◌else◌, List, [], ◌∷◌, length}
use Rattle.std.specs.Cmp.Lexicographic.{pointwise}
use Rattle.ppc_machine.specs.declared.externals.Event.{Event}
use Rattle.machine_runs.specs.declared.trace.Seen.{Seen}
use Rattle.machine_runs.specs.declared.trace.Outcome.{Outcome}
use Rattle.machine_runs.specs.declared.trace.Outcome.TheVariants.{Going, Ended, Starved, Undefined, Stack, Faulted, Full}
use Rattle.machine_runs.specs.declared.trace.Trace.{Trace}

abbrev pub same_number : ℕ → ℕ → Bool
same_number m n = m == n

-- the same function, arguments and bytes read
abbrev pub same_seen : Seen → Seen → Bool
same_seen a b =
    a.event.number == b.event.number
    && a.event.count == b.event.count
    && pointwise same_number a.event.words b.event.words
    && pointwise (pointwise same_number) a.read b.read

-- the length of the longest common prefix
abbrev pub common_events : List Seen → List Seen → ℕ
common_events [] bs = 0
common_events (a ∷ rest) [] = 0
common_events (a ∷ rest) (b ∷ bs) = if same_seen a b then suc (common_events rest bs) else 0

-- how the assembly ends, whether the image has no further event, and how it ends
abbrev pub agrees : Outcome → Bool → Outcome → Bool
agrees (Ended word) all (Ended found) = all && word == found
agrees Starved all Starved = all
agrees Going all end = true
agrees (Undefined why) all end = true
agrees Stack all end = true
agrees Full all end = true
agrees _ all end = false

-- all events of the assembly are the image's first; where it has ended or starved the image has no other, and ends alike
abbrev pub is_same : Trace → Trace → Bool
is_same asm image =
    let common = common_events asm.events image.events in
    common == length asm.events && agrees asm.outcome (common == length image.events) image.outcome
