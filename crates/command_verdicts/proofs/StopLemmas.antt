-- A file that gives no bytes within the limits, behind files that were read.
use Rattle.std.proofs.Common.{◌≡◌, ℕ, ◌+◌, ◌<◌, List, length, take, Some, Option, refl, subst}
use Rattle.std.specs.Prelude.{slice_get}
use Rattle.limits.specs.declared.TheConstants.{MOST_DUMPS_BYTES}
use Rattle.outside.specs.Store.{Files}
use Rattle.commands.specs.Files.{dump_bytes, dumps_sum}
use Rattle.commands.specs.Reads.{AreRead, IsRead}
use Rattle.commands.specs.declared.file.CommandFile.{CommandFile}
use Rattle.report_text.specs.declared.verdict.Verdict.{Verdict}
use Rattle.report_text.specs.declared.verdict.Verdict.TheVariants.{Usage, Unread, TooLong, PastTotal, Refused, No, Yes, Done, Differs}
use Rattle.command_verdicts.specs.Stores.{StoreChange}
use Rattle.command_verdicts.specs.Stops.{IsNext, IsNotRead, Stopped, StopsBy}
use Rattle.command_verdicts.specs.declared.stop.Stop.{Stop}
use Rattle.command_verdicts.specs.declared.stop.Stop.TheVariants.{Decided, Memory}

stopped_by : (s : StoreChange) (words : List (List ℕ)) (fs : List CommandFile) (f : CommandFile) → IsNext s words fs f → (v : Verdict)
    → IsNotRead s words f v → Stopped s words fs v
stopped_by s words fs f next Usage h = absurd h
stopped_by s words fs f next (Unread place) h = (f, h.0, next, h.1)
stopped_by s words fs f next (TooLong place limit) h = (f, h.0, h.1, next, h.2)
stopped_by s words fs f next (PastTotal place) h = absurd h
stopped_by s words fs f next (Refused place r) h = absurd h
stopped_by s words fs f next (No fault) h = absurd h
stopped_by s words fs f next (Yes a) h = absurd h
stopped_by s words fs f next (Done text) h = absurd h
stopped_by s words fs f next (Differs text) h = absurd h

stops_by : (s : StoreChange) (words : List (List ℕ)) (fs : List CommandFile) (f : CommandFile) → IsNext s words fs f → (stop : Stop)
    → StopsBy (IsNotRead s words f) stop → StopsBy (Stopped s words fs) stop
stops_by s words fs f next (Decided v) h = stopped_by s words fs f next v h
stops_by s words fs f next Memory h = tt

abbrev change : Option Files → ℕ → ℕ → List ℕ → StoreChange
change holds faults after blamed = record { holds = holds; faults = faults; faults_after = after; blamed = blamed }

abbrev next_of : (s : StoreChange) (words : List (List ℕ)) (fs : List CommandFile) (f : CommandFile) (i : ℕ) (cs : List (List ℕ))
    → slice_get fs i ≡ Some f → AreRead s.holds words (take i fs) cs → IsNext s words fs f
next_of s words fs f i cs here read = record { before = i; here = here; contents = cs; read = read }

-- the read of file i gave none, from a store that holds and counts what it did at first
pub stops_at : (holds then : Option Files) (faults counted after : ℕ) (blamed : List ℕ) (words : List (List ℕ)) (fs : List CommandFile)
    (f : CommandFile) (i : ℕ) (cs : List (List ℕ)) (stop : Stop) → then ≡ holds → counted ≡ faults → slice_get fs i ≡ Some f
    → AreRead holds words (take i fs) cs → StopsBy (IsNotRead (change then counted after blamed) words f) stop
    → StopsBy (Stopped (change holds faults after blamed) words fs) stop
stops_at holds then faults counted after blamed words fs f i cs stop kept quiet here read h =
    let s = change holds faults after blamed in
    let one : StopsBy (IsNotRead (change holds counted after blamed) words f) stop =
    subst (λ x. StopsBy (IsNotRead (change x counted after blamed) words f) stop) kept h in
    let both : StopsBy (IsNotRead (change holds faults after blamed) words f) stop =
    subst (λ x. StopsBy (IsNotRead (change holds x after blamed) words f) stop) quiet one in
    stops_by (change holds faults after blamed) words fs f (next_of (change holds faults after blamed) words fs f i cs here read) stop both

-- with file i the dumps pass their limit
pub past_total : (holds : Option Files) (faults after : ℕ) (blamed : List ℕ) (words : List (List ℕ)) (fs : List CommandFile)
    (f : CommandFile) (i : ℕ) (cs : List (List ℕ)) (bytes : List ℕ) → slice_get fs i ≡ Some f → AreRead holds words (take i fs) cs
    → IsRead holds words f bytes → MOST_DUMPS_BYTES < dumps_sum (take i fs) cs + dump_bytes f.kind (length bytes)
    → Stopped (change holds faults after blamed) words fs (PastTotal f.place)
past_total holds faults after blamed words fs f i cs bytes here read one past =
    (f, refl, next_of (change holds faults after blamed) words fs f i cs here read, (bytes, one, past))
