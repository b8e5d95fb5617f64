-- The verdict where a file gives no bytes within the limits, and its cause.
use Rattle.std.specs.Prelude.{◌≡◌, ◌<◌, ◌⊎◌, ℕ, ◌+◌, List, length, take, Some, slice_get, ⊤}
use Rattle.limits.specs.declared.TheConstants.{MOST_DUMPS_BYTES}
use Rattle.outside.specs.Faults.{Rose}
use Rattle.outside.specs.Store.{IsRefused}
use Rattle.outside.specs.declared.store.StoreError.TheVariants as store
use Rattle.commands.specs.Words.{word_at}
use Rattle.commands.specs.Files.{limit_of, dump_bytes, dumps_sum}
use Rattle.commands.specs.Reads.{IsRead, AreRead}
use Rattle.commands.specs.declared.file.CommandFile.{CommandFile}
use Rattle.report_text.specs.declared.verdict.Verdict.{Verdict}
use Rattle.report_text.specs.declared.verdict.Verdict.TheVariants.{Unread, TooLong, PastTotal}
use Rattle.command_verdicts.specs.Stores.{StoreChange}
use Rattle.command_verdicts.specs.declared.stop.Stop.{Stop}
use Rattle.command_verdicts.specs.declared.stop.Stop.TheVariants.{Decided, Memory}

-- the file of a list whose turn it is: those before it have been read, and have these contents
pub record IsNext (s : StoreChange) (words : List (List ℕ)) (fs : List CommandFile) (f : CommandFile) : Type 0 where
  pub before : ℕ
  pub here : slice_get fs before ≡ Some f
  pub contents : List (List ℕ)
  pub read : AreRead s.holds words (take before fs) contents

-- its read failed in this call and is blamed, or the store tells that it is not there
abbrev pub IsUnread : StoreChange → List (List ℕ) → CommandFile → Type 0
IsUnread s words f =
    (Rose s.faults s.faults_after × (s.blamed ≡ word_at words f.place))
    ⊎ IsRefused s.holds (word_at words f.place) (limit_of f.kind) store.Absent

abbrev pub IsTooLong : StoreChange → List (List ℕ) → CommandFile → Type 0
IsTooLong s words f = IsRefused s.holds (word_at words f.place) (limit_of f.kind) store.TooLong

-- the dumps that were read and this one are too many bytes together
abbrev pub IsPastTotal : (s : StoreChange) (words : List (List ℕ)) (fs : List CommandFile) (f : CommandFile) → IsNext s words fs f → Type 0
IsPastTotal s words fs f next =
    (bytes : List ℕ) × IsRead s.holds words f bytes
    × (MOST_DUMPS_BYTES < dumps_sum (take next.before fs) next.contents + dump_bytes f.kind (length bytes))

-- the first file of a list that gives no bytes within the limits decides
abbrev pub Stopped : StoreChange → List (List ℕ) → List CommandFile → Verdict → Type 0
Stopped s words fs (Unread place) = (f : CommandFile) × (place ≡ f.place) × IsNext s words fs f × IsUnread s words f
Stopped s words fs (TooLong place limit) =
    (f : CommandFile) × (place ≡ f.place) × (limit ≡ limit_of f.kind) × IsNext s words fs f × IsTooLong s words f
Stopped s words fs (PastTotal place) =
    (f : CommandFile) × (place ≡ f.place) × (next : IsNext s words fs f) × IsPastTotal s words fs f next
Stopped s words fs _ = ⊥

-- the fact holds of the verdict, unless memory ran out
abbrev pub StopsBy : (Verdict → Type 0) → Stop → Type 0
StopsBy P (Decided v) = P v
StopsBy P Memory = ⊤

-- the verdict where the read of one file gave none
abbrev pub IsNotRead : StoreChange → List (List ℕ) → CommandFile → Verdict → Type 0
IsNotRead s words f (Unread place) = (place ≡ f.place) × IsUnread s words f
IsNotRead s words f (TooLong place limit) = (place ≡ f.place) × (limit ≡ limit_of f.kind) × IsTooLong s words f
IsNotRead s words f _ = ⊥
