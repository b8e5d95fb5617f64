-- Claims in the order of their addresses, and the first that meets one before it.
use Rattle.std.specs.Prelude.{◌≡◌, ◌<◌, ℕ, suc, ◌+◌, ◌*◌, List, [], ◌∷◌, slice_index_or, Option, Some, None, option_map, slice_get}
use Rattle.std.specs.Prelude.{if◌then◌else◌}
use Rattle.std.specs.Option.{option_map_or}
use Rattle.ordered_tests.specs.Checks.{Check}
use Rattle.word_ops.specs.Ranges.{Extent, meets}
use Rattle.word_ops.specs.Seen.{extent_of}
use Rattle.link_model.specs.Claims as model
use Rattle.link_model.specs.Overlaps.{has_addresses, no_claim, overlap_fault}
use Rattle.link_model.specs.declared.fault.Fault.{Fault}
use Rattle.coverage.specs.declared.claims.Claim.{Claim}
use Rattle.coverage.specs.declared.claims.Meeting.{Meeting}
use Rattle.coverage.specs.declared.claims.Kept.{Kept}

abbrev pub claim_seen : Claim → model.Claim
claim_seen c = model.claim (extent_of c.range) c.owner

abbrev pub kept_seen : Kept → model.Claim
kept_seen k = claim_seen k.claim

abbrev pub meeting_fault : Meeting → Fault
meeting_fault m = overlap_fault (claim_seen m.before.now) (claim_seen m.claim.now)

-- the claim at a place, or none
abbrev pub claim_before : List Kept → Option ℕ → model.Claim
claim_before ks None = no_claim
claim_before ks (Some i) = option_map_or kept_seen (slice_get ks i) no_claim

-- the order of claims as one number: by lo, then by hi, then by place
abbrev pub rank : Kept → ℕ
rank k = (k.claim.range.lo * 8589934592 + k.claim.range.hi) * 4294967296 + k.place

-- each of the first n has its place
abbrev pub ArePlaced : List Kept → ℕ → Type 0
ArePlaced ks n = (i : ℕ) (d : Kept) → i < n → (slice_index_or ks i d).place ≡ i

-- the place of the first test that fails
abbrev pub failing_place : {F : Type 0} → List (Check F) → Option ℕ
failing_place [] = None
failing_place (c ∷ cs) = if c.passes then option_map suc (failing_place cs) else Some 0

-- the place of the first claim that meets the range of the last one before it that has addresses
abbrev pub meet_from : Extent → List model.Claim → Option ℕ
meet_from last [] = None
meet_from last (c ∷ cs) =
    if meets last c.range then Some 0 else option_map suc (meet_from (if has_addresses c then c.range else last) cs)
