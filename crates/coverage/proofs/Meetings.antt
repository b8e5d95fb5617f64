-- The first claim that meets one before it, from the front.
use Rattle.std.proofs.Common.{◌≡◌, ℕ, suc, ◌+◌, ◌<◌, ◌≤◌, Bool, true, false, not, List, [], ◌∷◌, length, map, drop, get_or, Option, Some}
use Rattle.std.proofs.Common.{None, refl, sym, ap, ◌∙◌}
use Rattle.std.specs.Prelude.{nat_lt, option_map, slice_get, if◌then◌else◌}
use Rattle.std.proofs.lemmas.List.{drop_all, drop_more}
use Rattle.std.proofs.lemmas.Option.{slice_get-get_or}
use Rattle.ordered_tests.specs.Checks.{first_fault}
use Rattle.word_ops.specs.Ranges.{extent, meets}
use Rattle.link_model.specs.declared.fault.Fault.{Fault}
use Rattle.link_model.specs.Claims as model
use Rattle.link_model.specs.Overlaps.{has_addresses, in_order, no_claim, overlap_checks, overlap_fault, overlap_pass}
use Rattle.coverage.specs.declared.claims.Kept.{Kept}
use Rattle.coverage.specs.Orders.{claim_before, kept_seen, meet_from, failing_place}

range_of_if : (b : Bool) (c d : model.Claim) → (if b then c else d).range ≡ (if b then c.range else d.range)
range_of_if true c d = refl
range_of_if false c d = refl

choose : (b : Bool) (m n : Option ℕ) → (if not b then option_map suc m else Some 0) ≡ (if b then Some 0 else option_map suc m)
choose true m n = refl
choose false m n = refl

-- the first overlap test that fails is at the first claim that meets
pub overlap_place : (before : model.Claim) (cs : List model.Claim) → failing_place (overlap_checks before cs) ≡ meet_from before.range cs
overlap_place before [] = refl
overlap_place before (c ∷ cs) =
    let rest = overlap_place (if has_addresses c then c else before) cs in
    rw (rest, range_of_if (has_addresses c) c before) (choose (meets before.range c.range) _ None)

pub pass_place : (cs : List model.Claim) → failing_place (overlap_pass cs) ≡ meet_from (extent 0 0) (in_order cs)
unfolding overlap_pass
pass_place cs = overlap_place no_claim (in_order cs)

-- ---- the first meeting

-- one claim that does not meet
passed_one : (last : model.Claim) (c : model.Claim) (cs : List model.Claim) → meets last.range c.range ≡ false →
    first_fault (overlap_checks last (c ∷ cs)) ≡ first_fault (overlap_checks (if has_addresses c then c else last) cs)
passed_one last c cs h = rw h refl

found_one : (last : model.Claim) (c : model.Claim) (cs : List model.Claim) → meets last.range c.range ≡ true →
    first_fault (overlap_checks last (c ∷ cs)) ≡ Some (overlap_fault last c)
found_one last c cs h = rw h refl

seen_more : (ks : List Kept) (j : ℕ) (d : Kept) → j < length ks →
    map kept_seen (drop j ks) ≡ kept_seen (get_or ks j d) ∷ map kept_seen (drop (j + 1) ks)
seen_more ks j d lt = ap (map kept_seen) (drop_more ks j d lt)

claim_next : (ks : List Kept) (j : ℕ) (before : Option ℕ) (k : Kept) → slice_get ks j ≡ Some k → (b : Bool) →
    claim_before ks (if b then Some j else before) ≡ (if b then kept_seen k else claim_before ks before)
claim_next ks j before k at true = rw at refl
claim_next ks j before k at false = refl

pub meets_none : (ks : List Kept) (before : Option ℕ) (j : ℕ) (k : Kept) (fault : Option Fault) → j < length ks → get_or ks j k ≡ k →
    meets (claim_before ks before).range (kept_seen k).range ≡ false →
    first_fault (overlap_checks (claim_before ks before) (map kept_seen (drop j ks))) ≡ fault →
    first_fault (overlap_checks (claim_before ks (if nat_lt k.claim.range.lo k.claim.range.hi then Some j else before))
    (map kept_seen (drop (j + 1) ks)))
    ≡ fault
meets_none ks before j k fault lt is clear e =
    let at : slice_get ks j ≡ Some k = slice_get-get_or ks j k lt ∙ ap (λ (x : Kept). Some x) is in
    let list : map kept_seen (drop j ks) ≡ kept_seen k ∷ map kept_seen (drop (j + 1) ks) =
    seen_more ks j k lt ∙ ap (λ (x : Kept). kept_seen x ∷ map kept_seen (drop (j + 1) ks)) is in
    ap (λ (c : model.Claim). first_fault (overlap_checks c (map kept_seen (drop (j + 1) ks))))
    (claim_next ks j before k at (nat_lt k.claim.range.lo k.claim.range.hi))
    ∙ sym (passed_one (claim_before ks before) (kept_seen k) (map kept_seen (drop (j + 1) ks)) clear)
    ∙ sym (ap (λ cs. first_fault (overlap_checks (claim_before ks before) cs)) list) ∙ e

pub meets_one : (ks : List Kept) (before : Option ℕ) (j : ℕ) (k : Kept) (fault : Option Fault) → j < length ks → get_or ks j k ≡ k →
    meets (claim_before ks before).range (kept_seen k).range ≡ true →
    first_fault (overlap_checks (claim_before ks before) (map kept_seen (drop j ks))) ≡ fault →
    fault ≡ Some (overlap_fault (claim_before ks before) (kept_seen k))
meets_one ks before j k fault lt is met e =
    let list : map kept_seen (drop j ks) ≡ kept_seen k ∷ map kept_seen (drop (j + 1) ks) =
    seen_more ks j k lt ∙ ap (λ (x : Kept). kept_seen x ∷ map kept_seen (drop (j + 1) ks)) is in
    sym e ∙ ap (λ cs. first_fault (overlap_checks (claim_before ks before) cs)) list
    ∙ found_one (claim_before ks before) (kept_seen k) (map kept_seen (drop (j + 1) ks)) met

pub meets_ended : (ks : List Kept) (before : Option ℕ) (j : ℕ) (fault : Option Fault) → length ks ≤ j →
    first_fault (overlap_checks (claim_before ks before) (map kept_seen (drop j ks))) ≡ fault →
    (let none : Option Fault = None in fault ≡ none)
meets_ended ks before j fault le e =
    sym e ∙ ap (λ xs. first_fault (overlap_checks (claim_before ks before) (map kept_seen xs))) (drop_all j ks le)

pub pass_first : (cs ds : List model.Claim) → ds ≡ in_order cs → first_fault (overlap_pass cs) ≡ first_fault (overlap_checks no_claim ds)
unfolding overlap_pass
pass_first cs ds e = rw e refl
