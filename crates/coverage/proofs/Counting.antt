-- How many claims an owner has, and how many bytes, as sums.
use Rattle.std.proofs.Common.{◌≡◌, ℕ, ◌+◌, ◌-◌, ◌<◌, ◌≤◌, Bool, true, false, List, [], ◌∷◌, length, map, take, get_or, refl, sym, ap, ◌∙◌}
use Rattle.std.proofs.Common.{arith, if◌then◌else◌}
use Rattle.std.specs.List.{sum_by}
use Rattle.std.proofs.lemmas.List.{take_all}
use Rattle.std.proofs.lemmas.List.Folds.{fold-map}
use Rattle.std.proofs.lemmas.List.Sums.{length-filter, sum_by-cons, sum_by_more}
use Rattle.link_model.specs.declared.owner.Owner.{Owner}
use Rattle.link_model.specs.Claims.{Claim}
use Rattle.link_model.specs.Account.{claims_of, count_of, bytes_of}
use Rattle.coverage.specs.declared.claims.Kept.{Kept}
use Rattle.coverage.specs.declared.account.Part.{Part}
use Rattle.coverage.specs.Orders.{kept_seen}
use Rattle.coverage.specs.Accounts.{is_part, part_bytes, part_claims}

abbrev pub one_of : (Owner → Bool) → Claim → ℕ
one_of p c = if p c.owner then 1 else 0

abbrev pub bytes_in : (Owner → Bool) → Claim → ℕ
bytes_in p c = if p c.owner then c.range.hi - c.range.lo else 0

pub count_sum : (p : Owner → Bool) (cs : List Claim) → count_of p cs ≡ sum_by (one_of p) cs
count_sum p cs = length-filter (λ (c : Claim). p c.owner) cs

pub bytes_sum : (p : Owner → Bool) (cs : List Claim) → bytes_of p cs ≡ sum_by (bytes_in p) cs
bytes_sum p [] = refl
bytes_sum p (c ∷ cs) = at (p c.owner) refl (bytes_sum p cs)
  where
    at : (b : Bool) → p c.owner ≡ b → bytes_of p cs ≡ sum_by (bytes_in p) cs →
        sum_by (λ (d : Claim). d.range.hi - d.range.lo) (if b then c ∷ claims_of p cs else claims_of p cs) ≡ sum_by (bytes_in p) (c ∷ cs)
    at true e x =
        let y = sum_by-cons (bytes_in p) c cs in
        let w = sum_by-cons (λ (d : Claim). d.range.hi - d.range.lo) c (claims_of p cs) in
        let z : bytes_in p c ≡ c.range.hi - c.range.lo = rw e refl in omega (arith, x, y, w, z)
    at false e x =
        let y = sum_by-cons (bytes_in p) c cs in let z : bytes_in p c ≡ 0 = rw e refl in omega (arith, x, y, z)

-- ---- the first claims of a list

sum_all : (f : Claim → ℕ) (ks : List Kept) (i : ℕ) → length ks ≤ i → sum_by (λ k. f (kept_seen k)) (take i ks) ≡ sum_by f (map kept_seen ks)
sum_all f ks i le = ap (sum_by (λ k. f (kept_seen k))) (take_all i ks le) ∙ sym (fold-map (λ a x. a + f x) kept_seen 0 ks)

pub all_claims : (part : Part) (ks : List Kept) (i : ℕ) → length ks ≤ i →
    sum_by (λ k. part_claims part (kept_seen k)) (take i ks) ≡ count_of (is_part part) (map kept_seen ks)
all_claims part ks i le = sum_all (part_claims part) ks i le ∙ sym (count_sum (is_part part) (map kept_seen ks))

pub all_bytes : (part : Part) (ks : List Kept) (i : ℕ) → length ks ≤ i →
    sum_by (λ k. part_bytes part (kept_seen k)) (take i ks) ≡ bytes_of (is_part part) (map kept_seen ks)
all_bytes part ks i le = sum_all (part_bytes part) ks i le ∙ sym (bytes_sum (is_part part) (map kept_seen ks))
