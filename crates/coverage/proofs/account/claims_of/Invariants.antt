use Rattle.std.proofs.Common.{◌≡◌, ◌≤◌, ◌*◌, take}
use Rattle.std.specs.List.{sum_by}
use Rattle.coverage.specs.declared.claims.Kept.{Kept}
use Rattle.coverage.specs.Orders.{kept_seen}
use Rattle.coverage.specs.Accounts.{part_bytes, part_claims}
use Rattle.coverage.proofs.account.claims_of.Given as goal

abbrev pub invariant-loop-k : goal.invariant-loop-k
invariant-loop-k l = record {
  claims : l.claims ≡ sum_by (λ (k : Kept). part_claims l.part (kept_seen k)) (take l.k-index l.kept);
  bytes : l.bytes ≡ sum_by (λ (k : Kept). part_bytes l.part (kept_seen k)) (take l.k-index l.kept);
  few : l.claims ≤ l.k-index;
  most : l.bytes ≤ l.k-index * 4294967296;
}
