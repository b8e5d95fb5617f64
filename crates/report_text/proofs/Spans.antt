-- The spans of an account in print.
use Rattle.std.proofs.Common.{◌≡◌, ℕ, ◌≤◌, List, ◌++◌, length, map, take, ap, sym, ◌∙◌}
use Rattle.std.specs.List.{flat_map}
use Rattle.std.proofs.lemmas.List.{take_all}
use Rattle.std.proofs.lemmas.List.Folds.{flat_map-map}
use Rattle.coverage.specs.Orders.{claim_seen}
use Rattle.coverage.specs.declared.claims.Claim.{Claim}
use Rattle.report_text.specs.Reports.{span_text}

pub all_spans : (head : List ℕ) (spans : List Claim) (i : ℕ) → length spans ≤ i
    → head ++ flat_map (λ c. span_text (claim_seen c)) (take i spans) ≡ head ++ flat_map span_text (map claim_seen spans)
all_spans head spans i all =
    ap (λ xs. head ++ flat_map (λ c. span_text (claim_seen c)) xs) (take_all i spans all)
    ∙ ap (λ t. head ++ t) (sym (flat_map-map span_text claim_seen spans))
