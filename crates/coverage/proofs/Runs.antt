-- The last run with a new end.
use Rattle.std.proofs.Common.{◌≡◌, ℕ, ◌-◌, ◌<◌, List, length, map, sym, ap, ◌∙◌, true, arith}
use Rattle.std.specs.Prelude.{◌&&◌, ◌==◌, nat_lt, slice_set, if◌then◌else◌}
use Rattle.std.proofs.lemmas.Bool.{and_parts, eqb-true}
use Rattle.std.proofs.lemmas.List.{length-map, map-set}
use Rattle.link_model.specs.Kinds as model
use Rattle.link_model.specs.Account as accounts
use Rattle.coverage.specs.declared.tally.Run.{Run}
use Rattle.coverage.specs.Tallies.{run, run_seen, with_run}

pub ends_at : (runs : List accounts.Run) (a : ℕ) (kind : model.Kind) → accounts.goes_on runs a kind ≡ true
    → (accounts.last_run runs).range.hi ≡ a
ends_at runs a kind g =
    let some = nat_lt 0 (length runs) in
    let ends = (accounts.last_run runs).range.hi == a in
    let parts = and_parts (some && ends) (accounts.same_kind (accounts.last_run runs).kind kind) g in
    eqb-true (accounts.last_run runs).range.hi a (and_parts some ends parts.0).1

pub set_seen : (runs : List Run) (n lo hi : ℕ) (r : Run) (kind : model.Kind) → accounts.goes_on (map run_seen runs) lo kind ≡ true →
    n ≡ length runs → run_seen r ≡ run (accounts.last_run (map run_seen runs)).range.lo hi kind →
    map run_seen (slice_set runs (n - 1) r) ≡ with_run (map run_seen runs) lo hi kind
set_seen runs n lo hi r kind g is e =
    let seen = map run_seen runs in
    let place : n - 1 ≡ length seen - 1 = ap (λ i. i - 1) (is ∙ sym (length-map runs run_seen)) in
    rw g (map-set run_seen runs (n - 1) r
    ∙ ap (slice_set seen (n - 1)) e
    ∙ ap (λ i. slice_set seen i (run (accounts.last_run seen).range.lo hi kind)) place)
