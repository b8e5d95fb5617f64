-- What two traces have in common where one begins with the other.
use Rattle.std.proofs.Common.{◌≡◌, ℕ, zero, suc, ◌+◌, ◌≤◌, Bool, true, false, ◌&&◌, List, [], ◌∷◌, ◌++◌, length, map, refl, sym, ap, ◌∙◌}
use Rattle.std.proofs.Common.{arith}
use Rattle.std.specs.Prelude.{◌==◌}
use Rattle.std.specs.Cmp.Lexicographic.{pointwise}
use Rattle.std.proofs.lemmas.Bool.{and_from, eq-eqb}
use Rattle.call_bytes.specs.CallLists.{bytes_in}
use Rattle.machine_runs.specs.declared.trace.Seen.{Seen}
use Rattle.machine_runs.specs.Sums.{read_total}
use Rattle.run_text.specs.Agreement.{common_events, same_number, same_seen}

pointwise_own : {A : Type 0} (p : A → A → Bool) → ((x : A) → p x x ≡ true) → (xs : List A) → pointwise p xs xs ≡ true
pointwise_own p h [] = refl
pointwise_own p h (x ∷ xs) = and_from (p x x) (pointwise p xs xs) (h x) (pointwise_own p h xs)

numbers_own : (xs : List ℕ) → pointwise same_number xs xs ≡ true
numbers_own xs = pointwise_own same_number (λ x. eq-eqb x x refl) xs

seen_own : (e : Seen) → same_seen e e ≡ true
seen_own e =
    and_from (e.event.number == e.event.number && e.event.count == e.event.count && pointwise same_number e.event.words e.event.words)
    (pointwise (pointwise same_number) e.read e.read)
    (and_from (e.event.number == e.event.number && e.event.count == e.event.count) (pointwise same_number e.event.words e.event.words)
    (and_from (e.event.number == e.event.number) (e.event.count == e.event.count) (eq-eqb e.event.number e.event.number refl)
    (eq-eqb e.event.count e.event.count refl))
    (numbers_own e.event.words))
    (pointwise_own (pointwise same_number) numbers_own e.read)

-- all of the first
pub common_prefix : (es ds : List Seen) → common_events es (es ++ ds) ≡ length es
common_prefix [] ds = refl
common_prefix (e ∷ es) ds = rw (seen_own e) (ap suc (common_prefix es ds))

-- what is added reads more
pub total_grows : (es ds : List Seen) → read_total es ≤ read_total (es ++ ds)
total_grows [] ds = omega arith
total_grows (e ∷ es) ds = let h = total_grows es ds in omega arith
