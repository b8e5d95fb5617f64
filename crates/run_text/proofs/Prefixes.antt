-- The longest common prefix, event by event.
use Rattle.std.proofs.Common.{◌≡◌, ℕ, zero, suc, ◌+◌, ◌≤◌, ◌<◌, min, Bool, true, false, List, [], ◌∷◌, length, drop, Some, refl, ap, sym}
use Rattle.std.proofs.Common.{◌∙◌, arith, if◌then◌else◌}
use Rattle.std.specs.Prelude.{slice_get}
use Rattle.machine_runs.specs.declared.trace.Seen.{Seen}
use Rattle.run_text.specs.Agreement.{common_events, same_seen}

-- at a place of both
here : (xs ys : List Seen) (i : ℕ) (x y : Seen) → slice_get xs i ≡ Some x → slice_get ys i ≡ Some y
    → common_events (drop i xs) (drop i ys) ≡ (if same_seen x y then suc (common_events (drop (suc i) xs) (drop (suc i) ys)) else 0)
here [] ys i x y h k = absurd (cc)
here (a ∷ rest) [] i x y h k = absurd (cc)
here (a ∷ rest) (b ∷ more) zero x y h k =
    let e : a ≡ x = cc in
    let f : b ≡ y = cc in
    ap (λ z. if same_seen z b then suc (common_events rest more) else 0) e
    ∙ ap (λ z. if same_seen x z then suc (common_events rest more) else 0) f
here (a ∷ rest) (b ∷ more) (suc i) x y h k = here rest more i x y h k

pub next_same : (xs ys : List Seen) (i : ℕ) (x y : Seen) → slice_get xs i ≡ Some x → slice_get ys i ≡ Some y → same_seen x y ≡ true
    → common_events xs ys ≡ i + common_events (drop i xs) (drop i ys)
    → common_events xs ys ≡ i + 1 + common_events (drop (i + 1) xs) (drop (i + 1) ys)
next_same xs ys i x y h k same before =
    let e : suc i ≡ i + 1 = omega arith in
    let step : common_events (drop i xs) (drop i ys) ≡ suc (common_events (drop (suc i) xs) (drop (suc i) ys)) =
    here xs ys i x y h k ∙ rw same refl in
    let moved = ap (λ j. common_events (drop j xs) (drop j ys)) e in
    omega arith

pub next_differs : (xs ys : List Seen) (i : ℕ) (x y : Seen) → slice_get xs i ≡ Some x → slice_get ys i ≡ Some y → same_seen x y ≡ false
    → common_events xs ys ≡ i + common_events (drop i xs) (drop i ys) → i ≡ common_events xs ys
next_differs xs ys i x y h k same before =
    let step : common_events (drop i xs) (drop i ys) ≡ 0 = here xs ys i x y h k ∙ rw same refl in
    omega arith

pub at_end : (xs ys : List Seen) (i : ℕ) → min (length xs) (length ys) ≤ i → common_events (drop i xs) (drop i ys) ≡ 0
at_end [] ys i h = nothing ys i
  where
    nothing : (ys : List Seen) (i : ℕ) → common_events (drop i []) (drop i ys) ≡ 0
    nothing ys zero = refl
    nothing ys (suc i) = refl
at_end (a ∷ rest) [] zero h = refl
at_end (a ∷ rest) [] (suc i) h = empty (drop i rest)
  where
    empty : (xs : List Seen) → common_events xs [] ≡ 0
    empty [] = refl
    empty (z ∷ zs) = refl
at_end (a ∷ rest) (b ∷ more) zero h = absurd (omega arith)
at_end (a ∷ rest) (b ∷ more) (suc i) h = at_end rest more i (omega arith)
