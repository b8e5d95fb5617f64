-- The loaded addresses below the end of a stretch of one kind: the last run goes on, or a new one begins.
use Rattle.std.proofs.Common.{◌≡◌, ℕ, zero, suc, ◌+◌, ◌-◌, ◌<◌, ◌≤◌, Bool, true, false, List, [], ◌∷◌, ◌++◌, length, get_or, Option, Some}
use Rattle.std.proofs.Common.{None, refl, sym, ap, subst, ◌∙◌, arith, get_or-set_same, length-set, length-append}
use Rattle.std.specs.Prelude.{◌&&◌, ◌==◌, nat_lt, slice_set, if◌then◌else◌}
use Rattle.std.proofs.lemmas.Bool.{and_parts, lt-ltb, ltb-true, eq-eqb}
use Rattle.std.proofs.lemmas.List.{set-set, set_at, get_or_push, length_push}
use Rattle.image_model.specs.Image.{Image}
use Rattle.layout_model.specs.Layouts.{Layout}
use Rattle.link_model.specs.Claims.{Claim}
use Rattle.link_model.specs.Kinds.{Kind, Claimed, Foreign, Padding, Stray, kind_at}
use Rattle.link_model.specs.Account.{Run, Tally, same_kind, last_run, goes_on, with_address, one_if, tally_with, tally_below}
use Rattle.coverage.specs.Tallies.{run, with_run, with_stretch}

pub same_itself : (k : Kind) → same_kind k k ≡ true
same_itself (Claimed j) = eq-eqb j j refl
same_itself Foreign = refl
same_itself Padding = refl
same_itself Stray = refl

-- ---- one more address in the last run

goes_from : (runs : List Run) (last : Run) (m : ℕ) (kind : Kind) → 0 < length runs → last_run runs ≡ last → last.range.hi ≡ m →
    last.kind ≡ kind → goes_on runs m kind ≡ true
goes_from runs last m kind some is ends same =
    let one : nat_lt 0 (length runs) ≡ true = lt-ltb 0 (length runs) some in
    let two : ((last_run runs).range.hi == m) ≡ true = eq-eqb (last_run runs).range.hi m (ap (λ (r : Run). r.range.hi) is ∙ ends) in
    let kinds : (last_run runs).kind ≡ kind = ap (λ (r : Run). r.kind) is ∙ same in
    let three : same_kind (last_run runs).kind kind ≡ true = rw kinds (same_itself kind) in
    rw (one, two, three) refl

grown : (runs : List Run) (lo m : ℕ) (kind : Kind) → 0 < length runs → last_run runs ≡ run lo m kind →
    with_address runs m kind ≡ slice_set runs (length runs - 1) (run lo (m + 1) kind)
unfolding with_address
grown runs lo m kind some is =
    let on = goes_from runs (run lo m kind) m kind some is refl refl in
    let low : (last_run runs).range.lo ≡ lo = ap (λ (r : Run). r.range.lo) is in
    rw on (ap (λ n. slice_set runs (length runs - 1) (run n (m + 1) kind)) low)

-- a last run that went on goes on
went_on : (runs : List Run) (lo m : ℕ) (kind : Kind) → 0 < length runs →
    with_address (slice_set runs (length runs - 1) (run lo m kind)) m kind ≡ slice_set runs (length runs - 1) (run lo (m + 1) kind)
went_on runs lo m kind some =
    let k = length runs - 1 in
    let set = slice_set runs k (run lo m kind) in
    let same : length set ≡ length runs = length-set runs k (run lo m kind) in
    let none : Run = record { range = record { lo = 0; hi = 0 }; kind = Stray } in
    let last : last_run set ≡ run lo m kind =
    ap (λ n. get_or set (n - 1) none) same ∙ get_or-set_same runs k (run lo m kind) none (omega arith) in
    grown set lo m kind (omega arith) last
    ∙ ap (λ n. slice_set set (n - 1) (run lo (m + 1) kind)) same
    ∙ set-set runs k (run lo m kind) (run lo (m + 1) kind)

-- a run that begun goes on
begun : (runs : List Run) (lo m : ℕ) (kind : Kind) →
    with_address (runs ++ run lo m kind ∷ []) m kind ≡ runs ++ run lo (m + 1) kind ∷ []
begun runs lo m kind =
    let new = runs ++ run lo m kind ∷ [] in
    let size : length new ≡ length runs + 1 = length_push runs (run lo m kind) in
    let place : length new - 1 ≡ length runs = omega arith in
    let none : Run = record { range = record { lo = 0; hi = 0 }; kind = Stray } in
    let last : last_run new ≡ run lo m kind =
    ap (λ n. get_or new n none) place ∙ get_or_push runs (run lo m kind) none (length runs) refl in
    grown new lo m kind (omega arith) last
    ∙ ap (λ n. slice_set new n (run lo (m + 1) kind)) place
    ∙ set_at runs (run lo m kind) [] (run lo (m + 1) kind) (length runs) refl

run_more : (runs : List Run) (a m : ℕ) (kind : Kind) → with_address (with_run runs a m kind) m kind ≡ with_run runs a (m + 1) kind
run_more runs a m kind = at (goes_on runs a kind) refl
  where
    at : (b : Bool) → goes_on runs a kind ≡ b →
        with_address (if b then slice_set runs (length runs - 1) (run (last_run runs).range.lo m kind)
        else runs ++ run a m kind ∷ []) m kind
        ≡ (if b then slice_set runs (length runs - 1) (run (last_run runs).range.lo (m + 1) kind) else runs ++ run a (m + 1) kind ∷ [])
    at true g =
        let ends = nat_lt 0 (length runs) && ((last_run runs).range.hi == a) in
        let parts = and_parts ends (same_kind (last_run runs).kind kind) g in
        let some = ltb-true 0 (length runs) (and_parts (nat_lt 0 (length runs)) ((last_run runs).range.hi == a) parts.0).0 in
        went_on runs (last_run runs).range.lo m kind some
    at false g = begun runs a m kind

-- ---- counts

abbrev bytes_if : Bool → ℕ → ℕ
bytes_if b n = if b then n else 0

one_more : (b : Bool) (n i : ℕ) → n + bytes_if b i + one_if b ≡ n + bytes_if b (i + 1)
one_more true n i = omega arith
one_more false n i = omega arith

first_one : (b : Bool) (n : ℕ) → n + one_if b ≡ n + bytes_if b 1
first_one true n = refl
first_one false n = refl

abbrev tally : List Run → ℕ → ℕ → ℕ → Tally
tally runs padding foreign loaded = record { runs = runs; padding = padding; foreign = foreign; loaded = loaded }

same_tally : (r s : List Run) (p q f g l m : ℕ) → r ≡ s → p ≡ q → f ≡ g → l ≡ m → tally r p f l ≡ tally s q g m
same_tally r s p q f g l m a b c d = rw (a, b, c, d) refl

-- ---- a stretch

-- n addresses from a on
abbrev long : Tally → ℕ → ℕ → ℕ → Kind → Tally
long t a hi n kind = tally (with_run t.runs a hi kind) (t.padding + bytes_if (same_kind kind Padding) n)
    (t.foreign + bytes_if (same_kind kind Foreign) n) (t.loaded + n)

starts : (t : Tally) (a : ℕ) (kind : Kind) → tally_with t a (Some kind) ≡ long t a (a + 1) 1 kind
unfolding tally_with with_address
starts t a kind =
    same_tally _ _ _ _ _ _ _ _ refl (first_one (same_kind kind Padding) t.padding) (first_one (same_kind kind Foreign) t.foreign) refl

continues : (t : Tally) (a m n : ℕ) (kind : Kind) → tally_with (long t a m n kind) m (Some kind) ≡ long t a (m + 1) (n + 1) kind
unfolding tally_with
continues t a m n kind =
    same_tally _ _ _ _ _ _ _ _ (run_more t.runs a m kind) (one_more (same_kind kind Padding) t.padding n)
    (one_more (same_kind kind Foreign) t.foreign n) (omega arith)

grows : (v : Image) (l : Layout) (cs : List Claim) (a n : ℕ) (kind : Kind) →
    ((b : ℕ) → a ≤ b → b < a + (n + 1) → kind_at v l cs b ≡ Some kind) →
    tally_below v l cs (a + (n + 1)) ≡ long (tally_below v l cs a) a (a + (n + 1)) (n + 1) kind
unfolding tally_below
grows v l cs a zero kind h =
    let e : a + (0 + 1) ≡ suc a = omega arith in
    let f : a + 1 ≡ suc a = omega arith in
    rw e (ap (tally_with (tally_below v l cs a) a) (h a (omega arith) (omega arith))
    ∙ starts (tally_below v l cs a) a kind ∙ ap (λ m. long (tally_below v l cs a) a m 1 kind) f)
grows v l cs a (suc n) kind h =
    let m = a + (n + 1) in
    let e : a + (suc n + 1) ≡ suc m = omega arith in
    let f : m + 1 ≡ suc m = omega arith in
    let g : n + 1 + 1 ≡ suc n + 1 = omega arith in
    let t = tally_below v l cs a in
    let before = grows v l cs a n kind (λ b low high. h b low (omega arith)) in
    rw e (ap (tally_with (tally_below v l cs m) m) (h m (omega arith) (omega arith))
    ∙ ap (λ s. tally_with s m (Some kind)) before
    ∙ continues t a m (n + 1) kind
    ∙ ap (λ i. long t a i (n + 1 + 1) kind) f
    ∙ ap (λ i. long t a (suc m) i kind) g)

-- the tally below the end of a stretch
pub stretch_below : (v : Image) (l : Layout) (cs : List Claim) (a hi : ℕ) (kind : Kind) → a < hi →
    ((b : ℕ) → a ≤ b → b < hi → kind_at v l cs b ≡ Some kind) →
    tally_below v l cs hi ≡ with_stretch (tally_below v l cs a) a hi kind
stretch_below v l cs a hi kind lt h =
    let n = hi - a - 1 in
    let e : a + (n + 1) ≡ hi = omega arith in
    let f : n + 1 ≡ hi - a = omega arith in
    subst (λ i. tally_below v l cs i ≡ long (tally_below v l cs a) a i (n + 1) kind) e
    (grows v l cs a n kind (λ b low high. h b low (omega arith)))
    ∙ ap (λ i. long (tally_below v l cs a) a hi i kind) f

-- ---- addresses that are not loaded

gap : (v : Image) (l : Layout) (cs : List Claim) (a n : ℕ) →
    ((b : ℕ) → a ≤ b → b < a + n → (let none : Option Kind = None in kind_at v l cs b ≡ none)) →
    tally_below v l cs (a + n) ≡ tally_below v l cs a
unfolding tally_below tally_with
gap v l cs a zero h = let e : a + 0 ≡ a = omega arith in rw e refl
gap v l cs a (suc n) h =
    let e : a + suc n ≡ suc (a + n) = omega arith in
    rw e (ap (tally_with (tally_below v l cs (a + n)) (a + n)) (h (a + n) (omega arith) (omega arith))
    ∙ gap v l cs a n (λ b low high. h b low (omega arith)))

pub gap_below : (v : Image) (l : Layout) (cs : List Claim) (a hi : ℕ) → a ≤ hi →
    ((b : ℕ) → a ≤ b → b < hi → (let none : Option Kind = None in kind_at v l cs b ≡ none)) →
    tally_below v l cs hi ≡ tally_below v l cs a
gap_below v l cs a hi le h =
    let e : a + (hi - a) ≡ hi = omega arith in
    subst (λ i. tally_below v l cs i ≡ tally_below v l cs a) e (gap v l cs a (hi - a) (λ b low high. h b low (omega arith)))
