-- Each loaded address is in exactly one run of its kind.
use Rattle.std.proofs.Common.{◌≡◌, ℕ, zero, suc, ◌+◌, ◌-◌, ◌<◌, ◌≤◌, inl, inr, Bool, true, false, ◌&&◌, List, [], ◌∷◌, ◌++◌, length, map}
use Rattle.std.proofs.Common.{Some, None, refl, sym, ◌∙◌, ap, subst, arith, if◌then◌else◌, slice_index_or, slice_set}
use Rattle.std.specs.Prelude.{Option, slice_get, nat_lt, ◌==◌}
use Rattle.std.specs.List.{list_any}
use Rattle.std.proofs.lemmas.Bool.{and_parts, or_cases, cases_eq, cases_order, eqb-true, lt-ltb}
use Rattle.word_ops.specs.Ranges.{extent, holds}
use Rattle.ordered_tests.specs.Lists.{EachOf, Pairwise}
use Rattle.ordered_tests.proofs.Lists.{each_append, each_get, each_weak, each_left, each_right, pairs_append, pairs_left, pairs_across}
use Rattle.ordered_tests.proofs.Lists.{pairs_get}
use Rattle.image_model.specs.Image.{Image}
use Rattle.image_model.specs.Loaded.{byte_at}
use Rattle.layout_model.specs.Layouts.{Layout}
use Rattle.link_model.specs.Claims.{Claim}
use Rattle.link_model.specs.Kinds.{Kind, Claimed, Foreign, Padding, Stray, kind_of_byte, kind_at}
use Rattle.link_model.specs.Account.{Run, same_kind, last_run, goes_on, with_address, Tally, tally_with, tally_below, span_of, account_of}
use Rattle.link_laws.specs.Spans.{IsInSpan, SpansCoverWhatIsLoaded}
use Rattle.link_laws.proofs.Items.{any_item, any_left, any_right}
use Rattle.link_laws.proofs.Ranges.{holds_parts, holds_from}
use Rattle.link_laws.proofs.Strays.{some_byte}

-- ---- the last of a list

abbrev run : ℕ → ℕ → Kind → Run
run lo hi kind = record { range = extent lo hi; kind = kind }

append_length : (xs : List Run) (r : Run) → length (xs ++ r ∷ []) ≡ suc (length xs)
append_length [] r = refl
append_length (x ∷ xs) r = let h = append_length xs r in omega arith

get_end : (xs : List Run) (r d : Run) → slice_index_or (xs ++ r ∷ []) (length xs) d ≡ r
get_end [] r d = refl
get_end (x ∷ xs) r d = get_end xs r d

set_end : (xs : List Run) (r s : Run) → slice_set (xs ++ r ∷ []) (length xs) s ≡ xs ++ s ∷ []
set_end [] r s = refl
set_end (x ∷ xs) r s = ap (λ l. x ∷ l) (set_end xs r s)

record HasLast (runs : List Run) : Type 0 where
  pub front : List Run
  pub last : Run
  pub same : runs ≡ front ++ last ∷ []

has_last : (runs : List Run) → nat_lt 0 (length runs) ≡ true → HasLast runs
has_last [] h = absurd (cc)
has_last (r ∷ []) h = record { front = []; last = r; same = refl }
has_last (r ∷ s ∷ runs) h =
    let rest = has_last (s ∷ runs) (lt-ltb 0 (length (s ∷ runs)) (omega arith)) in
    record { front = r ∷ rest.front; last = rest.last; same = ap (λ l. r ∷ l) rest.same }

end_place : (xs : List Run) (r : Run) → length (xs ++ r ∷ []) - 1 ≡ length xs
end_place xs r = let h = append_length xs r in omega arith

last_is : (xs : List Run) (r : Run) → last_run (xs ++ r ∷ []) ≡ r
last_is xs r = rw (end_place xs r) (get_end xs r _)

set_last : (xs : List Run) (r s : Run) → slice_set (xs ++ r ∷ []) (length (xs ++ r ∷ []) - 1) s ≡ xs ++ s ∷ []
set_last xs r s = rw (end_place xs r) (set_end xs r s)

-- ---- what the runs of the addresses below n are

abbrev run_holds : ℕ → Run → Bool
run_holds a r = holds a r.range

record IsRun (v : Image) (l : Layout) (cs : List Claim) (n : ℕ) (r : Run) : Type 0 where
  pub ordered : r.range.lo < r.range.hi
  pub below : r.range.hi ≤ n
  pub kinds : (a : ℕ) → holds a r.range ≡ true → kind_at v l cs a ≡ Some r.kind

abbrev IsBefore : Run → Run → Type 0
IsBefore p q = p.range.hi ≤ q.range.lo

record AreRuns (v : Image) (l : Layout) (cs : List Claim) (n : ℕ) (runs : List Run) : Type 0 where
  pub runs_are : EachOf (IsRun v l cs n) runs
  pub rise : Pairwise IsBefore runs
  pub cover : (a : ℕ) (kind : Kind) → a < n → kind_at v l cs a ≡ Some kind → list_any (run_holds a) runs ≡ true

later : (v : Image) (l : Layout) (cs : List Claim) (n : ℕ) (runs : List Run) → EachOf (IsRun v l cs n) runs →
    EachOf (IsRun v l cs (suc n)) runs
later v l cs n runs e = each_weak (IsRun v l cs n) (IsRun v l cs (suc n)) runs
    (λ r k. let b = k.below in record { ordered = k.ordered; below = omega arith; kinds = k.kinds }) e

-- ---- one more address

-- an address in none of the kinds
without : (v : Image) (l : Layout) (cs : List Claim) (n : ℕ) (runs : List Run) → AreRuns v l cs n runs → kind_at v l cs n ≡ None →
    AreRuns v l cs (suc n) runs
without v l cs n runs k none = record {
  runs_are = later v l cs n runs k.runs_are;
  rise = k.rise;
  cover = λ a kind lt e. elim (cases_eq a n) [
    | inl q ↦ (let here : kind_at v l cs n ≡ Some kind = subst (λ b. kind_at v l cs b ≡ Some kind) q e in absurd (cc))
    | inr q ↦ k.cover a kind (omega arith) e
  ];
}

-- a new run of one address
new_run : (v : Image) (l : Layout) (cs : List Claim) (n : ℕ) (kind : Kind) → kind_at v l cs n ≡ Some kind →
    IsRun v l cs (suc n) (run n (n + 1) kind)
new_run v l cs n kind e = record {
  ordered = omega arith;
  below = omega arith;
  kinds = λ a h.
      let ends = holds_parts a (extent n (n + 1)) h in
      let low = ends.0 in
      let high = ends.1 in
      let same : n ≡ a = omega arith in subst (λ b. kind_at v l cs b ≡ Some kind) same e;
}

each_before : (v : Image) (l : Layout) (cs : List Claim) (n : ℕ) (last : Run) (runs : List Run) → n ≤ last.range.lo →
    EachOf (IsRun v l cs n) runs → EachOf (λ r. EachOf (IsBefore r) (last ∷ [])) runs
each_before v l cs n last runs low e = each_weak (IsRun v l cs n) (λ r. EachOf (IsBefore r) (last ∷ [])) runs
    (λ r k. let b = k.below in (omega arith, tt)) e

begun : (v : Image) (l : Layout) (cs : List Claim) (n : ℕ) (runs : List Run) (kind : Kind) → AreRuns v l cs n runs →
    kind_at v l cs n ≡ Some kind → AreRuns v l cs (suc n) (runs ++ run n (n + 1) kind ∷ [])
begun v l cs n runs kind k e =
    let new = run n (n + 1) kind in record {
      runs_are = each_append (IsRun v l cs (suc n)) runs (new ∷ []) (later v l cs n runs k.runs_are) (new_run v l cs n kind e, tt);
      rise = pairs_append IsBefore runs (new ∷ []) k.rise (tt, tt) (each_before v l cs n new runs (omega arith) k.runs_are);
      cover = λ a other lt f. elim (cases_eq a n) [
        | inl q ↦ any_right (run_holds a) runs (new ∷ [])
            (let here : holds a (extent n (n + 1)) ≡ true = holds_from a (extent n (n + 1)) (omega arith) (omega arith) in rw here refl)
        | inr q ↦ any_left (run_holds a) runs (new ∷ []) (k.cover a other (omega arith) f)
      ];
    }

-- the last run with one more address
longer_run : (v : Image) (l : Layout) (cs : List Claim) (n : ℕ) (last : Run) (kind : Kind) → IsRun v l cs n last → last.range.hi ≡ n →
    last.kind ≡ kind → kind_at v l cs n ≡ Some kind → IsRun v l cs (suc n) (run last.range.lo (n + 1) kind)
longer_run v l cs n last kind k ends same e = record {
  ordered = let o = k.ordered in omega arith;
  below = omega arith;
  kinds = λ a h. elim (cases_eq a n) [
    | inl q ↦ subst (λ b. kind_at v l cs b ≡ Some kind) (sym q) e
    | inr q ↦ (
        let parts = holds_parts a (extent last.range.lo (n + 1)) h in
        let low = parts.0 in
        let high = parts.1 in
        k.kinds a (holds_from a last.range low (omega arith)) ∙ ap (λ z. Some z) same)
  ];
}

any_last : (p : Run → Bool) (xs : List Run) (r s : Run) → (p r ≡ true → p s ≡ true) → list_any p (xs ++ r ∷ []) ≡ true →
    list_any p (xs ++ s ∷ []) ≡ true
any_last p [] r s k h = elim (or_cases (p r) false h) [ inl t ↦ rw (k t) refl | inr f ↦ absurd (cc) ]
any_last p (x ∷ xs) r s k h = elim (or_cases (p x) (list_any p (xs ++ r ∷ [])) h) [
  | inl t ↦ rw t refl
  | inr t ↦ rw (any_last p xs r s k t) (grind arith)
]

gone_on : (v : Image) (l : Layout) (cs : List Claim) (n : ℕ) (front : List Run) (last : Run) (kind : Kind) →
    AreRuns v l cs n (front ++ last ∷ []) → last.range.hi ≡ n → last.kind ≡ kind → kind_at v l cs n ≡ Some kind →
    last.range.lo ≤ n → AreRuns v l cs (suc n) (front ++ run last.range.lo (n + 1) kind ∷ [])
gone_on v l cs n front last kind k ends same e low =
    let new = run last.range.lo (n + 1) kind in
    let fronts = each_left (IsRun v l cs n) front (last ∷ []) k.runs_are in
    let mine = (each_right (IsRun v l cs n) front (last ∷ []) k.runs_are).0 in
    let before = pairs_across IsBefore front (last ∷ []) k.rise in record {
      runs_are = each_append (IsRun v l cs (suc n)) front (new ∷ []) (later v l cs n front fronts)
          (longer_run v l cs n last kind mine ends same e, tt);
      rise = pairs_append IsBefore front (new ∷ []) (pairs_left IsBefore front (last ∷ []) k.rise) (tt, tt)
          (each_weak (λ r. EachOf (IsBefore r) (last ∷ [])) (λ r. EachOf (IsBefore r) (new ∷ [])) front (λ r b. (b.0, tt)) before);
      cover = λ a other lt f. elim (cases_eq a n) [
        | inl q ↦ any_right (run_holds a) front (new ∷ [])
            (let here : holds a (extent last.range.lo (n + 1)) ≡ true =
            holds_from a (extent last.range.lo (n + 1)) (omega arith) (omega arith) in rw here refl)
        | inr q ↦ any_last (run_holds a) front last new (λ t.
            let parts = holds_parts a last.range t in
            let from = parts.0 in
            let to = parts.1 in holds_from a (extent last.range.lo (n + 1)) from (omega arith)) (k.cover a other (omega arith) f)
      ];
    }

kinds_same : (p q : Kind) → same_kind p q ≡ true → p ≡ q
kinds_same (Claimed i) (Claimed j) h = ap Claimed (eqb-true i j h)
kinds_same Foreign Foreign h = refl
kinds_same Padding Padding h = refl
kinds_same Stray Stray h = refl
kinds_same (Claimed i) Foreign h = absurd (cc)
kinds_same (Claimed i) Padding h = absurd (cc)
kinds_same (Claimed i) Stray h = absurd (cc)
kinds_same Foreign (Claimed j) h = absurd (cc)
kinds_same Foreign Padding h = absurd (cc)
kinds_same Foreign Stray h = absurd (cc)
kinds_same Padding (Claimed j) h = absurd (cc)
kinds_same Padding Foreign h = absurd (cc)
kinds_same Padding Stray h = absurd (cc)
kinds_same Stray (Claimed j) h = absurd (cc)
kinds_same Stray Foreign h = absurd (cc)
kinds_same Stray Padding h = absurd (cc)

-- the runs with one more address
grown : (v : Image) (l : Layout) (cs : List Claim) (n : ℕ) (runs : List Run) (kind : Kind) → AreRuns v l cs n runs →
    kind_at v l cs n ≡ Some kind → AreRuns v l cs (suc n) (with_address runs n kind)
unfolding with_address
grown v l cs n runs kind k e = at (goes_on runs n kind) refl
  where
    longer : HasLast runs → ((last_run runs).range.hi == n) ≡ true → same_kind (last_run runs).kind kind ≡ true →
        AreRuns v l cs (suc n) (slice_set runs (length runs - 1) (run (last_run runs).range.lo (n + 1) kind))
    longer h ends same =
        let front = h.front in
        let last : Run = h.last in
        let all : AreRuns v l cs n (front ++ last ∷ []) = subst (AreRuns v l cs n) h.same k in
        let is_last : last_run runs ≡ last = ap last_run h.same ∙ last_is front last in
        let hi : last.range.hi ≡ n = subst (λ (r : Run). r.range.hi ≡ n) is_last (eqb-true (last_run runs).range.hi n ends) in
        let kind_is : last.kind ≡ kind = subst (λ (r : Run). r.kind ≡ kind) is_last (kinds_same (last_run runs).kind kind same) in
        let mine = (each_right (IsRun v l cs n) front (last ∷ []) all.runs_are).0 in
        let ordered = mine.ordered in
        let new = λ (r : Run). run r.range.lo (n + 1) kind in
        let set : slice_set runs (length runs - 1) (new (last_run runs)) ≡ front ++ new last ∷ [] =
        ap (λ rs. slice_set rs (length rs - 1) (new (last_run rs))) h.same
        ∙ ap (λ r. slice_set (front ++ last ∷ []) (length (front ++ last ∷ []) - 1) (new r)) (last_is front last)
        ∙ set_last front last (new last) in
        subst (AreRuns v l cs (suc n)) (sym set) (gone_on v l cs n front last kind all hi kind_is e (omega arith))

    at : (b : Bool) → goes_on runs n kind ≡ b → AreRuns v l cs (suc n)
        (if b then slice_set runs (length runs - 1) (run (last_run runs).range.lo (n + 1) kind) else runs ++ run n (n + 1) kind ∷ [])
    at false g = begun v l cs n runs kind k e
    at true g =
        let some = nat_lt 0 (length runs) in
        let ends = (last_run runs).range.hi == n in
        let same = same_kind (last_run runs).kind kind in
        let one = and_parts (some && ends) same g in
        let two = and_parts some ends one.0 in longer (has_last runs two.0) two.1 one.1

-- ---- all addresses below n

abbrev runs_below : Image → Layout → List Claim → ℕ → List Run
runs_below v l cs n = (tally_below v l cs n).runs

runs_step : (v : Image) (l : Layout) (cs : List Claim) (n : ℕ) (t : Tally) (o : Option Kind) → kind_at v l cs n ≡ o →
    AreRuns v l cs n t.runs → AreRuns v l cs (suc n) (tally_with t n o).runs
unfolding tally_with
runs_step v l cs n t None e k = without v l cs n t.runs k e
runs_step v l cs n t (Some kind) e k = grown v l cs n t.runs kind k e

are_runs : (v : Image) (l : Layout) (cs : List Claim) (n : ℕ) → AreRuns v l cs n (runs_below v l cs n)
unfolding tally_below
are_runs v l cs zero = record { runs_are = tt; rise = tt; cover = λ a kind lt e. absurd (omega arith) }
are_runs v l cs (suc n) = runs_step v l cs n (tally_below v l cs n) (kind_at v l cs n) refl (are_runs v l cs n)

-- ---- spans

map_get : (cs : List Claim) (runs : List Run) (i : ℕ) (r : Run) → slice_get runs i ≡ Some r →
    slice_get (map (span_of cs) runs) i ≡ Some (span_of cs r)
map_get cs [] i r h = absurd (cc)
map_get cs (x ∷ xs) zero r h = let s : x ≡ r = cc in ap (λ (y : Run). Some (span_of cs y)) s
map_get cs (x ∷ xs) (suc i) r h = map_get cs xs i r h

get_map : (cs : List Claim) (runs : List Run) (i : ℕ) (c : Claim) → slice_get (map (span_of cs) runs) i ≡ Some c →
    (r : Run) × (slice_get runs i ≡ Some r) × (c ≡ span_of cs r)
get_map cs [] i c h = absurd (cc)
get_map cs (x ∷ xs) zero c h = let s : span_of cs x ≡ c = cc in (x, refl, sym s)
get_map cs (x ∷ xs) (suc i) c h = get_map cs xs i c h

some_kind : (v : Image) (l : Layout) (cs : List Claim) (a byte : ℕ) → byte_at v a ≡ Some byte →
    kind_at v l cs a ≡ Some (kind_of_byte v l cs a byte)
unfolding kind_at
some_kind v l cs a byte e = rw e refl

-- the run of a span
run_in : (cs : List Claim) (runs : List Run) (a i : ℕ) → IsInSpan (map (span_of cs) runs) a i →
    (r : Run) × (slice_get runs i ≡ Some r) × (holds a r.range ≡ true)
run_in cs runs a i s =
    let g = get_map cs runs i s.span s.at in (g.0, g.1, subst (λ (c : Claim). holds a c.range ≡ true) g.2 s.within)

before_once : (a : ℕ) (p q : Run) → IsBefore p q → holds a p.range ≡ true → holds a q.range ≡ true → ⊥
before_once a p q b h k =
    let x = holds_parts a p.range h in
    let y = holds_parts a q.range k in
    let high = x.1 in
    let low = y.0 in absurd (omega arith)

pub spans_cover : SpansCoverWhatIsLoaded
unfolding account_of
spans_cover v l cs externals n =
    let runs = runs_below v l cs n in
    let k = are_runs v l cs n in record {
      each = λ a byte lt e.
          let r = any_item (run_holds a) runs (k.cover a _ lt (some_kind v l cs a byte e)) in
          (r.0, record { span = span_of cs r.1; at = map_get cs runs r.0 r.1 r.2; within = r.3 });
      one = λ a i j s t.
          let p = run_in cs runs a i s in
          let q = run_in cs runs a j t in
          elim (cases_order i j) [
            | inl e ↦ e
            | inr (inl lt) ↦ absurd (before_once a p.0 q.0 (pairs_get IsBefore runs k.rise i j p.0 q.0 lt p.1 q.1) p.2 q.2)
            | inr (inr lt) ↦ absurd (before_once a q.0 p.0 (pairs_get IsBefore runs k.rise j i q.0 p.0 lt q.1 p.1) q.2 p.2)
          ];
      loaded = λ a i s.
          let p = run_in cs runs a i s in
          some_byte v l cs a (p.0).kind ((each_get (IsRun v l cs n) runs k.runs_are i p.0 p.1).kinds a p.2);
    }
