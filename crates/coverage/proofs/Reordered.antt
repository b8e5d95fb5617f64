-- The account of claims that are apart is that of the same claims in another order.
use Rattle.std.proofs.Common.{◌≡◌, ℕ, zero, suc, ◌+◌, ◌-◌, ◌%◌, ◌^◌, ◌<◌, ◌≤◌, inl, inr, Bool, true, false, ◌||◌, ◌==◌, List, [], ◌∷◌, ◌++◌}
use Rattle.std.proofs.Common.{length, map, get_or, position, Option, Some, None, refl, sym, ap, subst, ◌∙◌, arith, if◌then◌else◌}
use Rattle.std.specs.Prelude.{option_map, slice_get, slice_set, nat_lt}
use Rattle.std.specs.List.{list_any, sum_by}
use Rattle.std.specs.Option.{option_map_or}
use Rattle.std.proofs.lemmas.Bool.{cases_Bool, cases_order, cases_eq, both_ways, eqb-true, eq-eqb, ne_eqb, false_from_ne_true}
use Rattle.std.proofs.lemmas.Bool.Decides.{nat_tests}
use Rattle.std.proofs.lemmas.List.{map-set, map_push, length-map}
use Rattle.std.proofs.lemmas.List.Quantifiers.{position-Some}
use Rattle.std.proofs.lemmas.List.Sums.{sum_by-cons}
use Rattle.std.proofs.lemmas.Option.{slice_get-get_or, slice_get_within, get_or_from_slice_get}
use Rattle.ordered_tests.proofs.Lists.{pairs_get}
use Rattle.word_ops.specs.Ranges.{extent, holds, meets}
use Rattle.image_model.specs.Image.{Image}
use Rattle.image_model.specs.Loaded.{byte_at}
use Rattle.layout_model.specs.Layouts.{Layout, is_foreign}
use Rattle.link_model.specs.declared.owner.Owner.{Owner}
use Rattle.link_model.specs.declared.owner.Owner.TheVariants as owners
use Rattle.link_model.specs.Claims.{Claim, AreApart, Apart}
use Rattle.link_model.specs.Overlaps.{is_not_above, with_claim, in_order, no_claim}
use Rattle.link_model.specs.Kinds.{Kind, Claimed, Foreign, Padding, Stray, claim_holds, is_free_nop, is_padding, kind_of_byte, kind_at}
use Rattle.link_model.specs.Account.{Run, Tally, same_kind, last_run, goes_on, with_address, tally_with, tally_below, kind_owner, span_of}
use Rattle.link_model.specs.Account.{is_function_owner, is_table_owner, is_variable_owner, count_of, bytes_of, account_of, account}
use Rattle.link_laws.proofs.Overlaps.{order_apart}
use Rattle.coverage.proofs.Counting.{one_of, bytes_in, count_sum, bytes_sum}
use Rattle.coverage.proofs.Positions.{none_passes, no_place, first_place}

-- ---- two orders of the same claims

pub record Moves (cs ds : List Claim) : Type 0 where
  pub place : ℕ → ℕ
  pub one : (i j : ℕ) → place i ≡ place j → i ≡ j
  pub there : (i : ℕ) → slice_get ds (place i) ≡ slice_get cs i
  pub any : (p : Claim → Bool) → list_any p ds ≡ list_any p cs
  pub sum : (f : Claim → ℕ) → sum_by f ds ≡ sum_by f cs

stays : (cs : List Claim) → Moves cs cs
stays cs = record { place = λ i. i; one = λ i j e. e; there = λ i. refl; any = λ p. refl; sum = λ f. refl }

follows : (cs ds es : List Claim) → Moves cs ds → Moves ds es → Moves cs es
follows cs ds es m n = record {
  place = λ i. n.place (m.place i);
  one = λ i j e. m.one i j (n.one (m.place i) (m.place j) e);
  there = λ i. n.there (m.place i) ∙ m.there i;
  any = λ p. n.any p ∙ m.any p;
  sum = λ f. n.sum f ∙ m.sum f;
}

abbrev behind_first : (ℕ → ℕ) → ℕ → ℕ
behind_first f zero = zero
behind_first f (suc i) = suc (f i)

behind : (c : Claim) (cs ds : List Claim) → Moves cs ds → Moves (c ∷ cs) (c ∷ ds)
behind c cs ds m = record {
  place = behind_first m.place;
  one = once;
  there = stand;
  any = λ p. ap (λ b. p c || b) (m.any p);
  sum = λ f. sum_by-cons f c ds ∙ ap (λ n. f c + n) (m.sum f) ∙ sym (sum_by-cons f c cs);
}
  where
    once : (i j : ℕ) → behind_first m.place i ≡ behind_first m.place j → i ≡ j
    once zero zero e = refl
    once zero (suc j) e = absurd (omega arith)
    once (suc i) zero e = absurd (omega arith)
    once (suc i) (suc j) e = ap suc (m.one i j (omega arith))

    stand : (i : ℕ) → slice_get (c ∷ ds) (behind_first m.place i) ≡ slice_get (c ∷ cs) i
    stand zero = refl
    stand (suc i) = m.there i

abbrev swapped : ℕ → ℕ
swapped zero = 1
swapped (suc zero) = 0
swapped (suc (suc i)) = suc (suc i)

or_swap : (a b c : Bool) → (a || (b || c)) ≡ (b || (a || c))
or_swap true true c = refl
or_swap true false c = refl
or_swap false b c = refl

swap : (c d : Claim) (cs : List Claim) → Moves (c ∷ d ∷ cs) (d ∷ c ∷ cs)
swap c d cs = record {
  place = swapped;
  one = once;
  there = stand;
  any = λ p. or_swap (p d) (p c) (list_any p cs);
  sum = λ f.
      let x = sum_by-cons f d (c ∷ cs) in
      let y = sum_by-cons f c cs in
      let z = sum_by-cons f c (d ∷ cs) in let w = sum_by-cons f d cs in omega (arith, x, y, z, w);
}
  where
    once : (i j : ℕ) → swapped i ≡ swapped j → i ≡ j
    once zero zero e = refl
    once zero (suc zero) e = absurd (omega arith)
    once zero (suc (suc j)) e = absurd (omega arith)
    once (suc zero) zero e = absurd (omega arith)
    once (suc zero) (suc zero) e = refl
    once (suc zero) (suc (suc j)) e = absurd (omega arith)
    once (suc (suc i)) zero e = absurd (omega arith)
    once (suc (suc i)) (suc zero) e = absurd (omega arith)
    once (suc (suc i)) (suc (suc j)) e = e

    stand : (i : ℕ) → slice_get (d ∷ c ∷ cs) (swapped i) ≡ slice_get (c ∷ d ∷ cs) i
    stand zero = refl
    stand (suc zero) = refl
    stand (suc (suc i)) = refl

put : (c : Claim) (ds : List Claim) → Moves (c ∷ ds) (with_claim c ds)
put c [] = stays (c ∷ [])
put c (d ∷ ds) = at (is_not_above c d) (put c ds)
  where
    at : (b : Bool) → Moves (c ∷ ds) (with_claim c ds) → Moves (c ∷ d ∷ ds) (if b then c ∷ d ∷ ds else d ∷ with_claim c ds)
    at true m = stays (c ∷ d ∷ ds)
    at false m = follows (c ∷ d ∷ ds) (d ∷ c ∷ ds) (d ∷ with_claim c ds) (swap c d ds) (behind d (c ∷ ds) (with_claim c ds) m)

pub order_moves : (cs : List Claim) → Moves cs (in_order cs)
order_moves [] = stays []
order_moves (c ∷ cs) =
    follows (c ∷ cs) (c ∷ in_order cs) (with_claim c (in_order cs)) (behind c cs (in_order cs) (order_moves cs)) (put c (in_order cs))

-- ---- kinds

abbrev named : (ℕ → ℕ) → Kind → Kind
named f (Claimed i) = Claimed (f i)
named f Foreign = Foreign
named f Padding = Padding
named f Stray = Stray

both_hold : (c d : Claim) (a : ℕ) → claim_holds a c ≡ true → claim_holds a d ≡ true → AreApart c d → ⊥
both_hold c d a h k apart = absurd (grind (arith, nat_tests))

-- of claims that are apart, the one that holds an address is the first that does
only_place : (a : ℕ) (ds : List Claim) (j : ℕ) (c : Claim) → Apart ds → slice_get ds j ≡ Some c → claim_holds a c ≡ true →
    position (claim_holds a) ds ≡ Some j
only_place a ds j c apart at holds =
    let within : j < length ds = slice_get_within ds j c at in
    let is : get_or ds j c ≡ c = get_or_from_slice_get ds j c c at in
    let before : (k : ℕ) → k < j → claim_holds a (get_or ds k c) ≡ false = λ k lt.
    false_from_ne_true (claim_holds a (get_or ds k c)) (λ t.
    both_hold (get_or ds k c) c a t holds
    (pairs_get AreApart ds apart k j (get_or ds k c) c lt (slice_get-get_or ds k c (omega arith)) at)) in
    first_place (claim_holds a) ds j c within before (ap (claim_holds a) is ∙ holds)

same_position : (cs ds : List Claim) (m : Moves cs ds) (a : ℕ) → Apart ds →
    position (claim_holds a) ds ≡ option_map m.place (position (claim_holds a) cs)
same_position cs ds m a apart = at (position (claim_holds a) cs) refl
  where
    at : (o : Option ℕ) → position (claim_holds a) cs ≡ o → position (claim_holds a) ds ≡ option_map m.place o
    at None e = no_place (claim_holds a) ds no_claim (m.any (claim_holds a) ∙ none_passes (claim_holds a) cs e)
    at (Some i) e =
        let q = position-Some (claim_holds a) cs i no_claim e in
        only_place a ds (m.place i) (get_or cs i no_claim) apart (m.there i ∙ slice_get-get_or cs i no_claim q.0) q.1

same_nop : (v : Image) (l : Layout) (cs ds : List Claim) → ((p : Claim → Bool) → list_any p ds ≡ list_any p cs) → (x : ℕ) →
    is_free_nop v l ds x ≡ is_free_nop v l cs x
unfolding is_free_nop
same_nop v l cs ds any x = rw (any (λ (c : Claim). meets (extent x (x + 4)) c.range)) refl

named_or : (f : ℕ → ℕ) (o : Option ℕ) (b c : Bool) →
    option_map_or Claimed (option_map f o) (if b then Foreign else if c then Padding else Stray)
    ≡ named f (option_map_or Claimed o (if b then Foreign else if c then Padding else Stray))
named_or f (Some i) b c = refl
named_or f None true c = refl
named_or f None false true = refl
named_or f None false false = refl

same_byte : (v : Image) (l : Layout) (cs ds : List Claim) (m : Moves cs ds) → Apart ds → (a byte : ℕ) →
    kind_of_byte v l ds a byte ≡ named m.place (kind_of_byte v l cs a byte)
same_byte v l cs ds m apart a byte =
    rw (same_position cs ds m a apart, same_nop v l cs ds m.any (a - a % 4))
    (named_or m.place (position (claim_holds a) cs) (is_foreign l a) (is_padding v l cs a byte))

same_at : (v : Image) (l : Layout) (cs ds : List Claim) (m : Moves cs ds) → Apart ds → (a : ℕ) →
    kind_at v l ds a ≡ option_map (named m.place) (kind_at v l cs a)
unfolding kind_at
same_at v l cs ds m apart a = at (byte_at v a)
  where
    at : (o : Option ℕ) → option_map (kind_of_byte v l ds a) o ≡ option_map (named m.place) (option_map (kind_of_byte v l cs a) o)
    at None = refl
    at (Some byte) = ap Some (same_byte v l cs ds m apart a byte)

-- ---- runs

same_numbers : (f : ℕ → ℕ) → ((i j : ℕ) → f i ≡ f j → i ≡ j) → (i j : ℕ) → (f i == f j) ≡ (i == j)
same_numbers f one i j = elim (cases_eq i j) [
  | inl e ↦ eq-eqb (f i) (f j) (ap f e) ∙ sym (eq-eqb i j e)
  | inr e ↦ ne_eqb (f i) (f j) (λ s. e (one i j s)) ∙ sym (ne_eqb i j e)
]

same_named : (f : ℕ → ℕ) → ((i j : ℕ) → f i ≡ f j → i ≡ j) → (k q : Kind) → same_kind (named f k) (named f q) ≡ same_kind k q
same_named f one (Claimed i) (Claimed j) = same_numbers f one i j
same_named f one (Claimed i) Foreign = refl
same_named f one (Claimed i) Padding = refl
same_named f one (Claimed i) Stray = refl
same_named f one Foreign (Claimed j) = refl
same_named f one Foreign Foreign = refl
same_named f one Foreign Padding = refl
same_named f one Foreign Stray = refl
same_named f one Padding (Claimed j) = refl
same_named f one Padding Foreign = refl
same_named f one Padding Padding = refl
same_named f one Padding Stray = refl
same_named f one Stray (Claimed j) = refl
same_named f one Stray Foreign = refl
same_named f one Stray Padding = refl
same_named f one Stray Stray = refl

abbrev run_named : (ℕ → ℕ) → Run → Run
run_named f r = record { range = r.range; kind = named f r.kind }

abbrev runs_named : (ℕ → ℕ) → List Run → List Run
runs_named f runs = map (run_named f) runs

abbrev no_run : Run
no_run = record { range = extent 0 0; kind = Stray }

get_named : (f : ℕ → ℕ) (runs : List Run) (i : ℕ) → get_or (runs_named f runs) i no_run ≡ run_named f (get_or runs i no_run)
get_named f [] i = refl
get_named f (r ∷ runs) zero = refl
get_named f (r ∷ runs) (suc i) = get_named f runs i

last_named : (f : ℕ → ℕ) (runs : List Run) → last_run (runs_named f runs) ≡ run_named f (last_run runs)
last_named f runs =
    ap (λ n. get_or (runs_named f runs) (n - 1) no_run) (length-map runs (run_named f)) ∙ get_named f runs (length runs - 1)

goes_named : (f : ℕ → ℕ) → ((i j : ℕ) → f i ≡ f j → i ≡ j) → (runs : List Run) (a : ℕ) (k : Kind) →
    goes_on (runs_named f runs) a (named f k) ≡ goes_on runs a k
goes_named f one runs a k =
    rw (last_named f runs, length-map runs (run_named f), same_named f one (last_run runs).kind k) refl

address_named : (f : ℕ → ℕ) → ((i j : ℕ) → f i ≡ f j → i ≡ j) → (runs : List Run) (a : ℕ) (k : Kind) →
    with_address (runs_named f runs) a (named f k) ≡ runs_named f (with_address runs a k)
unfolding with_address
address_named f one runs a k = at (goes_on (runs_named f runs) a (named f k)) (goes_on runs a k) (goes_named f one runs a k)
  where
    low : (last_run (runs_named f runs)).range.lo ≡ (last_run runs).range.lo
    low = ap (λ (r : Run). r.range.lo) (last_named f runs)

    at : (b c : Bool) → b ≡ c →
        (if b then slice_set (runs_named f runs) (length (runs_named f runs) - 1)
        (record { range = extent (last_run (runs_named f runs)).range.lo (a + 1); kind = named f k })
        else runs_named f runs ++ record { range = extent a (a + 1); kind = named f k } ∷ [])
        ≡ runs_named f (if c then slice_set runs (length runs - 1) (record { range = extent (last_run runs).range.lo (a + 1); kind = k })
        else runs ++ record { range = extent a (a + 1); kind = k } ∷ [])
    at true true e =
        rw (last_named f runs, length-map runs (run_named f)) (sym (map-set (run_named f) runs (length runs - 1)
        (record { range = extent (last_run runs).range.lo (a + 1); kind = k })))
    at false false e = sym (map_push (run_named f) runs (record { range = extent a (a + 1); kind = k }))
    at true false e = absurd (cc)
    at false true e = absurd (cc)

abbrev tally_named : (ℕ → ℕ) → Tally → Tally
tally_named f t = record { runs = runs_named f t.runs; padding = t.padding; foreign = t.foreign; loaded = t.loaded }

with_named : (f : ℕ → ℕ) → ((i j : ℕ) → f i ≡ f j → i ≡ j) → (t : Tally) (a : ℕ) (o : Option Kind) →
    tally_with (tally_named f t) a (option_map (named f) o) ≡ tally_named f (tally_with t a o)
unfolding tally_with
with_named f one t a None = refl
with_named f one t a (Some k) =
    rw (address_named f one t.runs a k, same_named f one k Padding, same_named f one k Foreign) refl

below_named : (v : Image) (l : Layout) (cs ds : List Claim) (m : Moves cs ds) → Apart ds → (n : ℕ) →
    tally_below v l ds n ≡ tally_named m.place (tally_below v l cs n)
unfolding tally_below
below_named v l cs ds m apart zero = refl
below_named v l cs ds m apart (suc n) =
    rw (below_named v l cs ds m apart n, same_at v l cs ds m apart n)
    (with_named m.place m.one (tally_below v l cs n) n (kind_at v l cs n))

-- ---- spans

owner_named : (cs ds : List Claim) (m : Moves cs ds) (k : Kind) → kind_owner ds (named m.place k) ≡ kind_owner cs k
owner_named cs ds m (Claimed i) = ap (λ o. option_map_or (λ (c : Claim). c.owner) o owners.Padding) (m.there i)
owner_named cs ds m Foreign = refl
owner_named cs ds m Padding = refl
owner_named cs ds m Stray = refl

spans_named : (cs ds : List Claim) (m : Moves cs ds) (runs : List Run) →
    map (span_of ds) (runs_named m.place runs) ≡ map (span_of cs) runs
spans_named cs ds m [] = refl
spans_named cs ds m (r ∷ runs) = rw (owner_named cs ds m r.kind, spans_named cs ds m runs) refl

-- ---- counts

count_same : (p : Owner → Bool) (cs ds : List Claim) → Moves cs ds → count_of p ds ≡ count_of p cs
count_same p cs ds m = count_sum p ds ∙ m.sum (one_of p) ∙ sym (count_sum p cs)

bytes_same : (p : Owner → Bool) (cs ds : List Claim) → Moves cs ds → bytes_of p ds ≡ bytes_of p cs
bytes_same p cs ds m = bytes_sum p ds ∙ m.sum (bytes_in p) ∙ sym (bytes_sum p cs)

-- ---- the account

same_account : (v : Image) (l : Layout) (cs ds : List Claim) (n : ℕ) → Moves cs ds → Apart ds → account v l ds n ≡ account v l cs n
unfolding account account_of
same_account v l cs ds n m apart =
    rw (below_named v l cs ds m apart (2 ^ 32)) (rw (
      count_same is_function_owner cs ds m,
      bytes_same is_function_owner cs ds m,
      count_same is_table_owner cs ds m,
      bytes_same is_table_owner cs ds m,
      count_same is_variable_owner cs ds m,
      bytes_same is_variable_owner cs ds m,
      spans_named cs ds m (tally_below v l cs (2 ^ 32)).runs,
    ) refl)

pub account_in_order : (v : Image) (l : Layout) (cs : List Claim) (n : ℕ) → Apart cs → account v l (in_order cs) n ≡ account v l cs n
account_in_order v l cs n apart = same_account v l cs (in_order cs) n (order_moves cs) (order_apart cs apart)

-- ---- strays, of claims that may meet

stray_or : (o p : Option ℕ) (b c : Bool) → (o ≡ None → p ≡ None) →
    option_map_or Claimed o (if b then Foreign else if c then Padding else Stray) ≡ Stray →
    option_map_or Claimed p (if b then Foreign else if c then Padding else Stray) ≡ Stray
stray_or (Some i) p b c h e = absurd (cc)
stray_or None p b c h e = rw (h refl) e

stray_same : (v : Image) (l : Layout) (cs ds : List Claim) → ((p : Claim → Bool) → list_any p ds ≡ list_any p cs) → (a : ℕ) →
    kind_at v l cs a ≡ Some Stray → kind_at v l ds a ≡ Some Stray
unfolding kind_at
stray_same v l cs ds any a e = at (byte_at v a) e
  where
    nop : is_free_nop v l ds (a - a % 4) ≡ is_free_nop v l cs (a - a % 4)
    nop = same_nop v l cs ds any (a - a % 4)

    at : (o : Option ℕ) → option_map (kind_of_byte v l cs a) o ≡ Some Stray → option_map (kind_of_byte v l ds a) o ≡ Some Stray
    at None h = absurd (cc)
    at (Some byte) h =
        let stray : kind_of_byte v l cs a byte ≡ Stray = cc in
        ap Some (rw nop (stray_or (position (claim_holds a) cs) (position (claim_holds a) ds) (is_foreign l a)
        (is_padding v l cs a byte)
        (λ none. no_place (claim_holds a) ds no_claim (any (claim_holds a) ∙ none_passes (claim_holds a) cs none)) stray))

pub strays_in_order : (v : Image) (l : Layout) (cs : List Claim) (a : ℕ) → kind_at v l (in_order cs) a ≡ Some Stray →
    kind_at v l cs a ≡ Some Stray
strays_in_order v l cs a e = stray_same v l (in_order cs) cs (λ p. sym ((order_moves cs).any p)) a e

pub strays_as_added : (v : Image) (l : Layout) (cs : List Claim) (a : ℕ) → kind_at v l cs a ≡ Some Stray →
    kind_at v l (in_order cs) a ≡ Some Stray
strays_as_added v l cs a e = stray_same v l cs (in_order cs) (order_moves cs).any a e
