-- No claim in order meets the last full one before it exactly where all claims are apart.
use Rattle.std.proofs.Common.{◌≡◌, ◌≤◌, Bool, true, false, List, [], ◌∷◌, refl, arith, if◌then◌else◌}
use Rattle.std.proofs.lemmas.Bool.{both_ways, not-true}
use Rattle.std.proofs.lemmas.Bool.Decides.{nat_tests}
use Rattle.ordered_tests.specs.Checks.{Check}
use Rattle.link_model.specs.Claims.{Apart, AreApart, Claim}
use Rattle.ordered_tests.specs.Lists.{EachOf, Pairwise}
use Rattle.link_model.specs.declared.fault.Fault.{Fault}
use Rattle.ordered_tests.proofs.Lists.{each_weak}
use Rattle.link_model.specs.Overlaps.{has_addresses, in_order, is_not_above, no_claim, overlap_checks, overlap_pass, with_claim}
use Rattle.word_ops.specs.Ranges.{meets}

abbrev pub Good : Check Fault → Type 0
Good c = c.passes ≡ true

-- ---- an order of claims by lo

abbrev pub LowTo : Claim → Claim → Type 0
LowTo c d = c.range.lo ≤ d.range.lo

-- ---- apart by order: the last full one ends before each later one begins

-- what is full behind `before` begins at its end or later
abbrev Behind : Claim → Claim → Type 0
Behind before c = has_addresses c ≡ true → has_addresses before ≡ true → before.range.hi ≤ c.range.lo

apart_behind : (c d : Claim) → Behind c d → AreApart c d
apart_behind c d h = at (has_addresses c) (has_addresses d) refl refl
  where
    at : (x y : Bool) → has_addresses c ≡ x → has_addresses d ≡ y → AreApart c d
    at true true e f = let le = h f e in grind (arith, nat_tests)
    at false y e f = grind (arith, nat_tests)
    at true false e f = grind (arith, nat_tests)

meet_behind : (c d : Claim) → LowTo c d → meets c.range d.range ≡ false → Behind c d
meet_behind c d low m f e = grind (arith, nat_tests)

behind_later : (b c d : Claim) → Behind b c → LowTo c d → has_addresses c ≡ true → has_addresses b ≡ true → Behind c d → Behind b d
behind_later b c d h low f g k e t = let x = h f g in omega arith

not_full : (c d : Claim) → has_addresses c ≡ false → Behind c d
not_full c d e f g = absurd (both_ways (has_addresses c) e g)

empty_behind : (c d : Claim) → has_addresses d ≡ false → Behind c d
empty_behind c d e f g = absurd (both_ways (has_addresses d) e f)

each_all : {X : Type 0} (P : X → Type 0) (xs : List X) → ((x : X) → P x) → EachOf P xs
each_all P [] h = tt
each_all P (x ∷ xs) h = (h x, each_all P xs h)

-- in a list that rises by lo: where none meets the last full one before it, each is behind all before it
all_behind : (before : Claim) (cs : List Claim) → Pairwise LowTo (before ∷ cs) → EachOf Good (overlap_checks before cs) →
    EachOf (Behind before) cs × Pairwise Behind cs
all_behind before [] rise ok = (tt, tt)
all_behind before (c ∷ cs) rise ok = at (has_addresses c) refl ok.1 (λ k. all_behind c cs rise.1 k) (λ k. all_behind before cs
    (rise.0.1, rise.1.1) k)
  where
    here : Behind before c
    here = meet_behind before c rise.0.0 (not-true (meets before.range c.range) ok.0)

    at : (x : Bool) → has_addresses c ≡ x → EachOf Good (overlap_checks (if x then c else before) cs) →
        (EachOf Good (overlap_checks c cs) → EachOf (Behind c) cs × Pairwise Behind cs) →
        (EachOf Good (overlap_checks before cs) → EachOf (Behind before) cs × Pairwise Behind cs) → EachOf (Behind before)
        (c ∷ cs) × Pairwise Behind (c ∷ cs)
    at true e k one two =
        let r = one k in
        ((here, each_weak (LowTo c) (Behind before) cs (λ d low f g. let x = here e g in omega arith) rise.1.0), r)
    at false e k one two = let r = two k in ((empty_behind before c e, r.0), (each_all (Behind c) cs (λ d. not_full c d e), r.1))

-- and back
apart_good : (before : Claim) (cs : List Claim) → Pairwise AreApart (before ∷ cs) → EachOf Good (overlap_checks before cs)
apart_good before [] p = tt
apart_good before (c ∷ cs) p = (rw p.0.0 refl, at (has_addresses c) (apart_good c cs p.1) (apart_good before cs (p.0.1, p.1.1)))
  where
    at : (x : Bool) → EachOf Good (overlap_checks c cs) → EachOf Good (overlap_checks before cs) →
        EachOf Good (overlap_checks (if x then c else before) cs)
    at true one two = one
    at false one two = two

-- ---- the order changes nothing

apart_turned : (c d : Claim) → AreApart c d → AreApart d c
apart_turned c d h = grind (arith, nat_tests)

pub put_each : (P : Claim → Type 0) (c : Claim) (ds : List Claim) → P c → EachOf P ds → EachOf P (with_claim c ds)
put_each P c [] h e = (h, tt)
put_each P c (d ∷ ds) h e = at (is_not_above c d) (put_each P c ds h e.1)
  where
    at : (x : Bool) → EachOf P (with_claim c ds) → EachOf P (if x then c ∷ d ∷ ds else d ∷ with_claim c ds)
    at true k = (h, e)
    at false k = (e.0, k)

each_put : (P : Claim → Type 0) (c : Claim) (ds : List Claim) → EachOf P (with_claim c ds) → P c × EachOf P ds
each_put P c [] e = (e.0, tt)
each_put P c (d ∷ ds) e = at (is_not_above c d) e (λ k. each_put P c ds k)
  where
    at : (x : Bool) → EachOf P (if x then c ∷ d ∷ ds else d ∷ with_claim c ds) → (EachOf P (with_claim c ds) → P c × EachOf P ds) →
        P c × (P d × EachOf P ds)
    at true k r = (k.0, k.1)
    at false k r = let q = r k.1 in (q.0, (k.0, q.1))

put_apart : (c : Claim) (ds : List Claim) → EachOf (AreApart c) ds → Apart ds → Apart (with_claim c ds)
put_apart c [] e p = (tt, tt)
put_apart c (d ∷ ds) e p = at (is_not_above c d) (put_apart c ds e.1 p.1)
  where
    at : (x : Bool) → Apart (with_claim c ds) → Apart (if x then c ∷ d ∷ ds else d ∷ with_claim c ds)
    at true k = (e, p)
    at false k = (put_each (AreApart d) c ds (apart_turned c d e.0) p.0, k)

apart_put : (c : Claim) (ds : List Claim) → Apart (with_claim c ds) → EachOf (AreApart c) ds × Apart ds
apart_put c [] p = (tt, tt)
apart_put c (d ∷ ds) p = at (is_not_above c d) p (λ k. apart_put c ds k)
  where
    at : (x : Bool) → Apart (if x then c ∷ d ∷ ds else d ∷ with_claim c ds) → (Apart (with_claim c ds) →
        EachOf (AreApart c) ds × Apart ds) → EachOf (AreApart c) (d ∷ ds) × Apart (d ∷ ds)
    at true k r = (k.0, k.1)
    at false k r = let q = r k.1 in let w = each_put (AreApart d) c ds k.0 in ((apart_turned d c w.0, q.0), (w.1, q.1))

put_rises : (c : Claim) (ds : List Claim) → Pairwise LowTo ds → Pairwise LowTo (with_claim c ds)
put_rises c [] p = (tt, tt)
put_rises c (d ∷ ds) p = at (is_not_above c d) refl (put_rises c ds p.1)
  where
    at : (x : Bool) → is_not_above c d ≡ x → Pairwise LowTo (with_claim c ds) →
        Pairwise LowTo (if x then c ∷ d ∷ ds else d ∷ with_claim c ds)
    at true e k = let low : c.range.lo ≤ d.range.lo = grind (arith, nat_tests) in (
      (
        low,
        each_weak (LowTo d) (LowTo c) ds
            (λ z q. omega arith) p.0,
      ),
      p,
    )
    at false e k = let low : d.range.lo ≤ c.range.lo = grind (arith, nat_tests) in (put_each (LowTo d) c ds low p.0, k)

pub order_rises : (cs : List Claim) → Pairwise LowTo (in_order cs)
order_rises [] = tt
order_rises (c ∷ cs) = put_rises c (in_order cs) (order_rises cs)

order_each : (P : Claim → Type 0) (cs : List Claim) → EachOf P cs → EachOf P (in_order cs)
order_each P [] e = tt
order_each P (c ∷ cs) e = put_each P c (in_order cs) e.0 (order_each P cs e.1)

each_order : (P : Claim → Type 0) (cs : List Claim) → EachOf P (in_order cs) → EachOf P cs
each_order P [] e = tt
each_order P (c ∷ cs) e = let q = each_put P c (in_order cs) e in (q.0, each_order P cs q.1)

pub order_apart : (cs : List Claim) → Apart cs → Apart (in_order cs)
order_apart [] p = tt
order_apart (c ∷ cs) p = put_apart c (in_order cs) (order_each (AreApart c) cs p.0) (order_apart cs p.1)

apart_order : (cs : List Claim) → Apart (in_order cs) → Apart cs
apart_order [] p = tt
apart_order (c ∷ cs) p = let q = apart_put c (in_order cs) p in (each_order (AreApart c) cs q.0, apart_order cs q.1)

-- ---- the tests of overlap

behind_apart : (cs : List Claim) → Pairwise Behind cs → Apart cs
behind_apart [] p = tt
behind_apart (c ∷ cs) p = (each_weak (Behind c) (AreApart c) cs (λ d h. apart_behind c d h) p.0, behind_apart cs p.1)

pub overlaps_right : (cs : List Claim) → EachOf Good (overlap_pass cs) → Apart cs
unfolding overlap_pass
overlaps_right cs e = apart_order cs (behind_apart (in_order cs)
    (all_behind no_claim (in_order cs) (each_all (LowTo no_claim) (in_order cs) (λ c. omega arith), order_rises cs) e).1)

pub overlaps_pass : (cs : List Claim) → Apart cs → EachOf Good (overlap_pass cs)
unfolding overlap_pass
overlaps_pass cs p =
    apart_good no_claim (in_order cs) (each_all (AreApart no_claim) (in_order cs) (λ c. grind (arith, nat_tests)), order_apart cs p)
