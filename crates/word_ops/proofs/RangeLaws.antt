-- Two ranges meet exactly where some address is in both.
use Rattle.std.proofs.Common.{◌≡◌, ◌↔◌, ℕ, ◌<◌, ◌≤◌, true, arith}
use Rattle.std.specs.Prelude.{nat_le, nat_lt, max, min}
use Rattle.std.proofs.lemmas.Bool.{ltb-true, leb-true, lt-ltb, le-leb, and_parts, and_from}
use Rattle.word_ops.specs.Ranges.{Extent, holds, meets, HaveCommon}

holds_from : (a : ℕ) (p : Extent) → p.lo ≤ a → a < p.hi → holds a p ≡ true
holds_from a p l h = and_from (nat_le p.lo a) (nat_lt a p.hi) (le-leb p.lo a l) (lt-ltb a p.hi h)

holds_parts : (a : ℕ) (p : Extent) → holds a p ≡ true → (p.lo ≤ a) × (a < p.hi)
holds_parts a p h =
    let t = and_parts (nat_le p.lo a) (nat_lt a p.hi) h in
    (leb-true p.lo a t.0, ltb-true a p.hi t.1)

common_from : (p q : Extent) → meets p q ≡ true → HaveCommon p q
common_from p q h =
    let less : max p.lo q.lo < min p.hi q.hi = ltb-true _ _ h in
    (max p.lo q.lo, holds_from (max p.lo q.lo) p (omega arith) (omega arith), holds_from (max p.lo q.lo) q (omega arith) (omega arith))

meets_from : (p q : Extent) → HaveCommon p q → meets p q ≡ true
meets_from p q h =
    let in_p = holds_parts h.0 p h.1 in
    let in_q = holds_parts h.0 q h.2 in
    lt-ltb _ _ (omega (arith, in_p.0, in_p.1, in_q.0, in_q.1))

pub meets_by_address : (p q : Extent) → (meets p q ≡ true) ↔ HaveCommon p q
meets_by_address p q = (common_from p q, meets_from p q)
