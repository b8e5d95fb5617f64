-- Pieces taken one after another.
use Rattle.std.proofs.Common.{◌≡◌, ℕ, ◌+◌, ◌-◌, List, ◌++◌, length, take, drop, Option, Some, None, append_assoc, ◌∙◌, ap, arith}
use Rattle.std.proofs.Common.{length-drop}
use Rattle.std.proofs.lemmas.List.{take_all}
use Rattle.std.proofs.Math.Seq.{take-add}
use Rattle.outside.specs.Sink.{Appends}

-- one piece is taken after another
pub appends_both : (a b c : Option (List ℕ)) (xs ys : List ℕ) → Appends a b xs → Appends b c ys → Appends a c (xs ++ ys)
appends_both None b c xs ys p q = rw p at q
appends_both (Some old) b c xs ys p q = let q' : Appends (Some (old ++ xs)) c ys = rw p at q in q' ∙ ap Some (append_assoc old xs ys)

-- the first `i` bytes are taken, and then `n` of the rest
pub appends_more : (a b c : Option (List ℕ)) (xs : List ℕ) (i n : ℕ) → Appends a b (take i xs)
    → Appends b c (take n (take (length xs - i) (drop i xs))) → Appends a c (take (i + n) xs)
appends_more a b c xs i n p q =
    let whole : take (length xs - i) (drop i xs) ≡ drop i xs = take_all (length xs - i) (drop i xs) (omega (arith, length-drop i xs)) in
    rw (take-add i n xs) (appends_both a b c (take i xs) (take n (drop i xs)) p (rw whole at q))
