-- A name that has fewer bytes than the start of a name is found by the starts of names.
use Rattle.std.proofs.Common.{◌≡◌, ℕ, ◌<◌, ◌≤◌, List, length, take, inl, inr, sym, ap, ◌∙◌, arith}
use Rattle.std.proofs.lemmas.Bool.{cases_lt}
use Rattle.std.proofs.lemmas.List.{length-take, take_all}

-- a start that is shorter than it may be is the name
pub whole_start : (n : ℕ) (name start : List ℕ) → length start < n → take n name ≡ start → name ≡ start
whole_start n name start short h = elim (cases_lt (length name) n) [
  | inl less ↦ sym (take_all n name (omega arith)) ∙ h
  | inr more ↦ absurd (omega (arith, length-take n name, ap length h))
]

-- and a name that is shorter is its own start
pub start_whole : (n : ℕ) (name : List ℕ) → length name ≤ n → take n name ≡ name
start_whole n name short = take_all n name short
